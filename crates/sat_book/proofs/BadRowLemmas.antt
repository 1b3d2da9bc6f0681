-- Which row of a store is the first that holds no record, in the words of version 1.
use Rattle.std.proofs.Common.{◌≡◌, ◌≢◌, ◌⊎◌, ◌↔◌, ℕ, suc, zero, ◌<◌, ◌≤◌, inl, inr, List, [], ◌∷◌, ◌++◌, Option, Some, None, length, get_or, refl, sym, ap, subst, ◌∙◌, arith, lit<}
use Rattle.std.specs.Prelude.{map, slice_get, MatchOption, T}
use Rattle.std.specs.List.{insert}
use Rattle.std.specs.Cmp.{nat_cmp_is}
use Rattle.std.specs.Cmp.Lexicographic.{slice_cmp}
use Rattle.std.specs.FinMap as maps
use Rattle.std.specs.FinMap.Entries.{below_all}
use Rattle.std.specs.declared.cmp.Ordering.{Ordering}
use Rattle.std.specs.declared.cmp.Ordering.TheVariants.{Less}
use Rattle.std.specs.Ordering.{is_lt, nat_cmp, ordering_then}
use Rattle.sat_base.specs.declared.kinds.TheConstants as kinds
use Rattle.sat_base.specs.declared.month.Month.{Month}
use Rattle.sat_base.specs.declared.rates.Tariff.{Tariff}
use Rattle.sat_base.specs.declared.rows.Row.{Row}
use Rattle.sat_base.specs.declared.rows.Change.{Change}
use Rattle.sat_base.specs.declared.rows.Change.TheVariants.{Put}
use Rattle.sat_base.specs.declared.rates.Rates.{Rates}
use Rattle.sat_base.specs.declared.settings.Settings.{Settings}
use Rattle.sat_base.specs.Rows.{Key, Rows, AreInOrder, AreThe, changed, entry, key_cmp, key_of, rows_of}
use Rattle.sat_base.proofs.RowEdits.{are_the_rows, puts_here, puts_in}
use Rattle.sat_base.proofs.RowLists.{split}
use Rattle.record_kinds.specs.declared.rec.Rec.{Rec}
use Rattle.record_kinds.specs.declared.rec.Rec.TheVariants as records
use Rattle.record_rows.specs.declared.upgrading.Upgraded.{Upgraded}
use Rattle.record_rows.specs.declared.version.Version.{Version}
use Rattle.record_rows.specs.declared.version.Version.TheVariants as versions
use Rattle.record_rows.specs.Fits.{Fits}
use Rattle.record_rows.specs.Reading.{IsRowOf}
use Rattle.record_rows.specs.Spelling.{row_of}
use Rattle.record_rows.specs.Version1.{IsOldRow, IsRecordIn1, Implies1, first_tariff, old_row}
use Rattle.record_rows.specs.Versions.{HoldsNone, HoldsSome, Implies, IsRecordIn, IsVersion, UpgradesTo}
use Rattle.record_rows.proofs.VersionLemmas.{replaced_old}
use Rattle.machine_step.specs.Bounds.{Each}
use Rattle.sat_book.specs.Opened.{AreChanges, Becomes, EachUpgrades, IsFirstBad, IsFirstIn, IsSame, IsUpgraded, puts}
use Rattle.sat_book.specs.TableRows.{joined}
use Rattle.sat_book.specs.Version1.{AreOld, IsFirstBad1, IsOldFirst, IsRecord, IsTaken, IsUpgraded1, upgraded, upgrades}
use Rattle.sat_book.proofs.IdLemmas.{own_order}
use Rattle.sat_book.proofs.UpgradeLemmas.{below_at, upgrades_hold}
use Rattle.sat_book.proofs.Version1Lemmas.{OneVersion, apart, first_key, kind_below}

old_first : (loaded : List Row) → IsOldFirst loaded → IsVersion versions.One (slice_get loaded 0)
old_first loaded (s, t, rest, old) =
    subst (λ (l : List Row). IsVersion versions.One (slice_get l 0)) (sym old.are) (s, t.rates, record { settings_fit = old.settings_fit; rates_fit = old.rates_fit; is = refl })

first_old : (loaded : List Row) → IsVersion versions.One (slice_get loaded 0) → IsOldFirst loaded
first_old [] is = absurd is
first_old (first ∷ rest) (s, r, old) =
    (s, first_tariff s r, rest, record { settings_fit = old.settings_fit; rates_fit = old.rates_fit; from = refl; are = ap (λ (z : Row). z ∷ rest) old.is })

-- in a store of version 1, a row with the key of settings stands first
stands_first : (loaded : List Row) → AreInOrder loaded → IsVersion versions.One (slice_get loaded 0) → (i : ℕ) (row : Row) → slice_get loaded i ≡ Some row → key_of row ≡ first_key → i ≡ 0
stands_first [] order is i row at key = absurd is
stands_first (first ∷ rest) order is zero row at key = refl
stands_first (first ∷ rest) order is (suc i) row at key =
    absurd (apart (key_of first) (key_of row) (below_at (key_of first) rest i row (split _ _ order).0 at) (key ∙ sym (ap key_of is.2.is)))

first_holds : (loaded : List Row) (i : ℕ) (row : Row) → IsVersion versions.One (slice_get loaded 0) → i ≡ 0 → slice_get loaded i ≡ Some row → HoldsSome versions.One row
first_holds loaded i row is at_first at =
    let found = subst (IsVersion versions.One) (subst (λ (n : ℕ). slice_get loaded n ≡ Some row) at_first at) is in
    (records.Settings found.0, (found.1, found.2))

record_then : (row : Row) (r : Rec) → Fits r → row ≡ row_of r → (row.kind ≡ kinds.TARIFF → ⊥) → (key_of row ≡ first_key) ⊎ HoldsSome versions.One row
record_then row (records.Settings s) fits is no_tariff = inl (ap key_of is)
record_then row (records.Tariff t) fits is no_tariff = absurd (no_tariff (ap (λ (z : Row). z.kind) is))
record_then row r fits is no_tariff = inr (r, (fits, is))

record_now : (row : Row) (r : Rec) → IsRecordIn1 row r → (key_of row ≡ first_key) ⊎ IsRecord row
record_now row (records.Settings s) is = inl (ap key_of is.1.is)
record_now row (records.Tariff t) is = absurd is
record_now row r is = inr (r, is.0, is.1)

taken_holds : (v : Version) (loaded : List Row) → AreInOrder loaded → IsVersion v (slice_get loaded 0) → (i : ℕ) (row : Row) → slice_get loaded i ≡ Some row → IsTaken loaded i row → HoldsSome v row
taken_holds versions.One loaded order is i row at taken = elim taken.is_record [
  | inl (rec, fits, same) ↦ elim (record_then row rec fits same (taken.no_tariff (first_old loaded is))) [
    | inl key ↦ first_holds loaded i row is (stands_first loaded order is i row at key) at
    | inr holds ↦ holds
  ]
  | inr first ↦ first_holds loaded i row is first.0 at
]
taken_holds versions.Two loaded order is i row at taken = elim taken.is_record [
  | inl (rec, fits, same) ↦ (rec, (fits, same))
  | inr first ↦ absurd (is (old_first loaded first.1))
]

holds_taken : (v : Version) (loaded : List Row) → AreInOrder loaded → IsVersion v (slice_get loaded 0) → (i : ℕ) (row : Row) → slice_get loaded i ≡ Some row → HoldsSome v row → IsTaken loaded i row
holds_taken versions.One loaded order is i row at holds =
    let low = kind_below row holds.0 holds.1 in
    record {
      is_record = elim (record_now row holds.0 holds.1) [
        | inl key ↦ inr (stands_first loaded order is i row at key, first_old loaded is)
        | inr now ↦ inl now
      ];
      no_tariff = λ old tariff. absurd (omega (arith, low, tariff));
    }
holds_taken versions.Two loaded order is i row at holds = record { is_record = inl (holds.0, holds.1.0, holds.1.1); no_tariff = λ old tariff. absurd (is (old_first loaded old)) }

pub bad_as_before : OneVersion → (v : Version) (loaded : List Row) (kind : ℕ) (id : List ℕ) → AreInOrder loaded → IsVersion v (slice_get loaded 0) → IsFirstBad loaded kind id ↔ IsFirstBad1 loaded kind id
bad_as_before version v loaded kind id order is = (to, back)
  where
    to : IsFirstBad loaded kind id → IsFirstBad1 loaded kind id
    to bad =
        let first = subst (λ (w : Version). IsFirstIn w loaded kind id) (version (slice_get loaded 0) bad.version v bad.is_of is) bad.first in
        record {
          place = first.place;
          row = first.row;
          stands = first.stands;
          its_kind = sym first.its_kind;
          its_id = sym first.its_id;
          bad = λ taken. let holds = taken_holds v loaded order is first.place first.row first.stands taken in first.none holds.0 holds.1;
          others = λ i other lt at. holds_taken v loaded order is i other at (first.others i other lt at);
        }

    back : IsFirstBad1 loaded kind id → IsFirstBad loaded kind id
    back bad = record {
      ordered = order;
      version = v;
      is_of = is;
      first = record {
        place = bad.place;
        row = bad.row;
        stands = bad.stands;
        its_kind = sym bad.its_kind;
        its_id = sym bad.its_id;
        none = λ rec holds. bad.bad (holds_taken v loaded order is bad.place bad.row bad.stands (rec, holds));
        others = λ i other lt at. taken_holds v loaded order is i other at (bad.others i other lt at);
      };
    }
