-- What opening says of rows of version 1, from what it says of those of every version.
use Rattle.std.proofs.Common.{◌≡◌, ◌≢◌, ◌⊎◌, ◌↔◌, ℕ, suc, zero, ◌<◌, ◌≤◌, inl, inr, List, [], ◌∷◌, ◌++◌, Option, Some, None, length, get_or, refl, sym, ap, subst, ◌∙◌, arith, lit<}
use Rattle.std.specs.Prelude.{map, slice_get, MatchOption, T}
use Rattle.std.specs.List.{insert}
use Rattle.std.specs.Cmp.{nat_cmp_is}
use Rattle.std.specs.Cmp.Lexicographic.{slice_cmp}
use Rattle.std.specs.FinMap as maps
use Rattle.std.specs.FinMap.Entries.{below_all}
use Rattle.std.specs.declared.cmp.Ordering.{Ordering}
use Rattle.std.specs.declared.cmp.Ordering.TheVariants.{Less}
use Rattle.std.specs.Ordering.{is_lt, nat_cmp, ordering_then}
use Rattle.sat_base.specs.declared.kinds.TheConstants as kinds
use Rattle.sat_base.specs.declared.month.Month.{Month}
use Rattle.sat_base.specs.declared.rates.Tariff.{Tariff}
use Rattle.sat_base.specs.declared.rows.Row.{Row}
use Rattle.sat_base.specs.declared.rows.Change.{Change}
use Rattle.sat_base.specs.declared.rows.Change.TheVariants.{Put}
use Rattle.sat_base.specs.declared.rates.Rates.{Rates}
use Rattle.sat_base.specs.declared.settings.Settings.{Settings}
use Rattle.sat_base.specs.Rows.{Key, Rows, AreInOrder, AreThe, changed, entry, key_cmp, key_of, rows_of}
use Rattle.sat_base.proofs.RowEdits.{are_the_rows, puts_here, puts_in}
use Rattle.sat_base.proofs.RowLists.{split}
use Rattle.record_kinds.specs.declared.rec.Rec.{Rec}
use Rattle.record_kinds.specs.declared.rec.Rec.TheVariants as records
use Rattle.record_rows.specs.declared.upgrading.Upgraded.{Upgraded}
use Rattle.record_rows.specs.declared.version.Version.{Version}
use Rattle.record_rows.specs.declared.version.Version.TheVariants as versions
use Rattle.record_rows.specs.Fits.{Fits}
use Rattle.record_rows.specs.Reading.{IsRowOf}
use Rattle.record_rows.specs.Spelling.{row_of}
use Rattle.record_rows.specs.Version1.{IsOldRow, IsRecordIn1, Implies1, first_tariff, old_row}
use Rattle.record_rows.specs.Versions.{HoldsNone, HoldsSome, Implies, IsRecordIn, IsVersion, UpgradesTo}
use Rattle.record_rows.proofs.VersionLemmas.{replaced_old}
use Rattle.machine_step.specs.Bounds.{Each}
use Rattle.sat_book.specs.Opened.{AreChanges, Becomes, EachUpgrades, IsFirstBad, IsFirstIn, IsSame, IsUpgraded, puts}
use Rattle.sat_book.specs.TableRows.{joined}
use Rattle.sat_book.specs.Version1.{AreOld, IsFirstBad1, IsOldFirst, IsRecord, IsTaken, IsUpgraded1, upgraded, upgrades}
use Rattle.sat_book.proofs.IdLemmas.{own_order}
use Rattle.sat_book.proofs.UpgradeLemmas.{below_at, upgrades_hold}

-- the laws of versions
abbrev pub OneVersion : Type 0
OneVersion = (first : Option Row) (v w : Version) → IsVersion v first → IsVersion w first → v ≡ w

abbrev pub OneRecord : Type 0
OneRecord = (v : Version) (row : Row) (x y : Rec) → IsRecordIn v row x → IsRecordIn v row y → x ≡ y

abbrev pub OneImplied : Type 0
OneImplied = (v : Version) (row : Row) (x y : Rec) → Implies v row x → Implies v row y → x ≡ y

-- the key of settings
abbrev pub first_key : Key
first_key = (kinds.SETTINGS, [])

-- ---- what becomes of the first row, and of the others

first_also : OneImplied → (row : Row) (s : Settings) (r : Rates) → IsOldRow row s r → (also : Option Rec) → MatchOption also ((x : Rec) → Implies1 row x → ⊥) (Implies1 row)
    → also ≡ Some (records.Tariff (first_tariff s r))
first_also one row s r old None is = absurd (is (records.Tariff (first_tariff s r)) (s, r, old, refl))
first_also one row s r old (Some rec) is = ap Some (one versions.One row rec (records.Tariff (first_tariff s r)) is (s, r, old, refl))

abbrev becomes : Settings → Rates → Upgraded
becomes s r = record { rec = records.Settings s; also = Some (records.Tariff (first_tariff s r)) }

first_becomes : OneRecord → OneImplied → (row : Row) (s : Settings) (r : Rates) → IsOldRow row s r → (up : Option Upgraded) → UpgradesTo versions.One row up → up ≡ Some (becomes s r)
first_becomes one implied row s r old None is = absurd (is.no_more (records.Tariff (first_tariff s r)) (s, r, old, refl))
first_becomes one implied row s r old (Some up) is =
    let own : up.rec ≡ records.Settings s = one versions.One row up.rec (records.Settings s) is.record_in (r, old) in
    let also : up.also ≡ Some (records.Tariff (first_tariff s r)) = first_also implied row s r old up.also is.also in
    let both : up ≡ becomes s r =
    ap (λ (x : Rec). record { rec = x; also = up.also }) own ∙ ap (λ (o : Option Rec). record { rec = records.Settings s; also = o }) also in
    ap Some both

-- only settings become others
replaced_key : (row : Row) (r : Rec) → IsRecordIn1 row r → (IsRowOf row r → ⊥) → key_of row ≡ first_key
replaced_key row (records.Settings s) is other = ap key_of is.1.is
replaced_key row (records.Tariff t) is other = absurd is
replaced_key row _ is other = absurd (other is)

stays_key : (row : Row) (r : Rec) → IsRecordIn1 row r → (key_of row ≡ first_key → ⊥) → IsRowOf row r
stays_key row (records.Settings s) is other = absurd (other (ap key_of is.1.is))
stays_key row (records.Tariff t) is other = absurd is
stays_key row _ is other = is

implied_key : (row : Row) (r : Rec) → Implies1 row r → key_of row ≡ first_key
implied_key row (records.Tariff t) is = ap key_of is.2.is
implied_key row _ is = absurd is

pub kind_below : (row : Row) (r : Rec) → IsRecordIn1 row r → row.kind < kinds.TARIFF
kind_below row (records.Settings s) is = let kind = ap (λ (z : Row). z.kind) is.1.is in omega (arith, kind)
kind_below row (records.Tariff t) is = absurd is
kind_below row _ is = let kind = ap (λ (z : Row). z.kind) is.1 in omega (arith, kind)

-- two keys of which one stands before the other differ
pub apart : (a b : Key) → T (is_lt (key_cmp a b)) → b ≡ a → ⊥
apart a b low same = subst (λ (o : Ordering). T (is_lt o)) (own_order a) (subst (λ (k : Key). T (is_lt (key_cmp a k))) same low)

later_keys : (first : Row) (rest : List Row) → key_of first ≡ first_key → T (below_all key_cmp (key_of first) (map entry rest)) → Each (λ row. key_of row ≡ first_key → ⊥) rest
later_keys first [] is low = tt
later_keys first (row ∷ rest) is low =
    let parts = split _ _ low in
    (λ same. apart (key_of first) (key_of row) parts.0 (same ∙ sym is), later_keys first rest is parts.1)

rest_stay : (rest : List Row) (ups : List (Option Upgraded)) → Each (λ row. key_of row ≡ first_key → ⊥) rest → EachUpgrades versions.One rest ups → joined (map puts ups) ≡ []
rest_stay [] [] keys each = refl
rest_stay [] (up ∷ ups) keys each = absurd each
rest_stay (row ∷ rest) [] keys each = absurd each
rest_stay (row ∷ rest) (None ∷ ups) keys each = rest_stay rest ups keys.1 each.1
rest_stay (row ∷ rest) (Some up ∷ ups) keys each = absurd (keys.0 (replaced_key row up.rec each.0.record_in each.0.other))

rest_below : (rest : List Row) (ups : List (Option Upgraded)) → EachUpgrades versions.One rest ups → Each (λ row. row.kind < kinds.TARIFF) rest
rest_below [] ups each = tt
rest_below (row ∷ rest) [] each = absurd each
rest_below (row ∷ rest) (up ∷ ups) each = let some = upgrades_hold versions.One row up each.0 in (kind_below row some.0 some.1, rest_below rest ups each.1)

-- ---- the rows that are made

by_kind : (a b : Key) → a.0 < b.0 → key_cmp a b ≡ Less
by_kind a b low = ap (λ (o : Ordering). ordering_then o (slice_cmp nat_cmp a.1 b.1)) (sym (nat_cmp_is a.0 b.0 Less low))

low_at : (rows : List Row) (key : Key) → Each (λ row. row.kind < key.0) rows → (i : ℕ) (d : Row) → i < length rows → key_cmp (key_of (get_or rows i d)) key ≡ Less
low_at [] key low i d lt = absurd (omega arith)
low_at (row ∷ rows) key low zero d lt = by_kind (key_of row) key low.0
low_at (row ∷ rows) key low (suc i) d lt = low_at rows key low.1 i d (omega arith)

insert_last : {A : Type 0} (xs : List A) (x : A) → insert xs (length xs) x ≡ xs ++ x ∷ []
insert_last [] x = refl
insert_last (y ∷ ys) x = ap (λ (l : List _). y ∷ l) (insert_last ys x)

-- a row of a higher kind behind all
put_last : (rows : List Row) (row : Row) → AreInOrder rows → Each (λ other. other.kind < row.kind) rows
    → AreInOrder (rows ++ row ∷ []) × (rows_of (rows ++ row ∷ []) ≡ changed (Put row ∷ []) (rows_of rows))
put_last rows row order low =
    subst (λ (l : List Row). AreInOrder l × (rows_of l ≡ changed (Put row ∷ []) (rows_of rows))) (insert_last rows row)
    (puts_in rows order row (length rows) (record {
      in_range = omega arith;
      before = low_at rows (key_of row) low;
      after = λ i d more less. absurd (omega (arith, more, less));
    }))

-- another row with the key of the first
put_first : (first : Row) (rest : List Row) (row : Row) → AreInOrder (first ∷ rest) → key_of first ≡ key_of row
    → AreInOrder (row ∷ rest) × (rows_of (row ∷ rest) ≡ changed (Put row ∷ []) (rows_of (first ∷ rest)))
put_first first rest row order same = puts_here (first ∷ rest) order row 0 (record {
  in_range = omega arith;
  same = λ d. ap (λ (k : Key). key_cmp k (key_of row)) same ∙ own_order (key_of row);
})

-- settings, the other rows and the tariff are what the two changes make
rows_made : (first : Row) (rest : List Row) (s : Settings) (t : Tariff) → AreInOrder (first ∷ rest) → key_of first ≡ first_key → Each (λ row. row.kind < kinds.TARIFF) rest
    → AreThe (changed (upgrades s t) (rows_of (first ∷ rest))) (upgraded s t rest)
rows_made first rest s t order is low =
    let one = put_first first rest (row_of (records.Settings s)) order is in
    let both = put_last (row_of (records.Settings s) ∷ rest) (row_of (records.Tariff t)) one.0 (lit< tt, low) in
    are_the_rows (upgraded s t rest) _ both.0 (both.1 ∙ ap (changed (Put (row_of (records.Tariff t)) ∷ [])) one.1)

one_list : (xs ys : List Row) → map entry xs ≡ map entry ys → xs ≡ ys
one_list [] [] same = refl
one_list [] (y ∷ ys) same = absurd cc
one_list (x ∷ xs) [] same = absurd cc
one_list (x ∷ xs) (y ∷ ys) same =
    let first : entry x ≡ entry y = cc in
    let rest : map entry xs ≡ map entry ys = cc in
    let is : x ≡ y = ap (λ (e : Key × List ℕ). record { kind = e.0.0; id = e.0.1; body = e.1 }) first in
    ap (λ (z : Row). z ∷ xs) is ∙ ap (λ (l : List Row). y ∷ l) (one_list xs ys rest)

-- ---- to the words of version 1

changes_one : OneRecord → OneImplied → (loaded rows : List Row) (changes : List Change) → IsVersion versions.One (slice_get loaded 0) → AreInOrder loaded → AreChanges versions.One loaded changes
    → AreThe (changed changes (rows_of loaded)) rows → IsUpgraded1 loaded changes rows
changes_one one implied [] rows changes is order are the = absurd is
changes_one one implied (first ∷ rest) rows changes is order are the = go are.ups are.each are.are
  where
    go : (ups : List (Option Upgraded)) → EachUpgrades versions.One (first ∷ rest) ups → changes ≡ joined (map puts ups) → IsUpgraded1 (first ∷ rest) changes rows
    go [] each are = absurd each
    go (up ∷ ups) each are =
        let s = is.0 in
        let r = is.1 in
        let t : Tariff = first_tariff s r in
        let key : key_of first ≡ first_key = ap key_of is.2.is in
        let keys = later_keys first rest key (split _ _ order).0 in
        let changes_are : changes ≡ upgrades s t =
        are ∙ ap (λ (u : Option Upgraded). puts u ++ joined (map puts ups)) (first_becomes one implied first s r is.2 up each.0)
        ∙ ap (λ (l : List Change). upgrades s t ++ l) (rest_stay rest ups keys each.1) in
        let made = rows_made first rest s t order key (rest_below rest ups each.1) in
        record {
          settings = s;
          tariff = t;
          rest = rest;
          old = record { settings_fit = is.2.settings_fit; rates_fit = is.2.rates_fit; from = refl; are = ap (λ (z : Row). z ∷ rest) is.2.is };
          changes_are = changes_are;
          rows_are = one_list rows (upgraded s t rest)
              (the ∙ ap (λ (cs : List Change). maps.entries (changed cs (rows_of (first ∷ rest)))) changes_are ∙ sym made);
        }

pub to_one : OneVersion → OneRecord → OneImplied → (loaded rows : List Row) (changes : List Change) → IsVersion versions.One (slice_get loaded 0) → Becomes loaded changes rows → IsUpgraded1 loaded changes rows
to_one version one implied loaded rows changes is (inl same) = absurd (same.is_of is)
to_one version one implied loaded rows changes is (inr up) =
    changes_one one implied loaded rows changes is up.ordered
    (subst (λ (v : Version). AreChanges v loaded changes) (version (slice_get loaded 0) up.version versions.One up.is_of is) up.changes_are) up.rows_are

pub to_same : OneVersion → (loaded rows : List Row) (changes : List Change) → IsVersion versions.Two (slice_get loaded 0) → Becomes loaded changes rows → IsSame loaded changes rows
to_same version loaded rows changes is (inl same) = same
to_same version loaded rows changes is (inr up) = absurd (up.is_earlier (version (slice_get loaded 0) up.version versions.Two up.is_of is))

-- ---- and back

abbrev nones : List Row → List (Option Upgraded)
nones [] = []
nones (row ∷ rest) = None ∷ nones rest

no_puts : (rest : List Row) → joined (map puts (nones rest)) ≡ []
no_puts [] = refl
no_puts (row ∷ rest) = no_puts rest

each_stays : (rest : List Row) → Each (λ row. key_of row ≡ first_key → ⊥) rest → Each (HoldsSome versions.One) rest → EachUpgrades versions.One rest (nones rest)
each_stays [] keys some = tt
each_stays (row ∷ rest) keys some = (
  record { rec = some.0.0; record_in = some.0.1; same = stays_key row some.0.0 some.0.1 keys.0; no_more = λ also is. keys.0 (implied_key row also is) },
  each_stays rest keys.1 some.1,
)

some_below : (rest : List Row) → Each (HoldsSome versions.One) rest → Each (λ row. row.kind < kinds.TARIFF) rest
some_below [] some = tt
some_below (row ∷ rest) some = (kind_below row some.0.0 some.0.1, some_below rest some.1)

upgraded_of : (s : Settings) (t : Tariff) (rest : List Row) → AreOld (old_row s t.rates ∷ rest) s t rest → AreInOrder (old_row s t.rates ∷ rest) → Each (HoldsSome versions.One) rest
    → IsUpgraded (old_row s t.rates ∷ rest) (upgrades s t) (upgraded s t rest)
upgraded_of s t rest old order some =
    let first : Row = old_row s t.rates in
    let is : IsOldRow first s t.rates = record { settings_fit = old.settings_fit; rates_fit = old.rates_fit; is = refl } in
    let tariff : first_tariff s t.rates ≡ t = ap (λ (m : Month). record { from = m; rates = t.rates }) (sym old.from) in
    let keys = later_keys first rest refl (split _ _ order).0 in
    record {
      ordered = order;
      version = versions.One;
      is_of = (s, t.rates, is);
      is_earlier = λ same. cc;
      changes_are = record {
        ups = Some (becomes s t.rates) ∷ nones rest;
        each = (replaced_old first s t.rates is, each_stays rest keys some);
        are = ap (upgrades s) (sym tariff) ∙ ap (λ (l : List Change). upgrades s (first_tariff s t.rates) ++ l) (sym (no_puts rest));
      };
      rows_are = rows_made first rest s t order refl (some_below rest some);
    }

pub from_one : (loaded rows : List Row) (changes : List Change) → AreInOrder loaded → Each (HoldsSome versions.One) loaded → IsUpgraded1 loaded changes rows → IsUpgraded loaded changes rows
from_one loaded rows changes order some up =
    let s = up.settings in
    let t = up.tariff in
    let old = up.old in
    let begins = subst (λ (l : List Row). AreOld l s t up.rest) old.are old in
    let made = upgraded_of s t up.rest begins (subst AreInOrder old.are order) (subst (Each (HoldsSome versions.One)) old.are some).1 in
    subst (λ (l : List Row). IsUpgraded l changes rows) (sym old.are)
    (subst (λ (cs : List Change). IsUpgraded (old_row s t.rates ∷ up.rest) cs rows) (sym up.changes_are)
    (subst (IsUpgraded (old_row s t.rates ∷ up.rest) (upgrades s t)) (sym up.rows_are) made))
