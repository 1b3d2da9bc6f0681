-- Loaded rows, read one after the other.
use Rattle.std.proofs.Common.{◌≡◌, ℕ, zero, suc, ◌+◌, ◌<◌, List, [], ◌∷◌, ◌++◌, length, take, drop, get_or, Some, refl, sym, ap, subst, ◌∙◌, arith}
use Rattle.std.specs.Prelude.{map, slice_get}
use Rattle.std.proofs.lemmas.List.{take_more, take-append-drop}
use Rattle.std.proofs.lemmas.Option.{same_Some, slice_get_read}
use Rattle.rows.specs.Rows.{Each, IsRising}
use Rattle.rows.specs.Slots.{with_row}
use Rattle.rows.proofs.RisingLemmas.{with_row-end}
use Rattle.sat_base.specs.Rows.{AreInOrder}
use Rattle.sat_base.specs.declared.rows.Row.{Row}
use Rattle.sat_base.proofs.RowLists.{order_front}
use Rattle.order_uses.specs.Opening.{AreRowsOf, HasSerial, IsUse, Names, NamesFirst}
use Rattle.order_uses.specs.Rows.{row_of_use}
use Rattle.order_uses.specs.Uses.{IsUnderKey, use_rank}
use Rattle.order_uses.specs.declared.opening.UsesErr.{UsesErr}
use Rattle.order_uses.specs.declared.opening.UsesErr.TheVariants as errs
use Rattle.order_uses.specs.declared.row.OrderUse.{OrderUse}
use Rattle.order_uses.proofs.KeyLemmas.{rising_of}

-- ---- a row behind all others

map_end : (rows : List OrderUse) (row : OrderUse) → map row_of_use (rows ++ row ∷ []) ≡ map row_of_use rows ++ row_of_use row ∷ []
map_end [] row = refl
map_end (first ∷ rest) row = ap (λ (l : List Row). row_of_use first ∷ l) (map_end rest row)

each_end : (P : OrderUse → Type 0) (rows : List OrderUse) (row : OrderUse) → Each P rows → P row → Each P (rows ++ row ∷ [])
each_end P [] row each own = (own, tt)
each_end P (first ∷ rest) row each own = (each.0, each_end P rest row each.1 own)

-- one row more is read
module _ (key : List ℕ) (loaded : List Row) (order : AreInOrder loaded) (at : ℕ) (row : Row) (lt : at < length loaded) (is : row ≡ get_or loaded at row)
    (rows : List OrderUse) (one : OrderUse) (under : IsUnderKey key one) (row_is : row ≡ row_of_use one) (fits : HasSerial one) (before : AreRowsOf key (take at loaded) rows) where
  all_are : map row_of_use (rows ++ one ∷ []) ≡ take (at + 1) loaded
  all_are =
      map_end rows one ∙ ap (λ (l : List Row). l ++ row_of_use one ∷ []) before.rows_are ∙ ap (λ (r : Row). take at loaded ++ r ∷ []) (sym row_is ∙ is)
      ∙ sym (take_more loaded at row lt)

  serials : Each HasSerial (rows ++ one ∷ [])
  serials = each_end HasSerial rows one before.serials fits

  rising : IsRising use_rank (rows ++ one ∷ [])
  rising = rising_of (rows ++ one ∷ []) serials
      (subst AreInOrder (sym all_are) (order_front (take (at + 1) loaded) (drop (at + 1) loaded) (subst AreInOrder (sym (take-append-drop (at + 1) loaded)) order)))

  pub more_rows : AreRowsOf key (take (at + 1) loaded) (with_row use_rank rows one)
  more_rows = subst (AreRowsOf key (take (at + 1) loaded)) (sym (with_row-end use_rank rows one [] rising)) (record {
    uses_are = record { rising = rising; each = each_end (IsUnderKey key) rows one before.uses_are.each under };
    serials = serials;
    rows_are = all_are;
  })

-- ---- the first row that is none of a use

use_at_place : (key : List ℕ) (uses : List OrderUse) → Each (IsUnderKey key) uses → (i : ℕ) (other : Row) → slice_get (map row_of_use uses) i ≡ Some other → IsUse key other
use_at_place key [] each i other e = absurd cc
use_at_place key (one ∷ rest) each zero other e = (one, each.0, sym (same_Some _ _ e))
use_at_place key (one ∷ rest) each (suc i) other e = use_at_place key rest each.1 i other e

in_front : (xs : List Row) (n i : ℕ) → i < n → slice_get (take n xs) i ≡ slice_get xs i
in_front [] zero i lt = refl
in_front [] (suc n) i lt = refl
in_front (x ∷ xs) zero i lt = absurd (omega (arith, lt))
in_front (x ∷ xs) (suc n) zero lt = refl
in_front (x ∷ xs) (suc n) (suc i) lt = in_front xs n i (omega (arith, lt))

pub names_first : (key : List ℕ) (loaded : List Row) (at : ℕ) (row : Row) (rows : List OrderUse) (why : UsesErr) → at < length loaded → row ≡ get_or loaded at row
    → AreRowsOf key (take at loaded) rows → (IsUse key row → ⊥) → Names row why → NamesFirst key loaded why
names_first key loaded at row rows (errs.BadRow kind id) lt is before bad names = record {
  place = at;
  row = row;
  stands = slice_get_read loaded (length loaded) at row refl lt is;
  its_kind = names.0;
  its_id = names.1;
  bad = bad;
  others = λ i other less there. use_at_place key rows before.uses_are.each i other
      (ap (λ (l : List Row). slice_get l i) before.rows_are ∙ in_front loaded at i less ∙ there);
}
names_first key loaded at row rows errs.NoMemory lt is before bad names = tt
names_first key loaded at row rows errs.Fault lt is before bad names = absurd names
