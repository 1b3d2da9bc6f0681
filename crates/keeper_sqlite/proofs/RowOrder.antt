-- A row that comes after the last of a list in order.
use Rattle.std.proofs.Common.{◌≡◌, ℕ, zero, suc, ◌+◌, ◌-◌, Bool, true, false, ◌&&◌, T, List, [], ◌∷◌, ◌++◌, map, length, get_or, slice_get, Some, subst, arith}
use Rattle.std.specs.declared.cmp.Ordering.TheVariants.{Less}
use Rattle.std.specs.FinMap.Entries.{below_all}
use Rattle.std.proofs.lemmas.Option.{get_or_from_slice_get}
use Rattle.sat_base.specs.declared.rows.Row.{Row}
use Rattle.sat_base.specs.Rows.{Key, key_cmp, entry}
use Rattle.sat_base.specs.Rows.{key_of}
use Rattle.sat_base.specs.Rows.{AreInOrder}
use Rattle.sat_base.proofs.KeyOrder.{keys_total, keys_exact}
use Rattle.sat_base.proofs.SortedEdits.{rises}

split : (a b : Bool) → T (a && b) → T a × T b
split true b h = (tt, h)
split false b h = absurd h

both : (a b : Bool) → T a → T b → T (a && b)
both true b p q = q
both false b p q = p

below_push : (k : Key) (xs : List Row) (row : Row) → T (below_all key_cmp k (map entry xs)) → key_cmp k (key_of row) ≡ Less → T (below_all key_cmp k (map entry (xs ++ row ∷ [])))
below_push k [] row h lt = rw lt tt
below_push k (x ∷ xs) row h lt = both _ _ (split _ _ h).0 (below_push k xs row (split _ _ h).1 lt)

pushes_at : (xs : List Row) (n : ℕ) (last row : Row) → n + 1 ≡ length xs → slice_get xs n ≡ Some last → key_cmp (key_of last) (key_of row) ≡ Less → AreInOrder xs → AreInOrder (xs ++ row ∷ [])
pushes_at [] n last row len is lt h = tt
pushes_at (x ∷ []) zero last row len is lt h = let same : x ≡ last = cc in rw (same, lt) tt
pushes_at (x ∷ []) (suc n) last row len is lt h = absurd (omega arith)
pushes_at (x ∷ y ∷ more) zero last row len is lt h = absurd (omega arith)
pushes_at (x ∷ y ∷ more) (suc n) last row len is lt h =
    let last_is : get_or (x ∷ y ∷ more) (suc n) x ≡ last = get_or_from_slice_get (x ∷ y ∷ more) (suc n) last x is in
    let low = keys_total.trans (key_of x) (key_of last) (key_of row) (subst (λ (r : Row). key_cmp (key_of x) (key_of r) ≡ Less) last_is (rises key_cmp keys_total keys_exact entry (x ∷ y ∷ more) h 0 (suc n) x (omega arith) (omega arith))) lt in
    both _ _ (below_push (key_of x) (y ∷ more) row (split _ _ h).0 low) (pushes_at (y ∷ more) n last row (omega arith) is lt (split _ _ h).1)

pub pushes : (xs : List Row) (last row : Row) → slice_get xs (length xs - 1) ≡ Some last → key_cmp (key_of last) (key_of row) ≡ Less → AreInOrder xs → AreInOrder (xs ++ row ∷ [])
pushes [] last row is lt h = tt
pushes (x ∷ xs) last row is lt h = pushes_at (x ∷ xs) (length (x ∷ xs) - 1) last row (omega arith) is lt h
