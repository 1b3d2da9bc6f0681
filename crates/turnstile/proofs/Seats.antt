-- Views by the number of their seat.
use Rattle.std.proofs.Common.{◌≡◌, ◌≢◌, ℕ, zero, suc, ◌+◌, ◌<◌, ◌≤◌, List, [], ◌∷◌, ◌++◌, length, set, refl, sym, ap, ◌∙◌, subst, ⊎_elim, ◌⊎◌, inl, inr, arith}
use mathlib.Core.Option.{some, some-ne-none, some-injective}
use lib.ListN.{get_elem?}
use Rattle.atomic_table.proofs.Lists.{at_set, set_here}
use Rattle.turnstile.specs.History.{total}

module _ {K : Type 0} where
  pub at_inside : (l : List K) (i : ℕ) (a : K) → get_elem? l i ≡ some a → i < length l
  at_inside [] i a e = absurd (some-ne-none a (sym e))
  at_inside (x ∷ xs) zero a e = omega arith
  at_inside (x ∷ xs) (suc i) a e = let h = at_inside xs i a e in omega arith

  pub set_at : (l : List K) (i : ℕ) (a b : K) → get_elem? l i ≡ some a → get_elem? (set l i b) i ≡ some b
  set_at l i a b e = set_here l i b (at_inside l i a e)

  pub same_at : (l : List K) (i : ℕ) (a b : K) → get_elem? l i ≡ some a → get_elem? l i ≡ some b → a ≡ b
  same_at l i a b e f = some-injective a b (sym e ∙ f)

  pub seats_stay : (F : ℕ → K → Type 0) (views : List K) (me : ℕ) (w : K) → F me w → ((j : ℕ) (u : K) → j ≢ me → get_elem? views j ≡ some u → F j u)
      → (j : ℕ) (u : K) → get_elem? (set views me w) j ≡ some u → F j u
  seats_stay F views me w mine others j u e =
      ⊎_elim
      (λ (x : (j ≡ me) × (w ≡ u)). subst (λ (y : ℕ × K). F y.0 y.1) (λ i. (sym x.0 i, x.1 i)) mine)
      (λ (x : (j ≢ me) × (get_elem? views j ≡ some u)). others j u x.0 x.1)
      (at_set views me j w u e)

  pub total_set : (f : K → ℕ) (views : List K) (i : ℕ) (v w : K) → get_elem? views i ≡ some v → total f (set views i w) + f v ≡ total f views + f w
  total_set f [] i v w e = absurd (some-ne-none v (sym e))
  total_set f (x ∷ xs) zero v w e = let same : f x ≡ f v = ap f (some-injective x v e) in omega arith
  total_set f (x ∷ xs) (suc i) v w e = let h = total_set f xs i v w e in omega arith

  pub total_at : (f : K → ℕ) (views : List K) (i : ℕ) (v : K) → get_elem? views i ≡ some v → f v ≤ total f views
  total_at f [] i v e = absurd (some-ne-none v (sym e))
  total_at f (x ∷ xs) zero v e = let same : f x ≡ f v = ap f (some-injective x v e) in omega arith
  total_at f (x ∷ xs) (suc i) v e = let h = total_at f xs i v e in omega arith

  pub total_below : (f g : K → ℕ) → ((v : K) → f v ≤ g v) → (views : List K) → total f views ≤ total g views
  total_below f g h [] = omega arith
  total_below f g h (x ∷ xs) = let p = h x in let q = total_below f g h xs in omega arith

  pub total_snoc : (f : K → ℕ) (views : List K) (v : K) → total f (views ++ v ∷ []) ≡ total f views + f v
  total_snoc f [] v = omega arith
  total_snoc f (x ∷ xs) v = let h = total_snoc f xs v in omega arith

  -- where one has all, another has none
  pub total_rest : (f : K → ℕ) (views : List K) (i j : ℕ) (v u : K) → get_elem? views i ≡ some v → get_elem? views j ≡ some u → j ≢ i → f v + f u ≤ total f views
  total_rest f [] i j v u e d n = absurd (some-ne-none v (sym e))
  total_rest f (x ∷ xs) zero zero v u e d n = absurd (n refl)
  total_rest f (x ∷ xs) zero (suc j) v u e d n = let same : f x ≡ f v = ap f (some-injective x v e) in let h = total_at f xs j u d in omega arith
  total_rest f (x ∷ xs) (suc i) zero v u e d n = let same : f x ≡ f u = ap f (some-injective x u d) in let h = total_at f xs i v e in omega arith
  total_rest f (x ∷ xs) (suc i) (suc j) v u e d n = let h = total_rest f xs i j v u e d (λ p. n (ap suc p)) in omega arith

  pub at_end : (l : List K) (a b : K) (j : ℕ) → get_elem? (l ++ a ∷ []) j ≡ some b → (get_elem? l j ≡ some b) ⊎ ((j ≡ length l) × (a ≡ b))
  at_end [] a b zero e = inr (refl, some-injective a b e)
  at_end [] a b (suc j) e = absurd (some-ne-none b (sym e))
  at_end (x ∷ xs) a b zero e = inl e
  at_end (x ∷ xs) a b (suc j) e = ⊎_elim inl (λ (t : (j ≡ length xs) × (a ≡ b)). inr (ap suc t.0, t.1)) (at_end xs a b j e)
