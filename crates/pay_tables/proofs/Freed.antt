-- Room that is given back.
use Rattle.std.proofs.Common.{◌≡◌, ℕ, Bool, false, not, List, [], ◌∷◌, Option, Some, None, IsSome, refl, sym, ap, subst, ◌∙◌, arith}
use Rattle.std.specs.Prelude.{◌==◌, filter}
use Rattle.std.specs.List.{list_any}
use Rattle.std.proofs.lemmas.Bool.Decides.{nat_tests}
use Rattle.rows.specs.Rows.{row_at}
use Rattle.rows.specs.Slots.{Slots, has_slot, released}

any-filter : (p q : ℕ → Bool) (xs : List ℕ) → list_any p xs ≡ false → list_any p (filter q xs) ≡ false
any-filter p q [] none = refl
any-filter p q (x ∷ xs) none = grind (arith, nat_tests, none, any-filter p q xs)

-- a release makes no slot
pub no-slot-more : {R : Type 0} (rank : R → ℕ) (old new : Slots R) (at : ℕ) → (row_at rank old.rows at ≡ None → new ≡ released old at) → (IsSome (row_at rank old.rows at) → new ≡ old)
    → (k : ℕ) → has_slot old k ≡ false → has_slot new k ≡ false
no-slot-more {R} rank old new at freed kept k none = go (row_at rank old.rows at) refl
  where
    go : (found : Option R) → row_at rank old.rows at ≡ found → has_slot new k ≡ false
    go None is = ap (λ (t : Slots R). has_slot t k) (freed is) ∙ any-filter (λ slot. slot == k) (λ slot. not (slot == at)) old.slots none
    go (Some row) is = ap (λ (t : Slots R). has_slot t k) (kept (subst (λ (o : Option R). IsSome o) (sym is) refl)) ∙ none
