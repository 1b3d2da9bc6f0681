-- A walk over the segments of a node, from id 0 on.
use Rattle.std.proofs.Common.{◌≡◌, ℕ, ◌<◌, Bool, true, false, List, None, Some, inl, inr, refl, subst, sym, arith}
use Rattle.std.proofs.lemmas.Bool.{cases_order}
use Rattle.sat_base.specs.declared.ids.NodeId.{NodeId}
use Rattle.segment_index.specs.declared.pairs.Pair.{Pair}
use Rattle.segment_index.specs.Pairs.{has, IsNext}
use Rattle.segment_index.specs.Counting.{IsVisited}

module _ (pairs : List Pair) (node : NodeId) (at : ℕ) where
  -- none lies between this id and the next
  pub none_between : (next i : ℕ) → IsNext pairs node.0 at (Some next) → at < i → i < next → has pairs (record { high = node.0; low = i }) ≡ true → ⊥
  none_between next i is after before h = omega (arith, is.2 i after h, before)

  pub not_between : (next i : ℕ) → IsNext pairs node.0 at (Some next) → at < i → i < next → has pairs (record { high = node.0; low = i }) ≡ false
  not_between next i is after before = go (has pairs (record { high = node.0; low = i })) (none_between next i is after before)
    where
      go : (b : Bool) → (b ≡ true → ⊥) → b ≡ false
      go true never = absurd (never refl)
      go false never = refl

  -- what holds of the ids so far, and of this one, holds of those up to the next
  pub walked : (P : ℕ → Type 0) (next : ℕ) → IsNext pairs node.0 at (Some next) → ((i : ℕ) → i < at → IsVisited pairs node i → P i) → P at → (i : ℕ) → i < next → IsVisited pairs node i → P i
  walked P next is so here i lt visited =
      elim (cases_order i at) [
        | inl e ↦ subst P (sym e) here
        | inr other ↦
            elim other [
              | inl before ↦ so i before visited
              | inr after ↦
                  elim visited [
                    | inl e ↦ absurd (omega (arith, e, after))
                    | inr h ↦ absurd (none_between next i is after lt h)
                  ]
            ]
      ]

  pub walked_all : (P : ℕ → Type 0) → IsNext pairs node.0 at None → ((i : ℕ) → i < at → IsVisited pairs node i → P i) → P at → (i : ℕ) → IsVisited pairs node i → P i
  walked_all P is so here i visited =
      elim (cases_order i at) [
        | inl e ↦ subst P (sym e) here
        | inr other ↦
            elim other [
              | inl before ↦ so i before visited
              | inr after ↦
                  elim visited [
                    | inl e ↦ absurd (omega (arith, e, after))
                    | inr h ↦ let none = is i after in absurd (cc (none, h))
                  ]
            ]
      ]
