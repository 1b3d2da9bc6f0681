-- What comes of the picks for fresh pieces.
use Rattle.std.proofs.Common.{◌≡◌, ℕ, ◌≤◌, List, [], ◌∷◌, length, map, None, refl, sym, ap, ◌∙◌, arith}
use Rattle.sat_base.specs.declared.ids.NodeId.{NodeId}
use Rattle.placement.specs.Eligible.{Terms, subnet_count}
use Rattle.placement.specs.Placed.{id_of, IsPlaced}
use Rattle.placement.proofs.Picks.{all-phases}
use Rattle.machine_step.specs.Health.{first_of}
use Rattle.machine_step.specs.Places.{picks_of}
use Rattle.machine_step.proofs.PickLemmas.{are-picks, length-ids, length-picks, picks-only}

pub placed-ids : (terms : Terms) (need fresh : ℕ) (ids : List NodeId) → IsPlaced terms need fresh ids → ids ≡ map id_of (picks_of terms need fresh)
placed-ids terms need fresh ids placed = placed.named ∙ sym (ap (map id_of) (picks-only terms need fresh placed.picks placed.are_picks))

-- as many as wanted, where the subnets are enough
pub number-ids : (terms : Terms) (need fresh : ℕ) → fresh ≤ need → need ≤ subnet_count terms → length (map id_of (picks_of terms need fresh)) ≡ need
number-ids terms need fresh le enough = length-ids (picks_of terms need fresh) ∙ length-picks terms need fresh le enough

-- ---- one pick

none-of : {X : Type 0} (xs : List X) → length xs ≤ 0 → xs ≡ []
none-of [] le = refl
none-of (x ∷ xs) le = absurd (omega arith)

-- no pick where no subnet is eligible
pub none-picked : (terms : Terms) (fresh : ℕ) → fresh ≤ 1 → subnet_count terms ≡ 0 → first_of (picks_of terms 1 fresh) ≡ None
none-picked terms fresh le none =
    let all = all-phases terms 1 fresh (picks_of terms 1 fresh) le (are-picks terms 1 fresh) in
    ap first_of (none-of (picks_of terms 1 fresh) (omega (arith, all.le, none)))
