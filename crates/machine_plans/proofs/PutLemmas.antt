-- Pieces that are put among others.
use Rattle.std.proofs.Common.{◌≡◌, ℕ, Bool, true, false, List, [], ◌∷◌, refl, arith}
use Rattle.std.specs.Prelude.{◌==◌, ◌||◌, fold}
use Rattle.std.specs.List.{list_all}
use Rattle.std.proofs.lemmas.Bool.Decides.{nat_tests}
use Rattle.std.proofs.lemmas.Bool.{and_parts, and_from}
use Rattle.sat_base.specs.declared.records.At.{At}
use Rattle.rows.specs.Rows.{AllAbove, IsRising}
use Rattle.segment_core.specs.Places.{index_of}
use Rattle.machine_step.specs.Containment.{has_piece}
use Rattle.machine_step.specs.Health.{are_among}
use Rattle.machine_step.specs.Mending.{with_piece}
use Rattle.machine_step.specs.Calls.PlanRepair.{has_index}
use Rattle.machine_step.proofs.RowLemmas.{all-with_row}
use Rattle.month_pay.proofs.ListFacts.{all-weaker}

has-put : (pieces : List At) (piece : At) → has_piece (with_piece pieces piece) piece ≡ true
has-put [] piece = grind (arith, nat_tests)
has-put (x ∷ xs) piece = grind (arith, nat_tests, has-put xs piece)

has-still : (pieces : List At) (piece other : At) → has_piece pieces other ≡ true → (piece.index == other.index) ≡ false → has_piece (with_piece pieces piece) other ≡ true
has-still [] piece other has differ = cc
has-still (x ∷ xs) piece other has differ = grind (arith, nat_tests, has, differ, has-still xs piece other)

-- through later targets
still-after : (targets pieces : List At) (place : At) → has_piece pieces place ≡ true → (has_piece (fold with_piece pieces targets) place || has_index targets place.index) ≡ true
still-after [] pieces place has = grind (arith, has)
still-after (target ∷ rest) pieces place has = go (target.index == place.index) refl (λ is. still-after rest (with_piece pieces target) place (has-still pieces target place has is))
  where
    go : (b : Bool) → (target.index == place.index) ≡ b → ((target.index == place.index) ≡ false → (has_piece (fold with_piece (with_piece pieces target) rest) place || has_index rest place.index) ≡ true)
        → (has_piece (fold with_piece (with_piece pieces target) rest) place || has_index (target ∷ rest) place.index) ≡ true
    go true is more = grind (arith, nat_tests, is)
    go false is more = let rest_has = more is in grind (arith, nat_tests, is, rest_has)

above-index : (targets : List At) (n : ℕ) → AllAbove index_of n targets → has_index targets n ≡ false
above-index [] n above = refl
above-index (target ∷ rest) n above = let lt = above.0 in grind (arith, nat_tests, lt, above-index rest n above.1)

pub put-all : (targets pieces : List At) → IsRising index_of targets → are_among (fold with_piece pieces targets) targets ≡ true
put-all [] pieces rising = refl
put-all (target ∷ rest) pieces rising =
    let here = still-after rest (with_piece pieces target) target (has-put pieces target) in
    let none = above-index rest target.index rising.0 in
    let first : has_piece (fold with_piece (with_piece pieces target) rest) target ≡ true = grind (arith, nat_tests, here, none) in
    and_from _ _ first (put-all rest (with_piece pieces target) rising.1)

pub kept-all : (targets pieces some : List At) → are_among pieces some ≡ true → list_all (λ place. has_piece (fold with_piece pieces targets) place || has_index targets place.index) some ≡ true
kept-all targets pieces some among = all-weaker (λ place. has_piece pieces place) (λ place. has_piece (fold with_piece pieces targets) place || has_index targets place.index) (λ place has. still-after targets pieces place has) some among

pub all-put : (good : At → Bool) (targets pieces : List At) → list_all good pieces ≡ true → list_all good targets ≡ true → list_all good (fold with_piece pieces targets) ≡ true
all-put good [] pieces all more = all
all-put good (target ∷ rest) pieces all more =
    let parts = and_parts (good target) (list_all good rest) more in
    all-put good rest (with_piece pieces target) (all-with_row index_of good pieces target all parts.0) parts.1
