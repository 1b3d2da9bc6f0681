-- Members of lists that pass a test, and places that shared.
use Rattle.std.proofs.Common.{◌≡◌, ℕ, ◌==◌, Bool, true, false, List, [], ◌∷◌, refl, ap, sym, ◌∙◌, arith}
use Rattle.std.specs.Prelude.{All, filter, if◌then◌else◌}
use Rattle.std.proofs.lemmas.Bool.Decides.{nat_tests}
use Rattle.std.proofs.lemmas.List.Elements.{All-nil, All-cons, All-head, All-tail}
use Rattle.sat_base.specs.declared.nodes.Fetched.{Fetched}
use Rattle.sat_base.specs.declared.nodes.Fetched.TheVariants as fetches
use Rattle.sat_base.specs.declared.requests.Place.{Place}
use Rattle.repair_core.specs.Indexes.{has_index}
use Rattle.machine_step.specs.Containment.{has_piece}
use Rattle.node_asks.specs.declared.answers.Answered.{Answered}
use Rattle.node_asks.specs.Answers.{places_in, sharing_in}
use Rattle.node_asks.specs.Asks.{at_of, pieces_of}

-- what is in a list and not among those that pass doesn't pass
pub fails_if : (test : ℕ → Bool) (xs : List ℕ) (y : ℕ) → has_index xs y ≡ true → has_index (filter test xs) y ≡ false → test y ≡ false
fails_if test [] y has none = absurd (cc)
fails_if test (x ∷ xs) y has none = go (x == y) (test x) refl refl none (fails_if test xs y)
  where
    go : (b c : Bool) → (x == y) ≡ b → test x ≡ c → has_index (if c then x ∷ filter test xs else filter test xs) y ≡ false
        → (has_index xs y ≡ true → has_index (filter test xs) y ≡ false → test y ≡ false) → test y ≡ false
    go true true same passes none later = absurd (grind (arith, nat_tests, same, none))
    go true false same passes none later = let one : x ≡ y = grind (arith, nat_tests, same) in ap test (sym one) ∙ passes
    go false true same passes none later = later (grind (arith, nat_tests, same, has)) (grind (arith, nat_tests, same, none))
    go false false same passes none later = later (grind (arith, nat_tests, same, has)) none

-- each of these places has its piece
pub places_have : (xs : List Place) → All (λ place. has_piece (pieces_of xs) (at_of place) ≡ true) xs
places_have [] = All-nil (λ place. has_piece [] (at_of place) ≡ true)
places_have (x ∷ xs) =
    All-cons (λ place. has_piece (pieces_of (x ∷ xs)) (at_of place) ≡ true) x xs (grind (arith, nat_tests))
    (λ k d within. let rest = places_have xs k d within in grind (arith, rest))

pub sharing_places : (P : Place → Type 0) (all : List Answered) → All P (places_in all) → All P (sharing_in all)
sharing_places P [] each = All-nil P
sharing_places P (one ∷ rest) each = go one.place one.what (All-head P one.place (places_in rest) each) (sharing_places P rest (All-tail P one.place (places_in rest) each))
  where
    go : (place : Place) (what : Fetched) → P place → All P (sharing_in rest) → All P (sharing_in (record { place = place; what = what } ∷ rest))
    go place (fetches.Share bytes) here tail = All-cons P place (sharing_in rest) here tail
    go place fetches.Missing here tail = tail
    go place fetches.NoAnswer here tail = tail
    go place fetches.NoMemory here tail = tail
