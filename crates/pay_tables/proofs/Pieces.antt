-- The nodes of pieces are those at which a piece lies.
use Rattle.std.proofs.Common.{◌≡◌, true, List, [], ◌∷◌, arith}
use Rattle.std.specs.List.{list_any}
use Rattle.std.proofs.lemmas.Bool.Decides.{nat_tests}
use Rattle.sat_base.specs.declared.ids.NodeId.{NodeId}
use Rattle.sat_base.specs.declared.records.At.{At}
use Rattle.rows.specs.Rows.{Each}
use Rattle.machine_step.specs.Calls.PlanExit.{lies_on}

-- of each piece, its node is one at which a piece lies
pub each-lies : (P : At → Type 0) (all : List At) → ((piece : At) → list_any (lies_on piece.node) all ≡ true → P piece) → Each P all
each-lies P all so = go all (λ node h. h)
  where
    go : (rest : List At) → ((node : NodeId) → list_any (lies_on node) rest ≡ true → list_any (lies_on node) all ≡ true) → Each P rest
    go [] among = tt
    go (piece ∷ rest) among =
        (so piece (among piece.node here), go rest (λ node h. among node (later node h)))
      where
        here : list_any (lies_on piece.node) (piece ∷ rest) ≡ true
        here = grind (arith, nat_tests)

        later : (node : NodeId) → list_any (lies_on node) rest ≡ true → list_any (lies_on node) (piece ∷ rest) ≡ true
        later node h = grind (arith, nat_tests, h)
