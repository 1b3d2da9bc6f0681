use Rattle.std.proofs.Common.{◌≡◌, ◌++◌, reverse, take}
use Rattle.node_asks.specs.Answers.{places_in, answers_in}
use Rattle.node_asks.proofs.answers.paired.Given as goal

-- the pairs so far, and the answers that are left
abbrev pub invariant-loop-place : goal.invariant-loop-place
invariant-loop-place l = record {
  places : places_in l.all.items ≡ take l.place-index l.places;
  answers : answers_in l.all.items ++ reverse l.rest.items ≡ l.fn.answers;
}
