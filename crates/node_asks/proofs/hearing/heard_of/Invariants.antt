use Rattle.std.proofs.Common.{◌≡◌}
use Rattle.std.specs.Prelude.{map}
use Rattle.audit_core.specs.Heard.{heard_indexes}
use Rattle.node_asks.specs.Answers.{places_in, answers_in}
use Rattle.node_asks.specs.Hearing.{fetched_in}
use Rattle.node_asks.proofs.hearing.heard_of.Given as goal

abbrev pub invariant-loop-one : goal.invariant-loop-one
invariant-loop-one l = record {
  indexes : heard_indexes l.heard.items ≡ map (λ place. place.index) (places_in l.yielded);
  answers : fetched_in l.heard.items ≡ answers_in l.yielded;
}
