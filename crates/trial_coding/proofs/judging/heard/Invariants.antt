use Rattle.std.proofs.Common.{◌≡◌, false, take}
use Rattle.std.specs.Prelude.{All}
use Rattle.audit_core.specs.Heard.{heard_indexes, is_out_of_memory}
use Rattle.trial_coding.proofs.judging.heard.Given as goal

abbrev pub invariant-loop-i : goal.invariant-loop-i
invariant-loop-i l = record {
  indexes : heard_indexes l.heard.items ≡ take l.i l.indexes;
  answered : All (λ one. is_out_of_memory one.what ≡ false) l.heard.items;
}
