use Rattle.std.proofs.Common.{◌≡◌}
use Rattle.audit_core.specs.Heard.{answers_of, missing_of, silent_of}
use Rattle.audit_core.proofs.judging.sort.Given as goal

abbrev pub invariant-loop-one : goal.invariant-loop-one
invariant-loop-one l = record {
  answers : l.sorted.answers.items ≡ answers_of l.yielded;
  missing : l.sorted.missing.items ≡ missing_of l.yielded;
  silent : l.sorted.silent.items ≡ silent_of l.yielded;
}
