use Rattle.std.proofs.Common.{◌≡◌, take}
use Rattle.audit_core.specs.Verdict.{silent_indexes, AreUnknown}
use Rattle.audit_core.proofs.judging.owing_nothing.Given as goal

abbrev pub invariant-loop-index : goal.invariant-loop-index
invariant-loop-index l = record {
  indexes : silent_indexes l.owing.items ≡ take l.index-index l.silent;
  expects : AreUnknown l.owing.items;
}
