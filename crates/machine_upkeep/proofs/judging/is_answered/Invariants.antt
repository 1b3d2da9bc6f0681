use Rattle.std.proofs.Common.{◌≡◌, drop}
use Rattle.segment_core.specs.Commit.{is_among}
use Rattle.machine_step.specs.Calls.EndAudit.{answered_in}
use Rattle.machine_upkeep.proofs.judging.is_answered.Given as goal

abbrev pub invariant-loop-answer : goal.invariant-loop-answer
invariant-loop-answer l = is_among (answered_in (drop l.answer-index l.answers)) l.index ≡ is_among (answered_in l.answers) l.index
