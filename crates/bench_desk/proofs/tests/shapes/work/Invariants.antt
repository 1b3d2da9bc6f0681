use Rattle.turnstile.specs.Known.{SameRights}
use Rattle.bench_desk.proofs.tests.shapes.work.Given as goal

abbrev pub invariant-loop-call : goal.invariant-loop-call
invariant-loop-call g l = SameRights l.initial.pass l.pass
