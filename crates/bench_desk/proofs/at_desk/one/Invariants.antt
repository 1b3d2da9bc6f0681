use Rattle.turnstile.specs.Known.{SameRights}
use Rattle.bench_desk.proofs.at_desk.one.Given as goal

abbrev pub invariant-loop-call : goal.invariant-loop-call
invariant-loop-call g l = SameRights l.initial.pass l.pass
