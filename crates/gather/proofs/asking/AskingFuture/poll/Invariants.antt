use Rattle.std.proofs.Common.{IsSomeAnd}
use Rattle.futures.specs.Task.{Keeps}
use Rattle.gather.specs.Asks.{CanAsk, MayCome}
use Rattle.gather.proofs.asking.AskingFuture.poll.Given as goal

abbrev pub invariant-loop : goal.invariant-loop
invariant-loop l = CanAsk l.self.inner × ((answer : _) → MayCome l.self.inner answer → MayCome l.initial.self.inner answer) × Keeps l.initial.cx l.cx
