-- What an ask may come to.
use Rattle.std.specs.Prelude.{Option, Some, None, IsSomeAnd}
use Rattle.futures.specs.Task.{IsArmed}
use Rattle.futures.specs.declared.task.context.Context.{Context}
use Rattle.node_wire.specs.Readings.{ComesTo, IsAbout, IsOpen, question_of}
use Rattle.node_wire.specs.declared.head.Question.{Question}
use Rattle.node_wire.specs.declared.reading.Outcome.{Outcome}
use Rattle.node_wire.specs.declared.reading.Reading.{Reading}
use Rattle.gather.specs.declared.asking.Asking.{Asking}
use Rattle.gather.specs.declared.asking.Step.{Step}
use Rattle.gather.specs.declared.asking.Turn.{Turn}
use Rattle.gather.specs.declared.asking.Turn.TheVariants.{Wait, On, Over}

-- it asks that question, and may be polled
abbrev pub Asks : Question → Asking → Type 0
Asks question a = IsSomeAnd a.inner (λ i. IsAbout question i.1)

abbrev pub CanAsk : Option (Step × Reading) → Type 0
CanAsk None = ⊥
CanAsk (Some i) = IsOpen i.1

abbrev pub MayCome : Option (Step × Reading) → Outcome × Reading → Type 0
MayCome None answer = ⊥
MayCome (Some i) answer = ComesTo (question_of i.1) answer.0 answer.1

-- what stands where a step leads
abbrev pub Leads : Question → Context → Reading → Turn → Type 0
Leads question cx reading (Wait step) = IsAbout question reading × IsArmed cx
Leads question cx reading (On step) = IsAbout question reading
Leads question cx reading (Over outcome) = ComesTo question outcome reading
