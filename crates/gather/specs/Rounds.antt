-- What the asks of a round come to.
use Rattle.std.specs.Prelude.{◌≡◌, ◌⊎◌, Result, Ok, Err, IfOk}
use Rattle.std.specs.declared.time.Duration.{Duration}
use Rattle.tokio.specs.Timers.{timeout_future}
use Rattle.tokio.specs.declared.time.error.Elapsed.{Elapsed}
use Rattle.tokio.specs.declared.time.timeout.Timeout.{Timeout}
use Rattle.sat_base.specs.declared.nodes.Ask.{Ask}
use Rattle.sat_base.specs.declared.nodes.Fetched.{Fetched}
use Rattle.sat_base.specs.declared.nodes.Fetched.TheVariants.{NoAnswer, NoMemory}
use Rattle.node_wire.specs.Answers.{fetched_of}
use Rattle.node_wire.specs.Readings.{ComesTo, HoldsShare, said_of}
use Rattle.node_wire.specs.declared.head.Question.{Question}
use Rattle.node_wire.specs.declared.head.Question.TheVariants.{Fetch, Put}
use Rattle.node_wire.specs.declared.reading.Outcome.{Outcome}
use Rattle.node_wire.specs.declared.reading.Reading.{Reading}
use Rattle.gather.specs.declared.asking.Asking.{Asking}
use Rattle.gather.specs.declared.timed.Timed.{Timed}
use Rattle.gather.specs.Asks.{Asks, CanAsk, MayCome}

-- what was heard within the time of an ask, or that it was up
abbrev pub Heard : Type 0
Heard = Result (Outcome × Reading) Elapsed

-- the same, and the moment of it
abbrev pub HeardAt : Type 0
HeardAt = Heard × Duration

-- it asks that question, for a while
abbrev pub Starts : Question → Timeout Asking → Type 0
Starts question t = Asks question (timeout_future t)

module _ {R : Type 0} where
  -- it asks for a piece
  abbrev pub FetchesFor : Ask → Timed (Timeout Asking) R → Type 0
  FetchesFor ask t = Starts (Fetch ask.len) t.future

  -- it isn't over
  abbrev pub CanHear : Timed (Timeout Asking) R → Type 0
  CanHear t = CanAsk (timeout_future t.future).inner

  -- it may come to this, at any moment
  abbrev pub MayHear : Timed (Timeout Asking) R → HeardAt → Type 0
  MayHear t heard = IfOk heard.0 (λ answer. MayCome (timeout_future t.future).inner answer)

-- where it was heard in time, it is what some bytes of an answer to that question say
abbrev pub Comes : Question → Heard → Type 0
Comes question heard = IfOk heard (λ answer. ComesTo question answer.0 answer.1)

abbrev pub FetchComes : Ask → HeardAt → Type 0
FetchComes ask heard = Comes (Fetch ask.len) heard.0

abbrev pub PutComes : Heard → Type 0
PutComes heard = Comes Put heard

-- an answer is what was heard, unless memory ran out
abbrev pub TakenAs : Heard → Fetched → Type 0
TakenAs (Ok heard) fetched = HoldsShare heard.1 → (fetched ≡ fetched_of (said_of heard.1 heard.0)) ⊎ (fetched ≡ NoMemory)
TakenAs (Err elapsed) fetched = fetched ≡ NoAnswer

abbrev pub TakenFrom : HeardAt → Fetched → Type 0
TakenFrom heard fetched = TakenAs heard.0 fetched
