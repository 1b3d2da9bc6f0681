-- What the bytes of a connection ask: a wish, or an error.
use Rattle.std.specs.Prelude.{◌≢◌, ℕ, ◌+◌, ◌<◌, ◌≤◌, List, length, take, Result, Ok, Err, Bool, true, false}
use Rattle.httparse.specs.Grammar.{RequestHead, NeverHasRequest}
use Rattle.http_parts.specs.Heads.{max_head, HasHead, LacksHead, MayReadHead}
use Rattle.http_parts.specs.declared.bodies.BodyErr.{BodyErr}
use Rattle.http_parts.specs.declared.bodies.BodyErr.TheVariants as bodies
use Rattle.http_edge.specs.Demands.{Demands, max_body}
use Rattle.http_edge.specs.Fields.{body_of}
use Rattle.http_edge.specs.declared.demand.Demand.TheVariants.{Refused, Body, Statement}
use Rattle.http_edge.specs.declared.routes.Route.{Route}
use Rattle.http_edge.specs.declared.errors.EdgeErr.{EdgeErr}
use Rattle.http_edge.specs.declared.errors.EdgeErr.TheVariants.{Head, Short, HeadSize, ShortBody, NoMemory}
use Rattle.http_edge.specs.declared.errors.ReadErr.{ReadErr}
use Rattle.http_edge.specs.declared.errors.ReadErr.TheVariants.{Fault, Edge}
use Rattle.machine_calls.specs.declared.wish.Wish.{Wish}
use Rattle.machine_calls.specs.declared.wish.Wish.TheVariants as wishes
use Rattle.sat_base.specs.declared.ids.NodeId.{NodeId}
use Rattle.sat_base.specs.declared.month.Month.{Month}

-- what a body of that size says, at the front of the bytes behind a head
pub data SaysBody (r : Route) (n : ℕ) (rest : List ℕ) : Result Wish EdgeErr → Type 0 where
  short_body : length rest < n → SaysBody r n rest (Err ShortBody)
  whole : n ≤ length rest → SaysBody r n rest (body_of r (take n rest))

-- what a head and the bytes behind it say
pub data SaysBehind (secret : List ℕ) (h : RequestHead) (rest : List ℕ) : Result Wish EdgeErr → Type 0 where
  refused : (e : EdgeErr) → Demands secret h (Refused e) → SaysBehind secret h rest (Err e)
  stated : (node : NodeId) (month : Month) → Demands secret h (Statement node month) → SaysBehind secret h rest (Ok (wishes.Statement node month))
  bodied : (r : Route) (n : ℕ) (said : Result Wish EdgeErr) → Demands secret h (Body r n) → SaysBody r n rest said → SaysBehind secret h rest said

-- a head asks for a body, of which that many bytes are missing behind it
pub record MayReadBehind (secret : List ℕ) (h : RequestHead) (rest : List ℕ) (asked : ℕ) : Type 0 where
  pub route : Route
  pub size : ℕ
  pub demands : Demands secret h (Body route size)
  pub missing : length rest + asked ≤ size

-- what the bytes of a connection say, where its end comes behind them: in the row of no_head the number of
-- header lines isn't bounded
pub data Says (secret bytes : List ℕ) : Result Wish EdgeErr → Type 0 where
  no_head : NeverHasRequest (take max_head bytes) → Says secret bytes (Err Head)
  short : LacksHead bytes → length bytes < max_head → Says secret bytes (Err Short)
  long : LacksHead bytes → max_head ≤ length bytes → Says secret bytes (Err HeadSize)
  headed : (h : RequestHead) (rest : List ℕ) (said : Result Wish EdgeErr) → HasHead bytes h rest → SaysBehind secret h rest said → Says secret bytes said

-- the answer is what was said, unless a read failed or memory ran out
abbrev pub AnswersOf : (Result Wish EdgeErr → Type 0) → Result Wish ReadErr → Type 0
AnswersOf said (Ok w) = said (Ok w)
AnswersOf said (Err Fault) = Unit {0}
AnswersOf said (Err (Edge e)) = e ≢ NoMemory → said (Err e)

-- where a connection may be read on for behind the bytes so far, and how many bytes at most: they don't decide
-- and the head is within its bound, or a head asks for a body of which that many bytes are missing
pub data MayRead (secret bytes : List ℕ) (asked : ℕ) : Type 0 where
  a_head : MayReadHead bytes asked → MayRead secret bytes asked
  a_body : (h : RequestHead) (rest : List ℕ) → HasHead bytes h rest → MayReadBehind secret h rest asked → MayRead secret bytes asked

abbrev pub Outcome : List ℕ → List ℕ → Result Wish ReadErr → Type 0
Outcome secret bytes = AnswersOf (Says secret bytes)

abbrev pub BehindHead : List ℕ → RequestHead → List ℕ → Result Wish ReadErr → Type 0
BehindHead secret h rest = AnswersOf (SaysBehind secret h rest)

abbrev pub IsBodyOutcome : Route → ℕ → List ℕ → Result Wish ReadErr → Type 0
IsBodyOutcome r n rest = AnswersOf (SaysBody r n rest)

abbrev pub failed_request : Result Wish ReadErr → Bool
failed_request (Ok w) = false
failed_request (Err (Edge e)) = false
failed_request (Err Fault) = true

-- the most bytes of a request
abbrev pub max_request : ℕ
max_request = max_head + max_body

-- the error where there is no body
abbrev pub unread_as : BodyErr → ReadErr
unread_as bodies.Short = Edge ShortBody
unread_as bodies.Fault = Fault
unread_as bodies.NoMemory = Edge NoMemory
