-- How far a reading is.
use Rattle.std.specs.Prelude.{◌≡◌, ℕ, Bool, ◌+◌, ◌<◌, ◌≤◌, ◌++◌, ◌⊎◌, List, [], length, drop, Some, None, false, vec_capacity, vec_len, slice_range}
use Rattle.httparse.specs.Grammar.{ResponseHead}
use Rattle.http_parts.specs.Heads.{max_head}
use Rattle.node_wire.specs.Heard.{HasHead, LacksHead, Heard, Said, share, missing, kept, no_answer, says_of, asked_len}
use Rattle.node_wire.specs.declared.head.Question.{Question}
use Rattle.node_wire.specs.declared.head.Says.TheVariants.{Body}
use Rattle.node_wire.specs.declared.reading.Outcome.{Outcome}
use Rattle.node_wire.specs.declared.reading.Outcome.TheVariants as outcomes
use Rattle.node_wire.specs.declared.reading.Fed.{Fed}
use Rattle.node_wire.specs.declared.reading.Fed.TheVariants as feds
use Rattle.node_wire.specs.declared.reading.Stage.{Stage}
use Rattle.node_wire.specs.declared.reading.Stage.TheVariants as stages
use Rattle.node_wire.specs.declared.reading.Reading.{Reading}

-- a head that says that a body of so many bytes begins there
pub record HasBody (question : Question) (bytes : List ℕ) (start size : ℕ) : Type 0 where
  pub head : (h : ResponseHead) × HasHead bytes h (drop start bytes) × (says_of question h ≡ Body size)
  pub within : start ≤ length bytes
  pub early : start ≤ max_head

-- these are all of the bytes, or the first of them, as many as there is room for
pub record IsFront (question : Question) (bytes all : List ℕ) : Type 0 where
  pub more : List ℕ
  pub split : all ≡ bytes ++ more
  pub full : (more ≡ []) ⊎ (length bytes ≡ max_head + asked_len question)

-- what stands where a stage is
abbrev pub At : Question → List ℕ → Stage → Type 0
At question bytes stages.Head = LacksHead bytes × (length bytes < max_head)
At question bytes (stages.Body start size) = HasBody question bytes start size × (length bytes < start + size)
At question bytes (stages.Over start size) = ⊥

-- the bytes fit the room
pub record IsRoomy (r : Reading) : Type 0 where
  pub room : r.room ≡ max_head + asked_len r.question
  pub there : r.room ≤ vec_capacity r.bytes
  pub fits : vec_len r.bytes ≤ r.room

-- nothing is decided yet, and there is room for all that is to come
pub record IsOpen (r : Reading) : Type 0 where
  pub at : At r.question r.bytes.items r.stage
  pub roomy : IsRoomy r

-- what was asked
abbrev pub question_of : Reading → Question
question_of r = r.question

-- the bytes so far, where nothing is decided yet
abbrev pub bytes_of : Reading → List ℕ
bytes_of r = r.bytes.items

-- no bytes of an answer to that question have come
pub record IsFresh (question : Question) (r : Reading) : Type 0 where
  pub open_yet : IsOpen r
  pub asked : question_of r ≡ question
  pub none : bytes_of r ≡ []

-- the share that was found
abbrev pub found : List ℕ → Stage → List ℕ
found bytes stages.Head = []
found bytes (stages.Body start size) = []
found bytes (stages.Over start size) = slice_range bytes start (start + size)

abbrev pub share_of : Reading → List ℕ
share_of r = found r.bytes.items r.stage

-- what was found lies within the bytes, and isn't longer than was asked
abbrev pub IsWithin : ℕ → ℕ → Stage → Type 0
IsWithin len n stages.Head = Unit {0}
IsWithin len n (stages.Body start size) = Unit {0}
IsWithin len n (stages.Over start size) = (start + size ≤ n) × (size ≤ len)

abbrev pub HoldsShare : Reading → Type 0
HoldsShare r = IsWithin (asked_len r.question) (length r.bytes.items) r.stage

abbrev pub said_of : Reading → Outcome → Said
said_of r outcomes.Share = share (share_of r)
said_of r outcomes.Missing = missing
said_of r outcomes.Kept = kept
said_of r outcomes.NoAnswer = no_answer

-- what is told of all bytes so far, as a piece was taken
abbrev pub Feeds : Reading → List ℕ → Fed → Type 0
Feeds r all feds.More = Heard r.question all false None × IsOpen r × (r.bytes.items ≡ all)
Feeds r all (feds.Done o) = Heard r.question all false (Some (said_of r o)) × HoldsShare r

-- it is open, of an answer to that question
abbrev pub IsAbout : Question → Reading → Type 0
IsAbout question r = IsOpen r × (question_of r ≡ question)

-- some bytes, and an end behind them or none, come to that
abbrev pub SomeSay : Question → Said → Type 0
SomeSay question said = (bytes : List ℕ) × (ended : Bool) × Heard question bytes ended (Some said)

-- an answer was read to this outcome, which some bytes of it say
pub record ComesTo (question : Question) (outcome : Outcome) (r : Reading) : Type 0 where
  pub asked : question_of r ≡ question
  pub holds : HoldsShare r
  pub heard : SomeSay question (said_of r outcome)
