-- What the satellite's answer to an offered order says.
use Rattle.std.specs.Prelude.{◌≡◌, ℕ, ◌+◌, ◌≤◌, ◌⊎◌, ◌==◌, ◌&&◌, List, length, slice_range, take, map, codes, nat_le, cond, Bool, true, false, Option, Some, None, option_and_then, Result, Ok, Err}
use Rattle.std.specs.Str.{is_utf8}
use Rattle.httparse.specs.Grammar.{ResponseHead, ReadsResponse, print_response, status_code}
use Rattle.httparse.specs.Spans.{name_and_value}
use Rattle.serde_json.specs.Data.{Data}
use Rattle.serde_json.specs.Find.{as_number, as_u64, get}
use Rattle.serde_json.specs.Read.{read}
use Rattle.sat_base.specs.Streams.{AtEnd}
use Rattle.http_parts.specs.Heads.{max_head, max_lines}
use Rattle.http_parts.specs.declared.bounds.TheConstants.{MAX_BODY}
use Rattle.stor_base.specs.declared.settler.Offered.{Offered}
use Rattle.stor_base.specs.declared.settler.Offered.TheVariants as offers
use Rattle.stor_wire.specs.Values.{length_named}
use Rattle.stor_wire.specs.declared.response.AnswerEnd.{AnswerEnd}
use Rattle.stor_wire.specs.declared.response.AnswerEnd.TheVariants as ends
use Rattle.stor_wire.specs.declared.response.Whole.{Whole}
use Rattle.stor_wire.specs.declared.settled.Settlement.{Settlement}
use Rattle.stor_wire.specs.declared.settled.Settlement.TheVariants.{Done, Later}
use Rattle.stor_wire.specs.declared.settled.SettleErr.{SettleErr}
use Rattle.stor_wire.specs.declared.settled.SettleErr.TheVariants.{Fault, NotWhole, NoMemory}

-- ---- the answer

-- the most bytes of the body of an answer
abbrev pub max_body : ℕ
max_body = MAX_BODY

-- the bytes begin with that answer, whole: a head of at most 64 header lines in at most 8192 bytes, with one Content-Length of
-- at most 65536, and a body of so many bytes
pub record IsAnswer (bytes : List ℕ) (status : ℕ) (body : List ℕ) : Type 0 where
  pub head : ResponseHead
  pub rest : List ℕ
  pub size : ℕ
  pub reads : ReadsResponse bytes head rest
  pub lines : length head.fields ≤ max_lines
  pub early : length (print_response head) ≤ max_head
  pub status_is : status ≡ status_code head
  pub sized : length_named max_body (map name_and_value head.fields) ≡ Some size
  pub there : size ≤ length rest
  pub body_is : body ≡ take size rest

-- no answer is whole
abbrev pub LacksAnswer : List ℕ → Type 0
LacksAnswer bytes = (status : ℕ) (body : List ℕ) → IsAnswer bytes status body → ⊥

-- the value that a body is
abbrev pub reading : List ℕ → Option Data
reading body = cond (is_utf8 body) (read body) None

-- the number of a refusal
abbrev pub number_in : Data → Option ℕ
number_in d = option_and_then as_u64 (option_and_then as_number (get (codes "number") d))

-- such a refusal is told at each later offer, too
abbrev pub stays_refused : Option ℕ → Bool
stays_refused None = false
stays_refused (Some n) = nat_le 1 n && nat_le n 9

abbrev pub settlement_by : Bool → Settlement
settlement_by true = Done
settlement_by false = Later

-- an answer of status 200, or a refusal of the numbers 1 to 9, ends the matter
abbrev pub settlement_of : ℕ → List ℕ → Settlement
settlement_of status body =
    cond (status == 200) Done (cond (status == 409) (settlement_by (stays_refused (option_and_then number_in (reading body)))) Later)

-- what all bytes of a connection say: what a whole answer does, or that there is none
abbrev pub SettledBy : List ℕ → Result Settlement SettleErr → Type 0
SettledBy all (Ok settlement) = (status : ℕ) × (body : List ℕ) × IsAnswer all status body × (settlement ≡ settlement_of status body)
SettledBy all (Err NotWhole) = LacksAnswer all
SettledBy all (Err Fault) = Unit {0}
SettledBy all (Err NoMemory) = Unit {0}

-- ---- what was read

-- the most bytes that are read
abbrev pub max_answer : ℕ
max_answer = max_head + max_body

-- a connection may be read on for while no answer is whole
abbrev pub MayReadAnswer : List ℕ → ℕ → Type 0
MayReadAnswer bytes asked = LacksAnswer bytes × (length bytes + asked ≤ max_answer)

-- what was read shows the answer: one that is whole; or that none is, as the source ended, a read failed, or the bytes number
-- the most
abbrev pub IsHeard : List ℕ → Option (List ℕ) → Result Settlement SettleErr → Type 0
IsHeard bytes left (Ok settlement) = SettledBy bytes (Ok settlement)
IsHeard bytes left (Err NotWhole) = LacksAnswer bytes × (AtEnd left ⊎ (length bytes ≡ max_answer))
IsHeard bytes left (Err Fault) = LacksAnswer bytes
IsHeard bytes left (Err NoMemory) = Unit {0}

abbrev pub failed_settling : Result Settlement SettleErr → Bool
failed_settling (Ok settlement) = false
failed_settling (Err NotWhole) = false
failed_settling (Err Fault) = true
failed_settling (Err NoMemory) = false

-- ---- steps of the reading

-- the answer at the front of the bytes, with its body where it stands; or none is whole
abbrev pub IsWholeAnswer : List ℕ → Option Whole → Type 0
IsWholeAnswer bytes None = LacksAnswer bytes
IsWholeAnswer bytes (Some at) =
    (at.start + at.size ≤ length bytes) × IsAnswer bytes at.status (slice_range bytes at.start (at.start + at.size))

-- what the end of reading an answer says of the bytes that were read, and of what is left
abbrev pub IsAnswerEnd : List ℕ → Option (List ℕ) → AnswerEnd → Type 0
IsAnswerEnd bytes left (ends.Whole at) = IsWholeAnswer bytes (Some at)
IsAnswerEnd bytes left ends.Ended = LacksAnswer bytes × AtEnd left
IsAnswerEnd bytes left ends.Full = LacksAnswer bytes × (length bytes ≡ max_answer)
IsAnswerEnd bytes left ends.Fault = LacksAnswer bytes

-- how many reads took nothing
abbrev pub idle_answer : AnswerEnd → ℕ
idle_answer (ends.Whole at) = 0
idle_answer ends.Full = 0
idle_answer ends.Ended = 1
idle_answer ends.Fault = 1

abbrev pub failed_answer : AnswerEnd → Bool
failed_answer ends.Fault = true
failed_answer (ends.Whole at) = false
failed_answer ends.Ended = false
failed_answer ends.Full = false

-- an answer of this status and with this body says that, unless memory ran out
abbrev pub IsSaid : ℕ → List ℕ → Result Settlement SettleErr → Type 0
IsSaid status body (Ok settlement) = settlement ≡ settlement_of status body
IsSaid status body (Err NoMemory) = Unit {0}
IsSaid status body (Err Fault) = ⊥
IsSaid status body (Err NotWhole) = ⊥

-- what an offer comes to, whose answer was read to that
abbrev pub offered_of : Result Settlement SettleErr → Offered
offered_of (Ok Done) = offers.Done
offered_of (Ok Later) = offers.Later
offered_of (Err Fault) = offers.Failed
offered_of (Err NotWhole) = offers.Failed
offered_of (Err NoMemory) = offers.NoMemory
