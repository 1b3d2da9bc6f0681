-- What the bytes of a node's answer say.
use Rattle.std.specs.Prelude.{◌≡◌, ℕ, ◌≤◌, ◌==◌, ◌||◌, List, [], ◌∷◌, length, take, drop, map, codes, cond, nat_le, Option, Some, None, Bool}
use Rattle.std.specs.Str.Parse.{digits_value}
use Rattle.httparse.specs.Grammar.{ResponseHead, ReadsResponse, print_response, status_code}
use Rattle.httparse.specs.Spans.{name_and_value}
use Rattle.http_parts.specs.Headers.{values_named}
use Rattle.http_parts.specs.Heads.{max_head, max_lines}
use Rattle.sat_base.specs.Text.{numeral}
use Rattle.node_wire.specs.declared.head.Question.{Question}
use Rattle.node_wire.specs.declared.head.Question.TheVariants.{Fetch, Put}
use Rattle.node_wire.specs.declared.head.Says.{Says}
use Rattle.node_wire.specs.declared.head.Says.TheVariants.{NoAnswer, Missing, Kept, Long, Body}

-- how many bytes are asked for
abbrev pub asked_len : Question → ℕ
asked_len (Fetch len) = len
asked_len Put = 0

-- the bytes are that head, of at most 64 header lines in at most 8192 bytes, and then rest
pub record HasHead (bytes : List ℕ) (h : ResponseHead) (rest : List ℕ) : Type 0 where
  pub reads : ReadsResponse bytes h rest
  pub lines : length h.fields ≤ max_lines
  pub size : length (print_response h) ≤ max_head

-- no prefix is such a head
pub record LacksHead (bytes : List ℕ) : Type 0 where
  pub none : (h : ResponseHead) (rest : List ℕ) → HasHead bytes h rest → ⊥

-- what the values of Content-Length say: of one, of 1 to 20 digits, the number of bytes, where it is at most len
abbrev pub of_lengths : ℕ → List (List ℕ) → Says
of_lengths len [] = NoAnswer
of_lengths len (v ∷ []) = cond (numeral v) (cond (nat_le (digits_value 10 v) len) (Body (digits_value 10 v)) Long) NoAnswer
of_lengths len (v ∷ w ∷ vs) = NoAnswer

-- what a status and headers say
abbrev pub of_status : Question → ℕ → List (List ℕ × List ℕ) → Says
of_status (Fetch len) status hs =
    cond (status == 200) (of_lengths len (values_named (codes "content-length") hs)) (cond (status == 404) Missing NoAnswer)
of_status Put status hs = cond (status == 200) Kept NoAnswer

-- what a head says
abbrev pub says_of : Question → ResponseHead → Says
says_of question h = of_status question (status_code h) (map name_and_value h.fields)

-- the head at the front, where there is one
abbrev pub IsHeadOf : Question → List ℕ → Option (ℕ × Says) → Type 0
IsHeadOf question bytes None = LacksHead bytes
IsHeadOf question bytes (Some (start, says)) =
    ((h : ResponseHead) × HasHead bytes h (drop start bytes) × (says_of question h ≡ says)) × (start ≤ length bytes) × (start ≤ max_head)

-- what an answer comes to
pub data Said : Type 0 where
  share : List ℕ → Said
  missing : Said
  kept : Said
  no_answer : Said

-- bytes that are no whole answer come to none at their end, and before it to nothing yet
abbrev pub unless_whole : Bool → Option Said
unless_whole ended = cond ended (Some no_answer) None

-- what a head and the bytes behind it come to
abbrev pub behind : Bool → Says → List ℕ → Option Said
behind ended NoAnswer rest = Some no_answer
behind ended Missing rest = Some missing
behind ended Kept rest = Some kept
behind ended Long rest = Some (share [])
behind ended (Body n) rest = cond (nat_le n (length rest)) (Some (share (take n rest))) (unless_whole ended)

-- what all bytes so far come to: ended tells that no more come
pub data Heard (question : Question) (bytes : List ℕ) (ended : Bool) : Option Said → Type 0 where
  headed : (h : ResponseHead) (rest : List ℕ) → HasHead bytes h rest → Heard question bytes ended (behind ended (says_of question h) rest)
  lacking : LacksHead bytes → Heard question bytes ended (unless_whole (ended || nat_le max_head (length bytes)))
