-- Which bytes are the head of a request.
use Rattle.std.specs.Prelude.{◌≡◌, ℕ, ◌+◌, ◌<◌, ◌≤◌, ◌⊎◌, List, length, Option, Bool, true, false}
use Rattle.httparse.specs.Grammar.{RequestHead, ReadsRequest, print_request, HasNoRequest, MayBecomeRequest, NeverHasRequest}
use Rattle.httparse.specs.Spans.{IsRequestWithin, IsRequestOf, RequestExceeds, RequestOverflows}
use Rattle.httparse.specs.declared.spans.HeaderSpan.{HeaderSpan}
use Rattle.sat_base.specs.Streams.{AtEnd}
use Rattle.http_parts.specs.declared.bounds.TheConstants.{MAX_HEAD, MAX_LINES}
use Rattle.http_parts.specs.declared.head.Look.{Look}
use Rattle.http_parts.specs.declared.head.Look.TheVariants as looks
use Rattle.http_parts.specs.declared.head.HeadEnd.{HeadEnd}
use Rattle.http_parts.specs.declared.head.HeadEnd.TheVariants.{Whole, Never, Ended, Full, Fault}

abbrev pub max_head : ℕ
max_head = MAX_HEAD

abbrev pub max_lines : ℕ
max_lines = MAX_LINES

-- the bytes are that head, of at most 64 header lines in at most 8192 bytes, and then rest
pub record HasHead (bytes : List ℕ) (h : RequestHead) (rest : List ℕ) : Type 0 where
  pub reads : ReadsRequest bytes h rest
  pub lines : length h.fields ≤ max_lines
  pub size : length (print_request h) ≤ max_head

-- no prefix is such a head
pub record LacksHead (bytes : List ℕ) : Type 0 where
  pub none : (h : RequestHead) (rest : List ℕ) → HasHead bytes h rest → ⊥

-- these bytes don't decide: they are no head and may become one, or they have more header lines than one may,
-- and then a longer prefix may still show that they are no head
abbrev pub IsUndecided : ℕ → List ℕ → Type 0
IsUndecided lines bytes = (HasNoRequest bytes × MayBecomeRequest bytes) ⊎ (RequestExceeds lines bytes × RequestOverflows lines bytes)

-- what a look at the bytes says of them
abbrev pub IsLook : ℕ → List ℕ → List HeaderSpan → Look → Type 0
IsLook lines bytes headers (looks.Whole spans) = IsRequestWithin bytes headers spans × IsRequestOf bytes headers spans
IsLook lines bytes headers looks.Never = NeverHasRequest bytes
IsLook lines bytes headers looks.Open = IsUndecided lines bytes

-- where a head may be read on for: behind bytes that don't decide, and within its bound
abbrev pub MayReadHead : List ℕ → ℕ → Type 0
MayReadHead bytes asked = IsUndecided max_lines bytes × (length bytes + asked ≤ max_head)

-- what the end of reading a head says of the bytes that were read, and of what is left
abbrev pub IsHeadEnd : List ℕ → List HeaderSpan → Option (List ℕ) → HeadEnd → Type 0
IsHeadEnd bytes headers left (Whole spans) = IsRequestWithin bytes headers spans × IsRequestOf bytes headers spans
IsHeadEnd bytes headers left Never = NeverHasRequest bytes
IsHeadEnd bytes headers left Ended = LacksHead bytes × (length bytes < max_head) × AtEnd left
IsHeadEnd bytes headers left Full = LacksHead bytes × (length bytes ≡ max_head)
IsHeadEnd bytes headers left Fault = LacksHead bytes × (length bytes < max_head)

-- how many reads took nothing
abbrev pub idle_head : HeadEnd → ℕ
idle_head (Whole spans) = 0
idle_head Never = 0
idle_head Full = 0
idle_head Ended = 1
idle_head Fault = 1

abbrev pub failed_head : HeadEnd → Bool
failed_head Fault = true
failed_head (Whole spans) = false
failed_head Never = false
failed_head Ended = false
failed_head Full = false
