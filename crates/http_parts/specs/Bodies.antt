-- A body that was read.
use Rattle.std.specs.Prelude.{◌≡◌, ℕ, ◌+◌, ◌<◌, ◌≤◌, List, [], ◌++◌, length, take, Option, Result, Ok, Err, Vec, Bool, true, false}
use Rattle.std.specs.declared.alloc.Global.{Global}
use Rattle.sat_base.specs.Streams.{AtEnd}
use Rattle.sat_base.specs.declared.streams.Filling.{Filling}
use Rattle.sat_base.specs.declared.streams.Filling.TheVariants as ends
use Rattle.http_parts.specs.declared.bodies.BodyErr.{BodyErr}
use Rattle.http_parts.specs.declared.bodies.BodyErr.TheVariants.{Short, Fault, NoMemory}

-- the body is the first bytes behind the head, or there are too few
abbrev pub IsBody : ℕ → List ℕ → Result (Vec ℕ Global) BodyErr → Type 0
IsBody size rest (Ok v) = (v.items ≡ take size rest) × (size ≤ length rest)
IsBody size rest (Err Short) = length rest < size
IsBody size rest (Err Fault) = Unit {0}
IsBody size rest (Err NoMemory) = Unit {0}

-- the same in words of the bytes that came with the head and of those that were taken then: the body is the first of
-- them; or they are too few, as the source is at its end or a read failed; or there was no room, and none was taken
abbrev pub IsBodyTaken : ℕ → List ℕ → List ℕ → Option (List ℕ) → Result (Vec ℕ Global) BodyErr → Type 0
IsBodyTaken size read more left (Ok v) = (v.items ≡ take size (read ++ more)) × (size ≤ length (read ++ more))
IsBodyTaken size read more left (Err Short) = (length (read ++ more) < size) × AtEnd left
IsBodyTaken size read more left (Err Fault) = length (read ++ more) < size
IsBodyTaken size read more left (Err NoMemory) = more ≡ []

abbrev pub failed_fetch : Result (Vec ℕ Global) BodyErr → Bool
failed_fetch (Ok v) = false
failed_fetch (Err Short) = false
failed_fetch (Err Fault) = true
failed_fetch (Err NoMemory) = false

-- the body is the first of these bytes, or they are too few, as the source is at its end or a read failed
abbrev pub IsFilled : List ℕ → List ℕ → Option (List ℕ) → Filling → Type 0
IsFilled body bytes left ends.Full = (body ≡ take (length body) bytes) × (length body ≤ length bytes)
IsFilled body bytes left ends.Ended = (length bytes < length body) × AtEnd left
IsFilled body bytes left ends.Failed = length bytes < length body

-- a read for a body of that size asks at most for what is missing behind what came with the head and was taken
abbrev pub MayReadBody : ℕ → List ℕ → List ℕ → ℕ → Type 0
MayReadBody size read taken asked = length read + length taken + asked ≤ size
