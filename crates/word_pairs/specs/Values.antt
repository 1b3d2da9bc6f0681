-- The values of words.
use Rattle.std.specs.Prelude.{ℕ, List, Option, Some, None, Result, Ok, Err, nat_le, if◌then◌else◌}
use Rattle.hex.specs.Hex.{decode_sized}
use Rattle.sat_base.specs.Text.{number_up_to}

abbrev pub result_ok : {A E : Type 0} → Result A E → Option A
result_ok (Ok x) = Some x
result_ok (Err e) = None

-- 64 hex digits in either case
abbrev pub secret_of : Option (List ℕ) → Option (List ℕ)
secret_of None = None
secret_of (Some text) = result_ok (decode_sized text 32)

-- the same where they are there; no secret is none
abbrev pub given : Option (List ℕ) → Option (Option (List ℕ))
given None = None
given (Some secret) = Some (Some secret)

abbrev pub secret_or_none : Option (List ℕ) → Option (Option (List ℕ))
secret_or_none None = Some None
secret_or_none (Some text) = given (secret_of (Some text))

abbrev pub at_least : ℕ → Option ℕ → Option ℕ
at_least low None = None
at_least low (Some n) = if nat_le low n then Some n else None

-- a number from low to high
abbrev pub number_within : ℕ → ℕ → Option (List ℕ) → Option ℕ
number_within low high None = None
number_within low high (Some text) = at_least low (number_up_to high text)

-- the same, or the usual one where none is there
abbrev pub number_or : ℕ → ℕ → ℕ → Option (List ℕ) → Option ℕ
number_or usual low high None = Some usual
number_or usual low high (Some text) = number_within low high (Some text)
