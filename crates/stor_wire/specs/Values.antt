-- What headers say.
use Rattle.std.specs.Prelude.{ℕ, List, [], ◌∷◌, codes, Option, Some, None, option_and_then, Result, Ok, Err}
use Rattle.hex.specs.Hex.{decode_of}
use Rattle.hex.specs.declared.error.FromHexError.{FromHexError}
use Rattle.sat_base.specs.Text.{number_up_to}
use Rattle.http_parts.specs.Headers.{value_named, values_named}

-- headers, each with its name and its value
abbrev pub Fields : Type 0
Fields = List (List ℕ × List ℕ)

-- the number that the first header of a name says, where it is one, and at most so great
abbrev pub number_named : List ℕ → ℕ → Fields → Option ℕ
number_named name most hs = option_and_then (number_up_to most) (value_named name hs)

abbrev pub decoded : Result (List ℕ) FromHexError → Option (List ℕ)
decoded (Ok bytes) = Some bytes
decoded (Err e) = None

abbrev pub hex_bytes : List ℕ → Option (List ℕ)
hex_bytes text = decoded (decode_of text)

-- the bytes that the first x-order header says, in hex digits of either case
abbrev pub order_named : Fields → Option (List ℕ)
order_named hs = option_and_then hex_bytes (value_named (codes "x-order") hs)

-- the number that the one header says, where just one is there
abbrev pub only_number : ℕ → List (List ℕ) → Option ℕ
only_number most [] = None
only_number most (v ∷ []) = number_up_to most v
only_number most (v ∷ w ∷ vs) = None

-- how many bytes Content-Length says that there are
abbrev pub length_named : ℕ → Fields → Option ℕ
length_named most hs = only_number most (values_named (codes "content-length") hs)
