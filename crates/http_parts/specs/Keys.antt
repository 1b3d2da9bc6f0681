-- Keys in hex.
use Rattle.std.specs.Prelude.{ℕ, List, Result, Ok, Err, Bool, false}
use Rattle.std.specs.Str.{bytes_eq}
use Rattle.hex.specs.Hex.{decode_sized}
use Rattle.hex.specs.declared.error.FromHexError.{FromHexError}

-- the bytes are the key
abbrev pub gives_key : List ℕ → Result (List ℕ) FromHexError → Bool
gives_key key (Ok bytes) = bytes_eq bytes key
gives_key key (Err e) = false

-- the text is the key in 64 hex digits, of either case
abbrev pub is_key : List ℕ → List ℕ → Bool
is_key key text = gives_key key (decode_sized text 32)
