-- The words of a drill, of which each state of the generator gives one.
use Rattle.std.specs.Prelude.{ℕ, ◌+◌, ◌*◌, ◌/◌, ◌%◌, ◌^◌, bit_xor}

-- the state behind one word more
abbrev pub next_state : ℕ → ℕ
next_state state = (state + 0x9E37_79B9_7F4A_7C15) % 2 ^ 64

-- a number, combined with its own bits from this one on
abbrev pub folded : ℕ → ℕ → ℕ
folded from z = bit_xor z (z / 2 ^ from)

-- the word of a state
unfoldable pub word_of : ℕ → ℕ
word_of state =
    let once = folded 30 state * 0xBF58_476D_1CE4_E5B9 % 2 ^ 64 in
    let twice = folded 27 once * 0x94D0_49BB_1331_11EB % 2 ^ 64 in
    folded 31 twice
