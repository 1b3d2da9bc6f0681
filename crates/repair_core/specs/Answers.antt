-- What pieces answer for each stripe. A piece of `count` stripes is a run of `size` bytes for each.
use Rattle.std.specs.Prelude.{ℕ, ◌*◌, ◌==◌, cond, List, [], length, map}
use Rattle.sat_base.specs.declared.items.Share.{Share}
use Rattle.rs_stripe.specs.Segment.{run}

-- the bytes for stripe s: its run, where the piece has the right length, and else none
abbrev pub answer_bytes : ℕ → ℕ → ℕ → List ℕ → List ℕ
answer_bytes size count s bytes = cond (length bytes == count * size) (run size bytes s) []

-- the answer for stripe s. Where the piece has a wrong length it is empty, and so altered
abbrev pub answer_at : ℕ → ℕ → ℕ → Share → Share
answer_at size count s piece = record { index = piece.index; bytes = answer_bytes size count s piece.bytes }

-- the answer of each piece for stripe s
abbrev pub answers_at : ℕ → ℕ → ℕ → List Share → List Share
answers_at size count s pieces = map (answer_at size count s) pieces
