-- A segment that was rebuilt whole.
use Rattle.std.specs.Prelude.{◌≡◌, ℕ, ◌*◌, ◌<◌, List, length, map, All}
use Rattle.sat_base.specs.declared.items.Share.{Share}
use Rattle.rs_stripe.specs.Segment.{run, tabulate, piece_of}
use Rattle.bw_decode.specs.Near.{IsNear}
use Rattle.repair_core.specs.Answers.{answers_at}
use Rattle.repair_core.specs.Stripes.{altered_indexes}

-- the bytes cut into count stripes of k rows of size bytes
abbrev pub stripes_of : ℕ → ℕ → ℕ → List ℕ → List (List ℕ)
stripes_of k size count bytes = tabulate count (run (k * size) bytes)

-- the segment's piece of this index
abbrev pub fresh_piece : ℕ → ℕ → List ℕ → ℕ → Share
fresh_piece k size bytes index = record { index = index; bytes = piece_of k size bytes index }

-- the bytes are whole stripes, each of them near what the pieces answer for it. Just the pieces that are altered for
-- at least one of them are blamed, and the fresh pieces are those of the bytes at the targets
pub record IsRebuilt (k size count : ℕ) (targets : List ℕ) (pieces : List Share) (bytes blamed : List ℕ) (fresh : List Share) : Type 0 where
  pub long : length bytes ≡ count * (k * size)
  pub bytes_are : All (λ byte. byte < 256) bytes
  pub near : (s : ℕ) → s < count → IsNear k size (run (k * size) bytes s) (answers_at size count s pieces)
  pub blames : blamed ≡ altered_indexes k size count (stripes_of k size count bytes) pieces
  pub fresh_are : fresh ≡ map (fresh_piece k size bytes) targets
