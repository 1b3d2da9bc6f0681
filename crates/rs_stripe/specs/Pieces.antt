-- Pieces while they are written.
use Rattle.std.specs.Prelude.{◌≡◌, ℕ, ◌+◌, ◌*◌, ◌<◌, List, ◌++◌, length, take, slice_index, slice_index_or}
use Rattle.std.specs.List.{concat}
use Rattle.rs_stripe.specs.Segment.{tabulate, share_of, stripe_of}

-- a share is written behind the first bytes of a piece
pub record IsWritten (share : List ℕ) (at : ℕ) (old new : List ℕ) : Type 0 where
  pub written : take (at + length share) new ≡ take at old ++ share
  pub long : length new ≡ length old

-- pieces of these indexes, of len bytes each, into which the shares of the first stripes are written
pub record AreWritten (k size : ℕ) (segment indexes : List ℕ) (len stripes : ℕ) (pieces : List (List ℕ)) : Type 0 where
  pub as_many : length pieces ≡ length indexes
  pub long : (t : ℕ) (d : List ℕ) → t < length pieces → length (slice_index_or pieces t d) ≡ len
  pub written :
      (t : ℕ) (d : List ℕ) → t < length pieces
      → take (stripes * size) (slice_index_or pieces t d)
      ≡ concat (tabulate stripes (λ s. share_of k size (stripe_of k size segment s) (slice_index indexes t)))
