-- What contracts see of an encoder.
use Rattle.std.specs.Prelude.{ℕ, List, slice_index}
use Rattle.rs_stripe.specs.Segment.{tabulate}

pub record Encoding : Type 0 where
  -- a stripe is k rows of size bytes
  pub k : ℕ
  pub size : ℕ
  -- the indexes of the shares that it makes
  pub indexes : List ℕ
  -- the stripe that it holds
  pub stripe : List ℕ

-- the first n bytes, with zeros where there are none
abbrev pub filled : ℕ → List ℕ → List ℕ
filled n bytes = tabulate n (slice_index bytes)
