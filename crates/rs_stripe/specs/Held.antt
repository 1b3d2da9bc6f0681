-- What an encoder keeps.
use Rattle.std.specs.Prelude.{◌≡◌, ℕ, ◌*◌, ◌≤◌, List, length}
use Rattle.gf256.specs.Halves.{AreSmall, joined}
use Rattle.rs_stripe.specs.Segment.{tabulate}
use Rattle.rs_stripe.specs.Weights.{AreMatrix}
use Rattle.rs_stripe.specs.Encoding.{Encoding}
use Rattle.rs_stripe.specs.declared.encoder.Encoder.TheInside.{Inside}

-- the bytes of these halves
abbrev pub bytes_in : List ℕ → List ℕ → List ℕ
bytes_in low high = tabulate (length low) (joined low high)

abbrev pub encoding_of : Inside → Encoding
encoding_of held = record {
  k = held.k;
  size = held.size;
  indexes = held.indexes.items;
  stripe = bytes_in held.low.items held.high.items;
}

-- the weights are those of the indexes, and there is room for the halves of a stripe
pub record IsHeld (held : Inside) : Type 0 where
  pub few : held.k ≤ 128
  pub short : held.size ≤ 1024
  pub matrix : AreMatrix held.k held.indexes.items held.weights.items
  pub rows : length held.weights.items ≡ length held.indexes.items * held.k
  pub low : length held.low.items ≡ held.k * held.size
  pub high : length held.high.items ≡ held.k * held.size
  pub small : AreSmall held.low.items
  pub small_high : AreSmall held.high.items
