-- What contracts see of a decoder's room.
use Rattle.std.specs.Prelude.{◌≡◌, ℕ, List}
use Rattle.std.specs.List.{range_with_len}
use Rattle.rs_stripe.specs.Encoding.{Encoding}

pub record Room : Type 0 where
  -- for so many points
  pub points : ℕ
  -- so many systems were solved with it
  pub solves : ℕ

-- an encoder of the shares below n of stripes of k rows of size bytes
pub record IsEncoderOf (k size n : ℕ) (encoder : Encoding) : Type 0 where
  pub k_is : encoder.k ≡ k
  pub size_is : encoder.size ≡ size
  pub indexes_are : encoder.indexes ≡ range_with_len 0 n

-- it holds this stripe
pub record IsHeldBy (k size n : ℕ) (stripe : List ℕ) (encoder : Encoding) : Type 0 where
  pub own : IsEncoderOf k size n encoder
  pub stripe_is : encoder.stripe ≡ stripe
