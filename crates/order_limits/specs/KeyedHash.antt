-- The hash states that a key is kept as.
use Rattle.std.specs.Prelude.{ℕ, List}
use Rattle.sha2.specs.Hashers.{Holds256}
use Rattle.order_limits.specs.Hmac.{padded, masked}
use Rattle.order_limits.specs.declared.mac.KeyedHash.{KeyedHash}

-- each state has taken in its one block of the key
pub record IsKeyedBy (hash : KeyedHash) (key : List ℕ) : Type 0 where
  pub inner : Holds256 hash.inner (masked 0x36 (padded key))
  pub outer : Holds256 hash.outer (masked 0x5c (padded key))
