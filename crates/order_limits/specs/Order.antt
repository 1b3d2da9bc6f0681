-- The bytes of limits and orders.
use Rattle.std.specs.Prelude.{◌≡◌, ℕ, zero, suc, ◌<◌, ◌^◌, List, [], ◌∷◌, ◌++◌, length, Option, Some, None}
use Rattle.std.specs.Int.{w32, w64, to_be_bytes}
use Rattle.order_limits.specs.Hmac.{hmac}
use Rattle.order_limits.specs.Keys.{node_key, order_tag_of}
use Rattle.order_limits.specs.declared.limit.Action.{Action}
use Rattle.order_limits.specs.declared.limit.Action.TheVariants.{Put, Get, GetAudit, GetRepair, PutRepair}
use Rattle.order_limits.specs.declared.limit.Limit.{Limit}
use Rattle.order_limits.specs.declared.limit.Order.{Order}

abbrev pub action_byte : Action → ℕ
action_byte Put = 1
action_byte Get = 2
action_byte GetAudit = 3
action_byte GetRepair = 4
action_byte PutRepair = 5

abbrev pub action_of : ℕ → Option Action
action_of (suc zero) = Some Put
action_of (suc (suc zero)) = Some Get
action_of (suc (suc (suc zero))) = Some GetAudit
action_of (suc (suc (suc (suc zero)))) = Some GetRepair
action_of (suc (suc (suc (suc (suc zero))))) = Some PutRepair
action_of _ = None

-- the fields of a limit, behind its version
unfoldable pub limit_body : Limit → List ℕ
limit_body l =
    1 ∷ action_byte l.action ∷ [] ++ to_be_bytes w64 l.serial.0 ++ to_be_bytes w32 l.node.0
    ++ to_be_bytes w64 l.segment.0 ++ l.index ∷ [] ++ to_be_bytes w64 l.limit
    ++ to_be_bytes w64 l.issued ++ to_be_bytes w64 l.expires ++ to_be_bytes w32 l.customer.0

-- a limit's bytes, with its tag under its node's key
unfoldable pub limit_under : List ℕ → Limit → List ℕ
limit_under key l = limit_body l ++ hmac key (limit_body l)

abbrev pub limit_bytes : List ℕ → Limit → List ℕ
limit_bytes secret l = limit_under (node_key secret l.node) l

-- an order's bytes, with both tags
unfoldable pub order_bytes : List ℕ → Order → List ℕ
order_bytes secret o =
    limit_bytes secret o.limit ++ to_be_bytes w64 o.amount
    ++ order_tag_of secret o.limit.serial o.limit.node o.amount

-- the ranges of a limit's fields
pub record FitsLimit (l : Limit) : Type 0 where
  pub serial : l.serial.0 < 2 ^ 64
  pub node : l.node.0 < 2 ^ 32
  pub segment : l.segment.0 < 2 ^ 64
  pub index : l.index < 2 ^ 8
  pub limit : l.limit < 2 ^ 64
  pub issued : l.issued < 2 ^ 64
  pub expires : l.expires < 2 ^ 64
  pub customer : l.customer.0 < 2 ^ 32

-- the ranges of an order's fields
pub record FitsOrder (o : Order) : Type 0 where
  pub limit_fits : FitsLimit o.limit
  pub amount : o.amount < 2 ^ 64

-- ---- good limits and orders

-- the bytes are those of the limit, with its tag under the node's key
pub record IsGoodLimit (key bytes : List ℕ) (l : Limit) : Type 0 where
  pub fits : FitsLimit l
  pub written : bytes ≡ limit_under key l

-- the bytes are those of the order, with both tags under keys of the secret
pub record IsGoodOrder (secret bytes : List ℕ) (o : Order) : Type 0 where
  pub fits : FitsOrder o
  pub written : bytes ≡ order_bytes secret o

-- the bytes are those of the order, with its limit's tag under the node's key, and some tag of its own
pub record IsOffer (key bytes : List ℕ) (o : Order) : Type 0 where
  pub fits : FitsOrder o
  pub tag : List ℕ
  pub sized : length tag ≡ 32
  pub written : bytes ≡ limit_under key o.limit ++ to_be_bytes w64 o.amount ++ tag
