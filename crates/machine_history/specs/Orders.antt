-- Orders that a history settled.
use Rattle.std.specs.Prelude.{◌≡◌, ℕ, ◌<◌, ◌≤◌, List, None, Some, slice_get}
use Rattle.sat_base.specs.declared.ids.NodeId.{NodeId}
use Rattle.order_limits.specs.Order.{IsGoodOrder}
use Rattle.order_limits.specs.declared.limit.Order.{Order}
use Rattle.settlement.specs.Place.{place}
use Rattle.settlement.specs.Rows.{row_of}
use Rattle.machine_calls.specs.declared.call.Call.{Call}
use Rattle.machine_calls.specs.declared.call.Call.TheVariants as calls
use Rattle.machine_calls.specs.declared.wish.Wish.TheVariants as wishes
use Rattle.machine_calls.specs.declared.reply.Reply.{Reply}
use Rattle.machine_calls.specs.declared.reply.Reply.TheVariants as replies
use Rattle.machine_step.specs.Tables.{Tables}
pub use Rattle.machine_step.specs.Step.{HasBytes}
use Rattle.machine_history.specs.History.{Said}

-- each order that is presented is of bytes
abbrev pub AreOfBytes : List Said → Type 0
AreOfBytes h = (i : ℕ) (said : Said) → slice_get h i ≡ Some said → HasBytes said.call

-- where a call settled an order anew: of which node it came, its bytes, and the amount
abbrev pub IfSettled : Call → Reply → (NodeId → List ℕ → ℕ → Type 0) → Type 0
IfSettled (calls.Asked now words (wishes.Settle node bytes)) (replies.Settled amount) P = P node bytes amount
IfSettled _ _ P = Unit {0}

-- the bytes are a good order of the node, over the amount, which is within the limit
pub record SettlesAs (secret : List ℕ) (node : NodeId) (bytes : List ℕ) (amount : ℕ) (o : Order) : Type 0 where
  pub good : IsGoodOrder secret bytes o
  pub own : o.limit.node.0 ≡ node.0
  pub amount_is : o.amount ≡ amount
  pub within : amount ≤ o.limit.limit

-- nothing settled an order of this serial and node before: no row at the beginning, and no earlier call
pub record IsFirst (t : Tables) (h : List Said) (i : ℕ) (o : Order) : Type 0 where
  pub not_at_start : row_of t.settled (place o.limit.serial o.limit.node) ≡ None
  pub not_before : (j : ℕ) (other : Said) → j < i → slice_get h j ≡ Some other
      → IfSettled other.call other.reply (λ node bytes amount. (p : Order) → SettlesAs t.setup.secret node bytes amount p → place p.limit.serial p.limit.node ≡ place o.limit.serial o.limit.node → ⊥)

-- each order that was settled is a good one of its node, within its limit, and the first of its serial and node
abbrev pub SettleOnce : Tables → List Said → Type 0
SettleOnce t h = (i : ℕ) (said : Said) → slice_get h i ≡ Some said
    → IfSettled said.call said.reply (λ node bytes amount. (o : Order) × SettlesAs t.setup.secret node bytes amount o × IsFirst t h i o)
