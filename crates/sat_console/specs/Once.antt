-- The law of `settle`, in words of lines and their answers alone: nothing settles twice.
use Rattle.std.specs.Prelude.{◌≡◌, ◌≢◌, ℕ, ◌<◌, ◌≤◌, List, Some, Ok, Err, slice_get}
use Rattle.order_limits.specs.Read.{order_of}
use Rattle.order_limits.specs.declared.limit.Order.{Order}
use Rattle.settlement.specs.declared.answer.Settling.TheVariants as did
use Rattle.settlement.specs.declared.answer.SettleErr.TheVariants as no
use Rattle.sat_console.specs.Form.{Asked, asked_of}
use Rattle.sat_console.specs.Answers.{Answer}

-- a line whose node presents an order of its own
pub record Presents (secret line : List ℕ) (o : Order) : Type 0 where
  pub asked : Asked
  pub form : asked_of line ≡ Some asked
  pub reads : order_of secret asked.order ≡ Ok o
  pub own : o.limit.node.0 ≡ asked.node.0

abbrev pub SamePair : Order → Order → Type 0
SamePair o p = (o.limit.serial.0 ≡ p.limit.serial.0) × (o.limit.node.0 ≡ p.limit.node.0)

-- the answer at a place
abbrev pub SettledAt : List Answer → ℕ → ℕ → Type 0
SettledAt answers i amount = slice_get answers i ≡ Some (Some (Ok (did.Settled amount)))

abbrev pub AgainAt : List Answer → ℕ → ℕ → Type 0
AgainAt answers i amount = slice_get answers i ≡ Some (Some (Ok (did.Again amount)))

abbrev pub DiffersAt : List Answer → ℕ → ℕ → Type 0
DiffersAt answers i kept = slice_get answers i ≡ Some (Some (Err (no.Differs kept)))

-- the line at a place presents an order
abbrev pub PresentsAt : List ℕ → List (List ℕ) → ℕ → Order → Type 0
PresentsAt secret lines i o = (line : List ℕ) × (slice_get lines i ≡ Some line) × Presents secret line o

pub record SettlesOnce (secret : List ℕ) (lines : List (List ℕ)) (answers : List Answer) : Type 0 where
  -- what is settled is the amount of an order that its line's node presents, within its limit
  pub within : (i amount : ℕ) → SettledAt answers i amount →
      (o : Order) × PresentsAt secret lines i o × (o.amount ≡ amount) × (amount ≤ o.limit.limit)
  -- no later line settles an order of the same serial and node
  pub once : (i j a b : ℕ) (o p : Order) → i < j → PresentsAt secret lines i o → PresentsAt secret lines j p → SamePair o p →
      SettledAt answers i a → SettledAt answers j b → ⊥
  -- an equal repeat is answered `again`
  pub again : (i j a : ℕ) (o p : Order) → i < j → PresentsAt secret lines i o → PresentsAt secret lines j p → SamePair o p →
      SettledAt answers i a → o.amount ≡ p.amount → AgainAt answers j a
  -- and one of another amount `differs`
  pub differs : (i j a : ℕ) (o p : Order) → i < j → PresentsAt secret lines i o → PresentsAt secret lines j p → SamePair o p →
      SettledAt answers i a → o.amount ≢ p.amount → DiffersAt answers j a
