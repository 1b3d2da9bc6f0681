-- The room that a step leaves which is given up: none for a record that isn't there.
use Rattle.std.specs.Prelude.{ℕ, ◌*◌}
use Rattle.sat_base.specs.Moments.{IsMoment}
use Rattle.sat_base.specs.Ranks.{containment_rank, customer_rank, kept_rank, tariff_rank}
use Rattle.rows.specs.Rows.{Each}
use Rattle.rows.specs.Slots.{Slots}
use Rattle.node_registry.specs.Left.{left_rank}
use Rattle.segment_core.specs.Record.{SegmentRecord}
use Rattle.segment_index.specs.Indexed.{IsReleased, HasNoMoreRoom}
use Rattle.tally_payout.specs.declared.amounts.Statement.{Statement}
use Rattle.tally_payout.specs.declared.amounts.Tally.{Tally}
use Rattle.tally_payout.specs.Ranks.{month_place, tally_rank, statement_rank}
use Rattle.month_pay.specs.Months.{month_at, month_of_hour}
use Rattle.month_sums.specs.Open.{open_rank}
use Rattle.machine_calls.specs.declared.change.RecChange.{RecChange}
use Rattle.machine_calls.specs.declared.change.RecChange.TheVariants as changes
use Rattle.pay_tables.specs.Amounts.{balance_rank}
use Rattle.pay_tables.specs.Placed.{IsFreed, HasNoMore, HasNoMoreSlots}
use Rattle.machine_store.specs.declared.store.Store.{Store}

-- a rank has a slot only with its row
abbrev pub IsTight : {R : Type 0} → (R → ℕ) → Slots R → ℕ → Type 0
IsTight rank table k = IsFreed rank table table k

pub record IsSegmentFreed (s : Store) (segment : SegmentRecord) : Type 0 where
  pub index : IsReleased s.segments segment
  pub bytes : Each (λ piece. IsTight balance_rank s.pay.stored piece.node.0) segment.pieces

pub record IsTallyFreed (s : Store) (tally : Tally) : Type 0 where
  pub row : IsTight tally_rank s.pay.tallies (tally_rank tally)
  pub sum : IsTight open_rank s.pay.sums (month_place (month_of_hour tally.hour.0) tally.node.0)

pub record IsStatementFreed (s : Store) (statement : Statement) : Type 0 where
  pub row : IsTight statement_rank s.pay.statements (statement_rank statement)
  pub pot : IsTight balance_rank s.pay.pots statement.node.0

-- the room of what pay goes by; no tally is placed behind the last hour
abbrev pub IsPaidFreed : Store → RecChange → Type 0
IsPaidFreed s (changes.Segment r) = IsSegmentFreed s r
IsPaidFreed s (changes.SettledRow r) = IsTight open_rank s.pay.sums (month_place (month_at r.at) r.node.0)
IsPaidFreed s (changes.Tally r) = IsMoment (r.hour.0 * 3600) → IsTallyFreed s r
IsPaidFreed s (changes.Statement r) = IsStatementFreed s r
IsPaidFreed s _ = Unit {0}

-- the room of the other records that have a rank
abbrev pub IsPlainFreed : Store → RecChange → Type 0
IsPlainFreed s (changes.Customer r) = IsTight customer_rank s.customers (customer_rank r)
IsPlainFreed s (changes.Containment r) = IsTight containment_rank s.containments (containment_rank r)
IsPlainFreed s (changes.Kept r) = IsTight kept_rank s.kept (kept_rank r)
IsPlainFreed s (changes.Left r) = IsTight left_rank s.left (left_rank r)
IsPlainFreed s (changes.Tariff r) = IsTight tariff_rank s.tariffs (tariff_rank r)
IsPlainFreed s _ = Unit {0}

-- No room stands for the record that a change puts, if there is none. Room for nodes and for rows of settled orders
-- has no rank and serves the next one; the other records take no room.
pub record HasNoRoom (s : Store) (change : RecChange) : Type 0 where
  pub plain : IsPlainFreed s change
  pub paid : IsPaidFreed s change

-- no room that wasn't there, but for what has no rank
pub record HasNoMoreRooms (old new : Store) : Type 0 where
  pub customers : HasNoMore old.customers new.customers
  pub segments : HasNoMoreRoom old.segments.room new.segments.room
  pub pay : HasNoMoreSlots old.pay new.pay
  pub containments : HasNoMore old.containments new.containments
  pub kept : HasNoMore old.kept new.kept
  pub left : HasNoMore old.left new.left
  pub tariffs : HasNoMore old.tariffs new.tariffs
