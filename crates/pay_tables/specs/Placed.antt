-- What can be put without taking memory, and what a change leaves as it is.
use Rattle.std.specs.Prelude.{◌≡◌, ℕ, ◌*◌, ◌^◌, ◌<◌, ◌≤◌, true, false, List, None}
use Rattle.sat_base.specs.Moments.{IsMoment}
use Rattle.sat_base.specs.declared.ids.NodeId.{NodeId}
use Rattle.sat_base.specs.declared.records.At.{At}
use Rattle.rows.specs.Rows.{Each, row_at}
use Rattle.rows.specs.Slots.{Slots, has_slot}
use Rattle.settlement.specs.declared.row.SettledRow.{SettledRow}
use Rattle.tally_payout.specs.declared.amounts.Tally.{Tally}
use Rattle.tally_payout.specs.declared.amounts.Statement.{Statement}
use Rattle.tally_payout.specs.Ranks.{month_place, tally_rank, statement_rank}
use Rattle.month_pay.specs.Months.{month_at, month_of_hour}
use Rattle.pay_tables.specs.declared.tables.PayTables.{PayTables}

-- a node has no statement of a month
abbrev pub IsOpen : PayTables → ℕ → NodeId → Type 0
IsOpen p month node = row_at statement_rank p.statements.rows (month_place month node.0) ≡ None

-- ---- what can be placed

abbrev pub IsOrderPlaceable : PayTables → SettledRow → Type 0
IsOrderPlaceable p row = IsOpen p (month_at row.at) row.node

pub record IsTallyPlaceable (p : PayTables) (tally : Tally) : Type 0 where
  pub absent : row_at tally_rank p.tallies.rows (tally_rank tally) ≡ None
  pub unstated : IsOpen p (month_of_hour tally.hour.0) tally.node
  pub small : tally.bytes ≤ 2 ^ 44
  pub early : IsMoment (tally.hour.0 * 3600)

-- a statement goes behind all others
abbrev pub IsStatementPlaceable : PayTables → Statement → Type 0
IsStatementPlaceable p s = Each (λ row. statement_rank row < statement_rank s) p.statements.rows

-- ---- what is placed

pub record IsOrderPlaced (p : PayTables) (row : SettledRow) : Type 0 where
  pub sum : has_slot p.sums (month_place (month_at row.at) row.node.0) ≡ true
  pub able : IsOrderPlaceable p row

pub record IsTallyPlaced (p : PayTables) (tally : Tally) : Type 0 where
  pub row : has_slot p.tallies (tally_rank tally) ≡ true
  pub sum : has_slot p.sums (month_place (month_of_hour tally.hour.0) tally.node.0) ≡ true
  pub able : IsTallyPlaceable p tally

pub record IsStatementPlaced (p : PayTables) (s : Statement) : Type 0 where
  pub row : has_slot p.statements (statement_rank s) ≡ true
  pub pot : has_slot p.pots s.node.0 ≡ true
  pub able : IsStatementPlaceable p s

abbrev pub ArePiecesPlaced : PayTables → List At → Type 0
ArePiecesPlaced p pieces = Each (λ piece. has_slot p.stored piece.node.0 ≡ true) pieces

-- the room of a rank is gone, if it has no row
abbrev pub IsFreed : {R : Type 0} → (R → ℕ) → Slots R → Slots R → ℕ → Type 0
IsFreed rank old new k = row_at rank old.rows k ≡ None → has_slot new k ≡ false

-- no slot that wasn't there
abbrev pub HasNoMore : {R : Type 0} → Slots R → Slots R → Type 0
HasNoMore old new = (k : ℕ) → has_slot old k ≡ false → has_slot new k ≡ false

pub record HasNoMoreSlots (old new : PayTables) : Type 0 where
  pub tallies : HasNoMore old.tallies new.tallies
  pub statements : HasNoMore old.statements new.statements
  pub sums : HasNoMore old.sums new.sums
  pub stored : HasNoMore old.stored new.stored
  pub pots : HasNoMore old.pots new.pots

-- ---- what a change leaves as it is

-- all rows
pub record KeepsRows (old new : PayTables) : Type 0 where
  pub tallies : new.tallies.rows ≡ old.tallies.rows
  pub statements : new.statements.rows ≡ old.statements.rows
  pub sums : new.sums.rows ≡ old.sums.rows
  pub stored : new.stored.rows ≡ old.stored.rows
  pub pots : new.pots.rows ≡ old.pots.rows

-- what is placed stays so
pub record KeepsPlaces (old new : PayTables) : Type 0 where
  pub order : (row : SettledRow) → IsOrderPlaced old row → IsOrderPlaced new row
  pub tally : (tally : Tally) → IsTallyPlaced old tally → IsTallyPlaced new tally
  pub statement : (s : Statement) → IsStatementPlaced old s → IsStatementPlaced new s
  pub pieces : (pieces : List At) → ArePiecesPlaced old pieces → ArePiecesPlaced new pieces
