-- What is kept beside the rows is in step with them.
use Rattle.std.specs.Prelude.{◌*◌, ◌^◌, ◌<◌, ◌≤◌, List, length}
use Rattle.sat_base.specs.Moments.{IsMoment}
use Rattle.sat_base.specs.declared.limits.TheConstants as limits
use Rattle.rows.specs.Rows.{Each, IsRising}
use Rattle.segment_core.specs.Record.{SegmentRecord}
use Rattle.settlement.specs.declared.row.SettledRow.{SettledRow}
use Rattle.tally_payout.specs.Ranks.{tally_rank}
use Rattle.month_sums.specs.Open.{GoByRows}
use Rattle.machine_step.specs.Tables.{Setup}
use Rattle.pay_tables.specs.declared.tables.PayTables.{PayTables}
use Rattle.pay_tables.specs.Amounts.{GoBySegments, GoByStatements}

-- an amount of eight bytes
abbrev pub IsSmallOrder : SettledRow → Type 0
IsSmallOrder row = row.amount < 2 ^ 64

-- a segment below 2^40 bytes, so that no node's bytes pass 128 bits
abbrev pub IsShort : SegmentRecord → Type 0
IsShort segment = segment.len < 2 ^ 40

-- sums, stored bytes and pots go by the rows, and the rows are within the bounds that keep the amounts small
pub record IsInStep (setup : Setup) (segments : List SegmentRecord) (settled : List SettledRow) (p : PayTables) : Type 0 where
  pub sums : GoByRows p.sums.rows settled p.tallies.rows p.statements.rows
  pub stored : GoBySegments setup p.stored.rows segments
  pub pots : GoByStatements p.pots.rows p.statements.rows
  pub short : Each IsShort segments
  pub small : Each IsSmallOrder settled
  pub few : length settled ≤ limits.SETTLED
  pub rising : IsRising tally_rank p.tallies.rows
  pub bytes : Each (λ row. row.bytes ≤ 2 ^ 44) p.tallies.rows
  pub early : Each (λ row. IsMoment (row.hour.0 * 3600)) p.tallies.rows
