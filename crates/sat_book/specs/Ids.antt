-- Ids that their bytes tell apart: within what their types hold.
use Rattle.sat_base.specs.declared.records.Key.{Key}
use Rattle.sat_base.specs.declared.records.Key.TheVariants as keys
use Rattle.record_kinds.specs.declared.rec.Rec.{Rec}
use Rattle.record_kinds.specs.declared.rec.Rec.TheVariants as records
use Rattle.record_rows.specs.Numbers.{IsU32, IsU64}
use Rattle.machine_calls.specs.Changes.{Doing, doing}
use Rattle.machine_calls.specs.Changes.Doing.{puts, removes}
use Rattle.machine_calls.specs.declared.change.RecChange.{RecChange}
use Rattle.machine_step.specs.Tables.{Tables}
use Rattle.machine_step.specs.Bounds.{Each}

-- the tables whose rows have an id each
pub data Table : Type 0 where
  nodes_table : Table
  customers_table : Table
  segments_table : Table
  settled_table : Table
  tallies_table : Table
  statements_table : Table
  containments_table : Table
  kept_table : Table
  left_table : Table
  tariffs_table : Table

-- the ids of the rows of one
abbrev pub HasIds : Tables → Table → Type 0
HasIds t nodes_table = Each (λ node. IsU32 node.id.0) t.nodes
HasIds t customers_table = Each (λ customer. IsU32 customer.id.0) t.customers
HasIds t segments_table = Each (λ segment. IsU64 segment.id.0) t.segments
HasIds t settled_table = Each (λ row. IsU64 row.serial.0 × IsU32 row.node.0) t.settled
HasIds t tallies_table = Each (λ tally. IsU64 tally.hour.0 × IsU32 tally.node.0) t.tallies
HasIds t statements_table = Each (λ statement. IsU32 statement.month.0 × IsU32 statement.node.0) t.statements
HasIds t containments_table = Each (λ containment. IsU32 containment.node.0) t.containments
HasIds t kept_table = Each (λ kept. IsU32 kept.caller.0) t.kept
HasIds t left_table = Each (λ left. IsU32 left.node.0) t.left
HasIds t tariffs_table = Each (λ tariff. IsU32 tariff.from.0) t.tariffs

pub record AreIds (t : Tables) : Type 0 where
  pub all : (table : Table) → HasIds t table

abbrev pub RecordHasId : Rec → Type 0
RecordHasId (records.Node node) = IsU32 node.id.0
RecordHasId (records.Customer customer) = IsU32 customer.id.0
RecordHasId (records.Segment segment) = IsU64 segment.id.0
RecordHasId (records.SettledRow row) = IsU64 row.serial.0 × IsU32 row.node.0
RecordHasId (records.Tally tally) = IsU64 tally.hour.0 × IsU32 tally.node.0
RecordHasId (records.Statement statement) = IsU32 statement.month.0 × IsU32 statement.node.0
RecordHasId (records.Containment containment) = IsU32 containment.node.0
RecordHasId (records.Kept kept) = IsU32 kept.caller.0
RecordHasId (records.Left left) = IsU32 left.node.0
RecordHasId (records.Tariff tariff) = IsU32 tariff.from.0
RecordHasId _ = Unit {0}

abbrev pub KeyHasId : Key → Type 0
KeyHasId (keys.Segment segment) = IsU64 segment.0
KeyHasId (keys.Plan kind) = Unit {0}
KeyHasId (keys.Containment node) = IsU32 node.0

abbrev pub DoingHasId : Doing → Type 0
DoingHasId (puts rec) = RecordHasId rec
DoingHasId (removes key) = KeyHasId key

-- the id of the record that a change puts or removes
abbrev pub HasId : RecChange → Type 0
HasId change = DoingHasId (doing change)
