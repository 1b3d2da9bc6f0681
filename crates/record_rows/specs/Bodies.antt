-- The bodies of the other records as bytes.
use Rattle.std.specs.Prelude.{ℕ, List}
use Rattle.sat_base.specs.declared.records.Containment.{Containment}
use Rattle.sat_base.specs.declared.settings.Marks.{Marks}
use Rattle.sat_base.specs.declared.settings.Customer.{Customer}
use Rattle.sat_base.specs.declared.rates.Tariff.{Tariff}
use Rattle.order_limits.specs.Order.{action_byte}
use Rattle.node_registry.specs.declared.node.Node.{Node}
use Rattle.node_registry.specs.declared.node.Left.{Left}
use Rattle.node_registry.specs.Standing.{byte_of}
use Rattle.segment_core.specs.Record.{SegmentRecord}
use Rattle.settlement.specs.declared.row.SettledRow.{SettledRow}
use Rattle.tally_payout.specs.declared.amounts.Tally.{Tally}
use Rattle.tally_payout.specs.declared.amounts.Sums.{Sums}
use Rattle.tally_payout.specs.declared.amounts.Parts.{Parts}
use Rattle.tally_payout.specs.declared.amounts.Statement.{Statement}
use Rattle.record_rows.specs.Numbers.{be8, be16, be32, be64, be128, listed, ◌‖◌}
use Rattle.record_rows.specs.Plans.{at_bytes}
use Rattle.record_rows.specs.Settings.{rates_bytes}

abbrev pub marks_body : Marks → List ℕ
marks_body marks =
    be64 marks.time ‖ be64 marks.segment ‖ be64 marks.serial ‖ be64 marks.plan
    ‖ be32 marks.month.0 ‖ be64 marks.hour.0

abbrev pub node_body : Node → List ℕ
node_body node =
    be32 node.addr ‖ be16 node.port ‖ be64 node.free ‖ be64 node.joined
    ‖ be32 node.alpha ‖ be32 node.beta ‖ be32 node.passes ‖ be8 (byte_of node.status)

abbrev pub customer_body : Customer → List ℕ
customer_body customer = be64 customer.added

abbrev pub segment_body : SegmentRecord → List ℕ
segment_body segment =
    be32 segment.customer.0 ‖ be64 segment.len ‖ be64 segment.version ‖ listed at_bytes segment.pieces

abbrev pub settled_body : SettledRow → List ℕ
settled_body row = be8 (action_byte row.action) ‖ be64 row.amount ‖ be64 row.at

abbrev pub tally_body : Tally → List ℕ
tally_body tally = be64 tally.bytes

abbrev pub sums_bytes : Sums → List ℕ
sums_bytes sums = be128 sums.get ‖ be128 sums.audit ‖ be128 sums.repair ‖ be128 sums.byte_hours

abbrev pub parts_bytes : Parts → List ℕ
parts_bytes parts =
    be128 parts.get ‖ be128 parts.audit ‖ be128 parts.repair ‖ be128 parts.storage ‖ be128 parts.gross

abbrev pub statement_body : Statement → List ℕ
statement_body statement =
    be32 statement.age ‖ be8 statement.percent ‖ sums_bytes statement.sums ‖ parts_bytes statement.parts
    ‖ be128 statement.held ‖ be128 statement.paid ‖ be128 statement.returned ‖ be128 statement.pot

abbrev pub containment_body : Containment → List ℕ
containment_body containment =
    be64 containment.segment.0 ‖ be8 containment.index ‖ be64 containment.stripe ‖ containment.expect
    ‖ be8 containment.tries

abbrev pub left_body : Left → List ℕ
left_body left = be64 left.at

abbrev pub tariff_body : Tariff → List ℕ
tariff_body tariff = rates_bytes tariff.rates
