-- A record as a row: its kind, its id and its body.
use Rattle.std.specs.Prelude.{ℕ, List, []}
use Rattle.sat_base.specs.declared.kinds.TheConstants as kinds
use Rattle.sat_base.specs.declared.records.Key.{Key}
use Rattle.sat_base.specs.declared.records.Key.TheVariants as keys
use Rattle.sat_base.specs.declared.rows.Row.{Row}
use Rattle.sat_base.specs.declared.rows.Change.{Change}
use Rattle.sat_base.specs.declared.rows.Change.TheVariants.{Remove}
use Rattle.record_kinds.specs.Kinds.{kind_of}
use Rattle.record_kinds.specs.declared.rec.Rec.{Rec}
use Rattle.record_kinds.specs.declared.rec.Rec.TheVariants as rec
use Rattle.record_rows.specs.Numbers.{be32, be64, ◌‖◌}
use Rattle.record_rows.specs.Settings.{settings_body}
use Rattle.record_rows.specs.Bodies.{marks_body, node_body, customer_body, segment_body, settled_body, tally_body, statement_body, containment_body, left_body, tariff_body}
use Rattle.record_rows.specs.Plans.{audit_plan_body, recheck_plan_body, repair_plan_body, exit_plan_body}
use Rattle.record_rows.specs.Requests.{kept_body}

abbrev pub id_of : Rec → List ℕ
id_of (rec.Settings settings) = []
id_of (rec.Marks marks) = []
id_of (rec.Node node) = be32 node.id.0
id_of (rec.Customer customer) = be32 customer.id.0
id_of (rec.Segment segment) = be64 segment.id.0
id_of (rec.SettledRow row) = be64 row.serial.0 ‖ be32 row.node.0
id_of (rec.Tally tally) = be64 tally.hour.0 ‖ be32 tally.node.0
id_of (rec.Statement statement) = be32 statement.month.0 ‖ be32 statement.node.0
id_of (rec.AuditPlan plan) = []
id_of (rec.RecheckPlan plan) = []
id_of (rec.RepairPlan plan) = []
id_of (rec.Containment containment) = be32 containment.node.0
id_of (rec.Kept kept) = be32 kept.caller.0
id_of (rec.ExitPlan plan) = []
id_of (rec.Left left) = be32 left.node.0
id_of (rec.Tariff tariff) = be32 tariff.from.0

abbrev pub body_of : Rec → List ℕ
body_of (rec.Settings settings) = settings_body settings
body_of (rec.Marks marks) = marks_body marks
body_of (rec.Node node) = node_body node
body_of (rec.Customer customer) = customer_body customer
body_of (rec.Segment segment) = segment_body segment
body_of (rec.SettledRow row) = settled_body row
body_of (rec.Tally tally) = tally_body tally
body_of (rec.Statement statement) = statement_body statement
body_of (rec.AuditPlan plan) = audit_plan_body plan
body_of (rec.RecheckPlan plan) = recheck_plan_body plan
body_of (rec.RepairPlan plan) = repair_plan_body plan
body_of (rec.Containment containment) = containment_body containment
body_of (rec.Kept kept) = kept_body kept
body_of (rec.ExitPlan plan) = exit_plan_body plan
body_of (rec.Left left) = left_body left
body_of (rec.Tariff tariff) = tariff_body tariff

abbrev pub row_of : Rec → Row
row_of x = record { kind = kind_of x; id = id_of x; body = body_of x }

-- the removal of the record of a key
abbrev pub removal : Key → Change
removal (keys.Segment segment) = Remove kinds.SEGMENT (be64 segment.0)
removal (keys.Plan kind) = Remove kind []
removal (keys.Containment node) = Remove kinds.CONTAINMENT (be32 node.0)
