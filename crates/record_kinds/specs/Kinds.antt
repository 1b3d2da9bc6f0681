-- The kind of a record, as the byte that stands for it.
use Rattle.std.specs.Prelude.{ℕ}
use Rattle.sat_base.specs.declared.kinds.TheConstants as kinds
use Rattle.record_kinds.specs.declared.rec.Rec.{Rec}
use Rattle.record_kinds.specs.declared.rec.Rec.TheVariants as records

abbrev pub kind_of : Rec → ℕ
kind_of (records.Settings settings) = kinds.SETTINGS
kind_of (records.Marks marks) = kinds.MARKS
kind_of (records.Node node) = kinds.NODE
kind_of (records.Customer customer) = kinds.CUSTOMER
kind_of (records.Segment segment) = kinds.SEGMENT
kind_of (records.SettledRow row) = kinds.SETTLED_ROW
kind_of (records.Tally tally) = kinds.TALLY
kind_of (records.Statement statement) = kinds.STATEMENT
kind_of (records.AuditPlan plan) = kinds.AUDIT_PLAN
kind_of (records.RecheckPlan plan) = kinds.RECHECK_PLAN
kind_of (records.RepairPlan plan) = kinds.REPAIR_PLAN
kind_of (records.Containment containment) = kinds.CONTAINMENT
kind_of (records.Kept kept) = kinds.KEPT
kind_of (records.ExitPlan plan) = kinds.EXIT_PLAN
kind_of (records.Left left) = kinds.LEFT
kind_of (records.Tariff tariff) = kinds.TARIFF
