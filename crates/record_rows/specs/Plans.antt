-- Open plans as bytes.
use Rattle.std.specs.Prelude.{ℕ, List}
use Rattle.sat_base.specs.declared.records.At.{At}
use Rattle.audit_core.specs.declared.plan.AuditPlan.{AuditPlan}
use Rattle.audit_core.specs.declared.rechecking.RecheckPlan.{RecheckPlan}
use Rattle.repair_core.specs.declared.plan.RepairPlan.{RepairPlan}
use Rattle.repair_core.specs.declared.plan.ExitPlan.{ExitPlan}
use Rattle.record_rows.specs.Numbers.{be8, be32, be64, listed, ◌‖◌}

-- where a piece lies: its index and its node
abbrev pub at_bytes : At → List ℕ
at_bytes at = be8 at.index ‖ be32 at.node.0

abbrev pub audit_plan_body : AuditPlan → List ℕ
audit_plan_body plan =
    be64 plan.plan ‖ be64 plan.segment.0 ‖ be64 plan.version ‖ be64 plan.stripe
    ‖ be64 plan.serial.0 ‖ be64 plan.issued ‖ listed at_bytes plan.asked

abbrev pub recheck_plan_body : RecheckPlan → List ℕ
recheck_plan_body plan =
    be64 plan.plan ‖ be64 plan.serial.0 ‖ be64 plan.issued ‖ be32 plan.node.0
    ‖ be64 plan.segment.0 ‖ be8 plan.index ‖ be64 plan.stripe ‖ plan.expect

abbrev pub repair_plan_body : RepairPlan → List ℕ
repair_plan_body plan =
    be64 plan.plan ‖ be64 plan.segment.0 ‖ be64 plan.version ‖ be64 plan.serial.0
    ‖ be64 plan.issued ‖ be64 plan.len ‖ listed at_bytes plan.sources ‖ listed at_bytes plan.targets

-- the piece of the node that leaves, and the repair
abbrev pub exit_plan_body : ExitPlan → List ℕ
exit_plan_body plan = at_bytes plan.leaving ‖ repair_plan_body plan.plan
