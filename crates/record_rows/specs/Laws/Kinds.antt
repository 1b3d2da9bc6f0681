-- What a record of a known kind is.
use Rattle.std.specs.Prelude.{◌≡◌, ◌+◌, ◌*◌, ◌^◌, refl}
use Rattle.std.proofs.Common.{arith}
use Rattle.sat_base.specs.declared.kinds.TheConstants as kinds
use Rattle.sat_base.specs.declared.settings.Settings.{Settings}
use Rattle.sat_base.specs.declared.settings.Marks.{Marks}
use Rattle.node_registry.specs.declared.node.Node.{Node}
use Rattle.sat_base.specs.declared.settings.Customer.{Customer}
use Rattle.segment_core.specs.Record.{SegmentRecord}
use Rattle.settlement.specs.declared.row.SettledRow.{SettledRow}
use Rattle.tally_payout.specs.declared.amounts.Tally.{Tally}
use Rattle.tally_payout.specs.declared.amounts.Statement.{Statement}
use Rattle.audit_core.specs.declared.plan.AuditPlan.{AuditPlan}
use Rattle.audit_core.specs.declared.rechecking.RecheckPlan.{RecheckPlan}
use Rattle.repair_core.specs.declared.plan.RepairPlan.{RepairPlan}
use Rattle.sat_base.specs.declared.records.Containment.{Containment}
use Rattle.sat_base.specs.declared.requests.Kept.{Kept}
use Rattle.repair_core.specs.declared.plan.ExitPlan.{ExitPlan}
use Rattle.node_registry.specs.declared.node.Left.{Left}
use Rattle.sat_base.specs.declared.rates.Tariff.{Tariff}
use Rattle.sat_base.specs.declared.ids.NodeId.{NodeId}
use Rattle.sat_base.specs.declared.ids.Serial.{Serial}
use Rattle.settlement.specs.Place.{place}
use Rattle.record_kinds.specs.declared.rec.Rec.{Rec}
use Rattle.record_kinds.specs.declared.rec.Rec.TheVariants as rec
use Rattle.record_kinds.specs.Kinds.{kind_of}

pub the_settings : (r : Rec) → kind_of r ≡ kinds.SETTINGS → (x : Settings) × (r ≡ rec.Settings x)
the_settings (rec.Settings x) is = (x, refl)
the_settings _ is = absurd (omega (arith, is))

pub the_marks : (r : Rec) → kind_of r ≡ kinds.MARKS → (x : Marks) × (r ≡ rec.Marks x)
the_marks (rec.Marks x) is = (x, refl)
the_marks _ is = absurd (omega (arith, is))

pub the_node : (r : Rec) → kind_of r ≡ kinds.NODE → (x : Node) × (r ≡ rec.Node x)
the_node (rec.Node x) is = (x, refl)
the_node _ is = absurd (omega (arith, is))

pub the_customer : (r : Rec) → kind_of r ≡ kinds.CUSTOMER → (x : Customer) × (r ≡ rec.Customer x)
the_customer (rec.Customer x) is = (x, refl)
the_customer _ is = absurd (omega (arith, is))

pub the_segment : (r : Rec) → kind_of r ≡ kinds.SEGMENT → (x : SegmentRecord) × (r ≡ rec.Segment x)
the_segment (rec.Segment x) is = (x, refl)
the_segment _ is = absurd (omega (arith, is))

pub the_settled : (r : Rec) → kind_of r ≡ kinds.SETTLED_ROW → (x : SettledRow) × (r ≡ rec.SettledRow x)
the_settled (rec.SettledRow x) is = (x, refl)
the_settled _ is = absurd (omega (arith, is))

pub the_tally : (r : Rec) → kind_of r ≡ kinds.TALLY → (x : Tally) × (r ≡ rec.Tally x)
the_tally (rec.Tally x) is = (x, refl)
the_tally _ is = absurd (omega (arith, is))

pub the_statement : (r : Rec) → kind_of r ≡ kinds.STATEMENT → (x : Statement) × (r ≡ rec.Statement x)
the_statement (rec.Statement x) is = (x, refl)
the_statement _ is = absurd (omega (arith, is))

pub the_audit_plan : (r : Rec) → kind_of r ≡ kinds.AUDIT_PLAN → (x : AuditPlan) × (r ≡ rec.AuditPlan x)
the_audit_plan (rec.AuditPlan x) is = (x, refl)
the_audit_plan _ is = absurd (omega (arith, is))

pub the_recheck_plan : (r : Rec) → kind_of r ≡ kinds.RECHECK_PLAN → (x : RecheckPlan) × (r ≡ rec.RecheckPlan x)
the_recheck_plan (rec.RecheckPlan x) is = (x, refl)
the_recheck_plan _ is = absurd (omega (arith, is))

pub the_repair_plan : (r : Rec) → kind_of r ≡ kinds.REPAIR_PLAN → (x : RepairPlan) × (r ≡ rec.RepairPlan x)
the_repair_plan (rec.RepairPlan x) is = (x, refl)
the_repair_plan _ is = absurd (omega (arith, is))

pub the_containment : (r : Rec) → kind_of r ≡ kinds.CONTAINMENT → (x : Containment) × (r ≡ rec.Containment x)
the_containment (rec.Containment x) is = (x, refl)
the_containment _ is = absurd (omega (arith, is))

pub the_kept : (r : Rec) → kind_of r ≡ kinds.KEPT → (x : Kept) × (r ≡ rec.Kept x)
the_kept (rec.Kept x) is = (x, refl)
the_kept _ is = absurd (omega (arith, is))

pub the_exit_plan : (r : Rec) → kind_of r ≡ kinds.EXIT_PLAN → (x : ExitPlan) × (r ≡ rec.ExitPlan x)
the_exit_plan (rec.ExitPlan x) is = (x, refl)
the_exit_plan _ is = absurd (omega (arith, is))

pub the_left : (r : Rec) → kind_of r ≡ kinds.LEFT → (x : Left) × (r ≡ rec.Left x)
the_left (rec.Left x) is = (x, refl)
the_left _ is = absurd (omega (arith, is))

pub the_tariff : (r : Rec) → kind_of r ≡ kinds.TARIFF → (x : Tariff) × (r ≡ rec.Tariff x)
the_tariff (rec.Tariff x) is = (x, refl)
the_tariff _ is = absurd (omega (arith, is))

-- a settled row's place as a number
pub place_rank : (serial : Serial) (node : NodeId) → place serial node ≡ serial.0 * 2 ^ 32 + node.0
unfolding place
place_rank serial node = refl
