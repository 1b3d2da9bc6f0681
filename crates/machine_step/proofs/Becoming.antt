-- The tables grow by each change that fits, and so all the changes of a step keep what holds.
use Rattle.std.proofs.Common.{◌≡◌, ℕ, ◌≤◌, List, [], ◌∷◌, Option, Some, refl, arith}
use Rattle.sat_base.specs.declared.kinds.TheConstants as kinds
use Rattle.sat_base.specs.declared.records.Containment.{Containment}
use Rattle.sat_base.specs.declared.records.Key.TheVariants as keys
use Rattle.sat_base.specs.declared.requests.Kept.{Kept}
use Rattle.sat_base.specs.declared.rates.Tariff.{Tariff}
use Rattle.sat_base.specs.Ranks.{containment_rank, kept_rank, tariff_rank}
use Rattle.rows.specs.Rows.{without}
use Rattle.rows.specs.Slots.{with_row}
use Rattle.node_registry.specs.declared.node.Node.{Node}
use Rattle.node_registry.specs.Registry.{node_rank}
use Rattle.settlement.specs.declared.row.SettledRow.{SettledRow}
use Rattle.settlement.specs.Rows.{key}
use Rattle.tally_payout.specs.declared.amounts.Tally.{Tally}
use Rattle.tally_payout.specs.declared.amounts.Statement.{Statement}
use Rattle.tally_payout.specs.Ranks.{tally_rank, statement_rank}
use Rattle.audit_core.specs.declared.plan.AuditPlan.{AuditPlan}
use Rattle.audit_core.specs.declared.rechecking.RecheckPlan.{RecheckPlan}
use Rattle.repair_core.specs.declared.plan.RepairPlan.{RepairPlan}
use Rattle.repair_core.specs.declared.plan.ExitPlan.{ExitPlan}
use Rattle.machine_calls.specs.declared.change.RecChange.{RecChange}
use Rattle.machine_calls.specs.declared.change.RecChange.TheVariants as changes
use Rattle.machine_step.specs.Tables.{Tables, closed, changed, all_changed}
use Rattle.machine_step.proofs.GrowthLemmas.{Extends, extends_self, extends_next, extends_set, customer_more, none_next}
use Rattle.machine_step.proofs.SegmentLemmas.{segments_self, segments_less}
use Rattle.machine_step.proofs.Steady.{IsSteady, NodeFits, FitsIn, AllFit, GrowsTo, later_self, grows_self, grows_trans}
use Rattle.machine_step.proofs.Steady.NodeFits.{next_node, update}
use Rattle.machine_step.proofs.Changes.{steady_changed}

module _ (from : ℕ) (t : Tables) (s : IsSteady from t) where
  -- by one change
  grows_node : (node : Node) → NodeFits t node → Extends t.nodes (with_row node_rank t.nodes node)
  grows_node node (next_node id room rated joined fresh) = extends_next t.nodes node (none_next t.setup t.marks t.nodes 0 node.id.0 s.nodes (omega (arith, id)))
  grows_node node (update found there new) = extends_set t.nodes node found there new.addr

  -- lists and plans that no other rule reads
  grows_own : (settled : List SettledRow) (audit : Option AuditPlan) (recheck : Option RecheckPlan) (repair : Option RepairPlan) (containments : List Containment) (kept : List Kept) (exit : Option ExitPlan)
      → GrowsTo from t (record t { settled = settled; audit = audit; recheck = recheck; repair = repair; containments = containments; kept = kept; exit = exit })
  grows_own settled audit recheck repair containments kept exit = record { setup = refl; later = later_self t.marks; extends = extends_self t.nodes; stay = λ id h. h; segments = segments_self from t.segments }

  grows_pay : (tallies : List Tally) (statements : List Statement) (tariffs : List Tariff) → GrowsTo from t (record t { tallies = tallies; statements = statements; tariffs = tariffs })
  grows_pay tallies statements tariffs = record { setup = refl; later = later_self t.marks; extends = extends_self t.nodes; stay = λ id h. h; segments = segments_self from t.segments }

  pub grows_changed : (change : RecChange) → FitsIn from t change → GrowsTo from t (changed t change)
  grows_changed (changes.Settings settings) fit = absurd fit
  grows_changed (changes.Marks marks) fit = record { setup = refl; later = fit.later; extends = extends_self t.nodes; stay = λ id h. h; segments = segments_self from t.segments }
  grows_changed (changes.Node node) fit = record { setup = refl; later = later_self t.marks; extends = grows_node node fit; stay = λ id h. h; segments = segments_self from t.segments }
  grows_changed (changes.Customer customer) fit = record { setup = refl; later = later_self t.marks; extends = extends_self t.nodes; stay = customer_more t.customers customer; segments = segments_self from t.segments }
  grows_changed (changes.Segment segment) fit = record { setup = refl; later = later_self t.marks; extends = extends_self t.nodes; stay = λ id h. h; segments = fit.grows }
  grows_changed (changes.SettledRow row) fit = grows_own (with_row key t.settled row) t.audit t.recheck t.repair t.containments t.kept t.exit
  grows_changed (changes.Tally tally) fit = grows_pay (with_row tally_rank t.tallies tally) t.statements t.tariffs
  grows_changed (changes.Statement statement) fit = grows_pay t.tallies (with_row statement_rank t.statements statement) t.tariffs
  grows_changed (changes.AuditPlan plan) fit = grows_own t.settled (Some plan) t.recheck t.repair t.containments t.kept t.exit
  grows_changed (changes.RecheckPlan plan) fit = grows_own t.settled t.audit (Some plan) t.repair t.containments t.kept t.exit
  grows_changed (changes.RepairPlan plan) fit = grows_own t.settled t.audit t.recheck (Some plan) t.containments t.kept t.exit
  grows_changed (changes.Containment containment) fit = grows_own t.settled t.audit t.recheck t.repair (with_row containment_rank t.containments containment) t.kept t.exit
  grows_changed (changes.Kept kept) fit = grows_own t.settled t.audit t.recheck t.repair t.containments (with_row kept_rank t.kept kept) t.exit
  grows_changed (changes.ExitPlan exit) fit = grows_own t.settled t.audit t.recheck t.repair t.containments t.kept (Some exit)
  grows_changed (changes.Left left) fit = absurd fit
  grows_changed (changes.Tariff tariff) fit = grows_pay t.tallies t.statements (with_row tariff_rank t.tariffs tariff)
  grows_changed (changes.Remove (keys.Segment id)) fit = record { setup = refl; later = later_self t.marks; extends = extends_self t.nodes; stay = λ id h. h; segments = segments_less from t.segments id.0 }
  grows_changed (changes.Remove (keys.Plan kind)) fit = grows_own t.settled (closed kinds.AUDIT_PLAN kind t.audit) (closed kinds.RECHECK_PLAN kind t.recheck) (closed kinds.REPAIR_PLAN kind t.repair) t.containments t.kept (closed kinds.EXIT_PLAN kind t.exit)
  grows_changed (changes.Remove (keys.Containment node)) fit = grows_own t.settled t.audit t.recheck t.repair (without containment_rank t.containments node.0) t.kept t.exit

-- ---- all the changes of a step

pub record Becomes (from : ℕ) (t t' : Tables) : Type 0 where
  pub steady : IsSteady from t'
  pub grows : GrowsTo from t t'

pub all_become : (from : ℕ) (cs : List RecChange) (t : Tables) → IsSteady from t → AllFit from t cs → Becomes from t (all_changed t cs)
all_become from [] t s fit = record { steady = s; grows = grows_self from t }
all_become from (change ∷ cs) t s fit =
    let rest = all_become from cs (changed t change) (steady_changed from t s change fit.0) fit.1 in
    record { steady = rest.steady; grows = grows_trans from from t (changed t change) (all_changed (changed t change) cs) (omega arith) (grows_changed from t s change fit.0) rest.grows }
