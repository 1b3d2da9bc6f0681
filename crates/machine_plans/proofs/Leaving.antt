-- What an end leaves, and where a recheck counts.
use Rattle.std.proofs.Common.{◌≡◌, ℕ, ◌+◌, Bool, true, false, not, List, [], ◌∷◌, Option, Some, None, IsSomeAnd, refl, sym, ap, subst, ◌∙◌}
use Rattle.std.specs.Prelude.{if◌then◌else◌, map}
use Rattle.sat_base.specs.declared.kinds.TheConstants as kinds
use Rattle.sat_base.specs.declared.records.Containment.{Containment}
use Rattle.sat_base.specs.declared.records.Key.TheVariants as keys
use Rattle.node_registry.specs.Registry.{contained_at}
use Rattle.segment_core.specs.Record.{SegmentRecord}
use Rattle.segment_core.specs.Commit.{is_among}
use Rattle.audit_core.specs.declared.rechecking.RecheckPlan.{RecheckPlan}
use Rattle.audit_core.specs.declared.rechecking.Checked.{Checked}
use Rattle.repair_core.specs.declared.plan.RepairPlan.{RepairPlan}
use Rattle.repair_core.specs.declared.outcome.RepairOutcome.{RepairOutcome}
use Rattle.repair_core.specs.declared.outcome.RepairOutcome.TheVariants as repairs
use Rattle.machine_calls.specs.declared.call.Call.{Call}
use Rattle.machine_calls.specs.declared.call.Call.TheVariants as calls
use Rattle.machine_calls.specs.declared.task.Task.TheVariants as tasks
use Rattle.machine_calls.specs.declared.change.RecChange.TheVariants as changes
use Rattle.machine_calls.specs.declared.refusal.Refusal.TheVariants as refusals
use Rattle.machine_step.specs.Tables.{Tables, all_changed}
use Rattle.machine_step.specs.Outcome.{Outcome, refused, unless, if_found}
use Rattle.machine_step.specs.Containment.{swept}
use Rattle.machine_step.specs.Plans.{timed, same_recheck, is_open, open_number}
use Rattle.machine_step.specs.Mending.{mending_of, failed, end_mending}
use Rattle.machine_step.specs.Step.{risen, case_of, step, after, tables_after}
use Rattle.machine_step.specs.Calls.EndRecheck.{is_as_planned, only, recheck_void, recheck_ended, end_recheck}
use Rattle.machine_step.specs.Calls.EndExit.{open_move}
use Rattle.machine_step.proofs.ReleaseLemmas.{releases_are}
use Rattle.machine_step.proofs.Touches.{kinds_of, touched, of-nodes, segments-frame}
use Rattle.machine_step.proofs.MendFound.{MendingEnds, mending_ends}
use Rattle.machine_step.proofs.MendFound.MendingEnds.{not_open, gone_end, superseded_end, ended}
use Rattle.machine_plans.specs.Ends.{is_end, is_recheck_ended, is_repair_ended}
use Rattle.machine_plans.proofs.Steps.{running}

-- ---- pieces

abbrev Leaves : Tables → Outcome → Type 0
Leaves t o = is_repair_ended o.reply ≡ false → (all_changed t o.changes).segments ≡ t.segments

leaves_found : (t : Tables) (time kind : ℕ) (outcome : RepairOutcome) (found : SegmentRecord) → Leaves t (mending_of t time kind outcome found)
leaves_found t time kind (repairs.Mended mended) found = λ none. cc
leaves_found t time kind (repairs.Unmended unmended) found =
    let nodes = failed t.nodes (λ source. is_among unmended.missing source.index) unmended.plan.sources in
    λ none. segments-frame (3 ∷ []) (map changes.Node nodes) (all_changed t (changes.Marks (timed t.marks time) ∷ changes.Remove (keys.Plan kind) ∷ [])) (of-nodes (3 ∷ []) nodes refl) refl

leaves_mending : (t : Tables) (time kind : ℕ) (opened : Option RepairPlan) (outcome : RepairOutcome) → Leaves t (end_mending t time kind opened outcome)
leaves_mending t time kind opened outcome = go (mending_ends t time kind opened outcome)
  where
    at : (o : Outcome) → end_mending t time kind opened outcome ≡ o → Leaves t o → Leaves t (end_mending t time kind opened outcome)
    at o is leaves = subst (Leaves t) (sym is) leaves

    go : MendingEnds t time kind opened outcome → Leaves t (end_mending t time kind opened outcome)
    go (not_open is) = at _ is (λ none. refl)
    go (gone_end holds there is) = at _ is (λ none. refl)
    go (superseded_end holds found there other is) = at _ is (λ none. refl)
    go (ended holds found there version is) = at _ is (leaves_found t time kind outcome found)

leaves_case : (t : Tables) (call : Call) → is_end call ≡ true → Leaves t (case_of t call)
leaves_case t (calls.Own now (tasks.EndRepair outcome)) ends = leaves_mending t (risen t now) kinds.REPAIR_PLAN t.repair outcome
leaves_case t (calls.Own now (tasks.EndExit outcome)) ends = leaves_mending t (risen t now) kinds.EXIT_PLAN (open_move t) outcome
leaves_case t (calls.Own now (tasks.EndAudit judged)) ends = λ none. segments-frame (kinds_of (calls.Own now (tasks.EndAudit judged))) (case_of t (calls.Own now (tasks.EndAudit judged))).changes t (touched t (calls.Own now (tasks.EndAudit judged))) refl
leaves_case t (calls.Own now (tasks.EndRecheck plan checked)) ends =
    λ none. segments-frame (kinds_of (calls.Own now (tasks.EndRecheck plan checked))) (case_of t (calls.Own now (tasks.EndRecheck plan checked))).changes t (touched t (calls.Own now (tasks.EndRecheck plan checked))) refl
leaves_case t _ ends = absurd cc

pub leaves_pieces : (t : Tables) (call : Call) → is_end call ≡ true → is_repair_ended (step t call).reply ≡ false → (after t call).segments ≡ t.segments
leaves_pieces t call ends = go t.stopped
  where
    go : (b : Bool) → is_repair_ended (if b then refused refusals.Stopped else swept t (case_of t call)).reply ≡ false → (tables_after t (if b then refused refusals.Stopped else swept t (case_of t call))).segments ≡ t.segments
    go true none = refl
    go false none = ap (λ (x : Tables). x.segments) (releases_are t (case_of t call).changes) ∙ leaves_case t call ends none

-- ---- rechecks

abbrev Counts : Tables → RecheckPlan → Type 0
Counts t plan = IsSomeAnd (contained_at t.containments plan.node) (λ c. is_as_planned plan c ≡ true)

counts_case : (t : Tables) (time : ℕ) (plan : RecheckPlan) (checked : Checked) → is_recheck_ended (end_recheck t time plan checked).reply ≡ true → Counts t plan
counts_case t time plan checked h = held (is_open same_recheck t.recheck plan) h
  where
    still_as : (c : Containment) → contained_at t.containments plan.node ≡ Some c → (b : Bool) → is_as_planned plan c ≡ b → is_recheck_ended (if_found (if b then Some c else None) (recheck_void t time) (recheck_ended t time checked)).reply ≡ true → Counts t plan
    still_as c is true planned h = subst (λ (o : Option Containment). IsSomeAnd o (λ x. is_as_planned plan x ≡ true)) (sym is) planned
    still_as c is false planned h = absurd cc

    owed : (found : Option Containment) → contained_at t.containments plan.node ≡ found → is_recheck_ended (if_found (only (is_as_planned plan) found) (recheck_void t time) (recheck_ended t time checked)).reply ≡ true → Counts t plan
    owed None is h = absurd cc
    owed (Some c) is h = still_as c is (is_as_planned plan c) refl h

    held : (b : Bool) → is_recheck_ended (unless (not b) (refusals.NoPlan (open_number (λ p. p.plan) t.recheck)) (if_found (only (is_as_planned plan) (contained_at t.containments plan.node)) (recheck_void t time) (recheck_ended t time checked))).reply ≡ true → Counts t plan
    held true h = owed (contained_at t.containments plan.node) refl h
    held false h = absurd cc

pub recheck_counts : (t : Tables) (now : ℕ) (plan : RecheckPlan) (checked : Checked) → is_recheck_ended (step t (calls.Own now (tasks.EndRecheck plan checked))).reply ≡ true → Counts t plan
recheck_counts t now plan checked h = counts_case t (risen t now) plan checked (running t (calls.Own now (tasks.EndRecheck plan checked)) is_recheck_ended refl h).1
