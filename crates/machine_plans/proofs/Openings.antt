-- Which calls open a plan, and that every other call leaves it open or closes it.
use Rattle.std.proofs.Common.{◌≡◌, ◌⊎◌, inl, inr, ℕ, ◌+◌, ◌-◌, ◌/◌, Bool, true, false, not, List, [], ◌∷◌, ◌++◌, length, Option, Some, None, refl, sym, ap, ◌∙◌, min}
use Rattle.std.specs.Prelude.{if◌then◌else◌, ◌==◌, map, filter, find, drop, slice_index, option_to_list}
use Rattle.sat_base.specs.declared.limits.TheConstants as limits
use Rattle.sat_base.specs.declared.kinds.TheConstants as kinds
use Rattle.sat_base.specs.declared.records.At.{At}
use Rattle.sat_base.specs.declared.records.Containment.{Containment}
use Rattle.sat_base.specs.declared.records.Key.TheVariants as keys
use Rattle.node_registry.specs.declared.node.Node.{Node}
use Rattle.node_registry.specs.declared.reputation.Outcome.{Outcome as Mark}
use Rattle.node_registry.specs.declared.reputation.Outcome.TheVariants.{Pass, Fail}
use Rattle.node_registry.specs.Registry.{node_at}
use Rattle.segment_core.specs.Record.{SegmentRecord}
use Rattle.segment_core.specs.Commit.{is_among}
use Rattle.placement.specs.Eligible.{subnet_count}
use Rattle.audit_core.specs.declared.plan.AuditPlan.{AuditPlan}
use Rattle.audit_core.specs.declared.rechecking.RecheckPlan.{RecheckPlan}
use Rattle.audit_core.specs.declared.rechecking.Checked.{Checked}
use Rattle.audit_core.specs.declared.rechecking.Checked.TheVariants as checks
use Rattle.audit_core.specs.declared.verdict.Judged.{Judged}
use Rattle.repair_core.specs.declared.plan.RepairPlan.{RepairPlan}
use Rattle.repair_core.specs.declared.plan.ExitPlan.{ExitPlan}
use Rattle.repair_core.specs.declared.outcome.RepairOutcome.{RepairOutcome}
use Rattle.repair_core.specs.declared.outcome.RepairOutcome.TheVariants as repairs
use Rattle.machine_calls.specs.declared.call.Call.{Call}
use Rattle.machine_calls.specs.declared.call.Call.TheVariants as calls
use Rattle.machine_calls.specs.declared.task.Task.TheVariants as tasks
use Rattle.machine_calls.specs.declared.wish.Wish.TheVariants as wishes
use Rattle.machine_calls.specs.declared.change.RecChange.{RecChange}
use Rattle.machine_calls.specs.declared.change.RecChange.TheVariants as changes
use Rattle.machine_calls.specs.declared.reply.Reply.{Reply}
use Rattle.machine_calls.specs.declared.refusal.Refusal.TheVariants as refusals
use Rattle.machine_calls.specs.declared.refusal.TableName.TheVariants as names
use Rattle.machine_step.specs.Tables.{Tables, segment_at, all_changed}
use Rattle.machine_step.specs.Outcome.{Outcome, unchanged, unless, if_found}
use Rattle.machine_step.specs.Places.{picks_of, places_of}
use Rattle.machine_step.specs.Containment.{release}
use Rattle.machine_step.specs.Health.{live_segments, healthy_of, picked, first_of, after_outcome}
use Rattle.machine_step.specs.Plans.{timed, has_no_plan, same_audit, same_recheck, same_repair, is_open, open_number, version_of, superseded}
use Rattle.machine_step.specs.Mending.{plan_of, is_kept, mended_segment, failed, mending_of, end_mending_at, end_mending}
use Rattle.machine_step.specs.Step.{risen, case_of}
use Rattle.machine_step.specs.Calls.PlanAudit.{audit_of, audit_planned, audit_numbered, plan_audit}
use Rattle.machine_step.specs.Calls.EndAudit.{nodes_after, containments_after, audit_ended, end_audit_of, end_audit}
use Rattle.machine_step.specs.Calls.PlanRecheck.{recheck_planned, plan_recheck}
use Rattle.machine_step.specs.Calls.EndRecheck.{still_owed, settled_as, recheck_closed, recheck_void, recheck_ended, end_recheck}
use Rattle.machine_step.specs.Calls.PlanRepair.{to_repair, terms_beside, targets_for, repair_of, repair_planned, repair_counted, repair_from, plan_repair}
use Rattle.machine_step.specs.Calls.EndExit.{open_move}
use Rattle.machine_step.specs.Calls.PlanExit.{exiting_nodes, lies_on, is_movable, node_exited, target_at, exit_planned, exit_to, exit_from, exit_segment, plan_exit_of, plan_exit}
use Rattle.machine_step.proofs.Outcomes.{unless-P, with_record-P, if-P, if_found-P}
use Rattle.machine_step.proofs.Touches.{are_of, kinds_of, touched, of-nodes, of-containments, of-append, audit-frame, recheck-frame, repair-frame, exit-frame}
use Rattle.machine_plans.specs.Opened.{opened_audit, opened_recheck, opened_repair, opened_exit}

-- what a plan that is open behind an outcome came from: it was open, or the answer opens it
abbrev From : {P : Type 0} → (Tables → Option P) → (Reply → Option P) → Tables → P → Outcome → Type 0
From held opened t plan o = held (all_changed t o.changes) ≡ Some plan → (held t ≡ Some plan) ⊎ (opened o.reply ≡ Some plan)

-- the tables in which a plan of a kind is closed
abbrev closing : Tables → ℕ → ℕ → Tables
closing t time kind = all_changed t (changes.Marks (timed t.marks time) ∷ changes.Remove (keys.Plan kind) ∷ [])

never : {P : Type 0} (plan : P) (found : Option P) → found ≡ None → found ≡ Some plan → ⊥
never plan found none some = let bad : None ≡ Some plan = sym none ∙ some in cc

-- ---- audits

module _ (t : Tables) (plan : AuditPlan) where
  abbrev FromAudit : Outcome → Type 0
  FromAudit = From (λ x. x.audit) opened_audit t plan

  from_plan_audit : (time : ℕ) (words : List ℕ) → FromAudit (plan_audit t time words)
  from_plan_audit time words =
      with_record-P FromAudit (λ answer h. inl h) (picked (live_segments t) (slice_index words 0)) refusals.NothingToAudit (λ segment. audit_numbered t time (audit_of t time segment (slice_index words 1))) (λ segment is.
      unless-P FromAudit (λ answer h. inl h) (has_no_plan t.marks) (refusals.TableFull names.Numbers) (audit_planned t time (audit_of t time segment (slice_index words 1))) (λ number h. inr h))

  from_end_audit : (time : ℕ) (judged : Judged) → FromAudit (end_audit t time judged)
  from_end_audit time judged =
      unless-P FromAudit (λ answer h. inl h) (not (is_open same_audit t.audit judged.plan)) (refusals.NoPlan (open_number (λ p. p.plan) t.audit)) (end_audit_of t time judged (version_of (segment_at t.segments judged.plan.segment.0))) (λ held.
      if-P FromAudit (λ answer h. inl h) (version_of (segment_at t.segments judged.plan.segment.0) == judged.plan.version) (audit_ended t time judged)
      (superseded t time kinds.AUDIT_PLAN judged.plan.version (version_of (segment_at t.segments judged.plan.segment.0)))
      (λ h. absurd (never plan (all_changed t (audit_ended t time judged).changes).audit closed_still h)) (λ h. cc))
    where
      closed_still : (all_changed t (audit_ended t time judged).changes).audit ≡ None
      closed_still =
          let own : List ℕ = 3 ∷ 12 ∷ [] in
          let nodes = nodes_after t judged in
          let rows = containments_after t judged in
          audit-frame own (map changes.Node nodes ++ map changes.Containment rows) (closing t time kinds.AUDIT_PLAN)
          (of-append own (map changes.Node nodes) (map changes.Containment rows) (of-nodes own nodes refl) (of-containments own rows refl)) refl

pub opens_audit : (t : Tables) (call : Call) (plan : AuditPlan) → From (λ x. x.audit) opened_audit t plan (case_of t call)
opens_audit t (calls.Own now (tasks.PlanAudit words)) plan = from_plan_audit t plan (risen t now) words
opens_audit t (calls.Own now (tasks.EndAudit judged)) plan = from_end_audit t plan (risen t now) judged
opens_audit t (calls.Asked now words wishes.Stop) plan = λ h. inl (sym (audit-frame (kinds_of (calls.Asked now words wishes.Stop)) (case_of t (calls.Asked now words wishes.Stop)).changes t (touched t (calls.Asked now words wishes.Stop)) refl) ∙ h)
opens_audit t call plan = λ h. inl (sym (audit-frame (kinds_of call) (case_of t call).changes t (touched t call) refl) ∙ h)

-- ---- rechecks

module _ (t : Tables) (plan : RecheckPlan) where
  abbrev FromRecheck : Outcome → Type 0
  FromRecheck = From (λ x. x.recheck) opened_recheck t plan

  from_plan_recheck : (time : ℕ) → FromRecheck (plan_recheck t time)
  from_plan_recheck time =
      with_record-P FromRecheck (λ answer h. inl h) (first_of t.containments) refusals.NothingToRecheck (λ c. unless (has_no_plan t.marks) (refusals.TableFull names.Numbers) (recheck_planned t time c)) (λ c is.
      unless-P FromRecheck (λ answer h. inl h) (has_no_plan t.marks) (refusals.TableFull names.Numbers) (recheck_planned t time c) (λ number h. inr h))

  settled_closed : (time : ℕ) (c : Containment) (mark : Mark) → (all_changed (closing t time kinds.RECHECK_PLAN) (settled_as t c mark)).recheck ≡ None
  settled_closed time c mark =
      let own : List ℕ = 3 ∷ 12 ∷ [] in
      let nodes = option_to_list (after_outcome (node_at t.nodes c.node) mark) in
      recheck-frame own (settled_as t c mark) (closing t time kinds.RECHECK_PLAN) (of-append own (map changes.Node nodes) (release c ∷ []) (of-nodes own nodes refl) refl) refl

  from_recheck_ended : (time : ℕ) (checked : Checked) (c : Containment) → FromRecheck (recheck_ended t time checked c)
  from_recheck_ended time checks.Pass c = λ h. absurd (never plan (all_changed t (recheck_ended t time checks.Pass c).changes).recheck (settled_closed time c Pass) h)
  from_recheck_ended time checks.Fail c = λ h. absurd (never plan (all_changed t (recheck_ended t time checks.Fail c).changes).recheck (settled_closed time c Fail) h)
  from_recheck_ended time checks.Silent c = go (c.tries + 1 == limits.TRIES)
    where
      go : (b : Bool) → FromRecheck (recheck_closed t time (if b then settled_as t c Fail else changes.Containment (record c { tries = c.tries + 1 }) ∷ []) checks.Silent (c.tries + 1))
      go true h = absurd (never plan (all_changed (closing t time kinds.RECHECK_PLAN) (settled_as t c Fail)).recheck (settled_closed time c Fail) h)
      go false h = cc

  from_end_recheck : (time : ℕ) (held : RecheckPlan) (checked : Checked) → FromRecheck (end_recheck t time held checked)
  from_end_recheck time held checked =
      unless-P FromRecheck (λ answer h. inl h) (not (is_open same_recheck t.recheck held)) (refusals.NoPlan (open_number (λ p. p.plan) t.recheck)) (if_found (still_owed t held) (recheck_void t time) (recheck_ended t time checked)) (λ is.
      if_found-P FromRecheck (λ answer h. inl h) (still_owed t held) (recheck_void t time) (recheck_ended t time checked) (λ h. cc) (λ c there. from_recheck_ended time checked c))

pub opens_recheck : (t : Tables) (call : Call) (plan : RecheckPlan) → From (λ x. x.recheck) opened_recheck t plan (case_of t call)
opens_recheck t (calls.Own now tasks.PlanRecheck) plan = from_plan_recheck t plan (risen t now)
opens_recheck t (calls.Own now (tasks.EndRecheck held checked)) plan = from_end_recheck t plan (risen t now) held checked
opens_recheck t (calls.Asked now words wishes.Stop) plan = λ h. inl (sym (recheck-frame (kinds_of (calls.Asked now words wishes.Stop)) (case_of t (calls.Asked now words wishes.Stop)).changes t (touched t (calls.Asked now words wishes.Stop)) refl) ∙ h)
opens_recheck t call plan = λ h. inl (sym (recheck-frame (kinds_of call) (case_of t call).changes t (touched t call) refl) ∙ h)

-- ---- repairs and moves

-- the end of a repair or of a move closes a plan that changes of nodes and segments leave closed
module _ {P : Type 0} (t : Tables) (plan : P) (held : Tables → Option P) (opened : Reply → Option P) (kind : ℕ)
    (closes : (time : ℕ) → held (closing t time kind) ≡ None)
    (leaves : (cs : List RecChange) (x : Tables) → are_of (3 ∷ 5 ∷ []) cs ≡ true → held (all_changed x cs) ≡ held x) where
  abbrev FromIt : Outcome → Type 0
  FromIt = From held opened t plan

  gone : (rest : List RecChange) (time : ℕ) → are_of (3 ∷ 5 ∷ []) rest ≡ true → held (all_changed (closing t time kind) rest) ≡ Some plan → ⊥
  gone rest time other h = never plan (held (all_changed (closing t time kind) rest)) (leaves rest (closing t time kind) other ∙ closes time) h

  from_mending : (time : ℕ) (outcome : RepairOutcome) (segment : SegmentRecord) → FromIt (mending_of t time kind outcome segment)
  from_mending time (repairs.Mended mended) segment h =
      let nodes = failed t.nodes (λ source. not (is_kept mended source)) mended.plan.sources in
      absurd (gone (changes.Segment (mended_segment segment mended) ∷ map changes.Node nodes) time (of-nodes (3 ∷ 5 ∷ []) nodes refl) h)
  from_mending time (repairs.Unmended unmended) segment h =
      let nodes = failed t.nodes (λ source. is_among unmended.missing source.index) unmended.plan.sources in
      absurd (gone (map changes.Node nodes) time (of-nodes (3 ∷ 5 ∷ []) nodes refl) h)

  from_end_mending : (time : ℕ) (found : Option RepairPlan) (outcome : RepairOutcome) → FromIt (end_mending t time kind found outcome)
  from_end_mending time found outcome =
      unless-P FromIt (λ answer h. inl h) (not (is_open same_repair found (plan_of outcome))) (refusals.NoPlan (open_number (λ p. p.plan) found)) (end_mending_at t time kind outcome (segment_at t.segments (plan_of outcome).segment.0)) (λ is.
      if_found-P FromIt (λ answer h. inl h) (segment_at t.segments (plan_of outcome).segment.0) (superseded t time kind (plan_of outcome).version 0)
      (λ segment. if segment.version == (plan_of outcome).version then mending_of t time kind outcome segment else superseded t time kind (plan_of outcome).version segment.version)
      (λ h. absurd (gone [] time refl h)) (λ segment at.
      if-P FromIt (λ answer h. inl h) (segment.version == (plan_of outcome).version) (mending_of t time kind outcome segment) (superseded t time kind (plan_of outcome).version segment.version)
      (from_mending time outcome segment) (λ h. absurd (gone [] time refl h))))

from_plan_repair : (t : Tables) (plan : RepairPlan) (time : ℕ) (words : List ℕ) → From (λ x. x.repair) opened_repair t plan (plan_repair t time words)
from_plan_repair t plan time words =
    let P = From (λ x. x.repair) opened_repair t plan in
    with_record-P P (λ answer h. inl h) (to_repair t) refusals.NothingToRepair (λ segment. repair_from t time words segment (healthy_of t segment)) (λ segment is.
    let need = min (t.setup.o - length (healthy_of t segment)) (subnet_count (terms_beside t (healthy_of t segment) segment.len words)) in
    unless-P P (λ answer h. inl h) (has_no_plan t.marks) (refusals.TableFull names.Numbers) (repair_counted t time words segment (healthy_of t segment) need) (λ number.
    unless-P P (λ answer h. inl h) (need == 0) (refusals.Few 0) (repair_planned t time (repair_of t time segment (healthy_of t segment) (targets_for t (healthy_of t segment) segment.len words need))) (λ some h. inr h)))

pub opens_repair : (t : Tables) (call : Call) (plan : RepairPlan) → From (λ x. x.repair) opened_repair t plan (case_of t call)
opens_repair t (calls.Own now (tasks.PlanRepair words)) plan = from_plan_repair t plan (risen t now) words
opens_repair t (calls.Own now (tasks.EndRepair outcome)) plan = from_end_mending t plan (λ x. x.repair) opened_repair kinds.REPAIR_PLAN (λ time. refl) (λ cs x of. repair-frame (3 ∷ 5 ∷ []) cs x of refl) (risen t now) t.repair outcome
opens_repair t (calls.Asked now words wishes.Stop) plan = λ h. inl (sym (repair-frame (kinds_of (calls.Asked now words wishes.Stop)) (case_of t (calls.Asked now words wishes.Stop)).changes t (touched t (calls.Asked now words wishes.Stop)) refl) ∙ h)
opens_repair t call plan = λ h. inl (sym (repair-frame (kinds_of call) (case_of t call).changes t (touched t call) refl) ∙ h)

from_plan_exit : (t : Tables) (plan : ExitPlan) (time : ℕ) (words : List ℕ) → From (λ x. x.exit) opened_exit t plan (plan_exit t time words)
from_plan_exit t plan time words =
    let P = From (λ x. x.exit) opened_exit t plan in
    let more = drop 1 words in
    with_record-P P (λ answer h. inl h) (picked (exiting_nodes t) (slice_index words 0)) refusals.NothingToExit (plan_exit_of t time more) (λ node is.
    if_found-P P (λ answer h. inl h) (first_of (filter (is_movable t node.id) t.segments)) (node_exited t time node) (exit_segment t time more node) (λ h. inl h) (λ found first_is.
    if_found-P P (λ answer h. inl h) (find (lies_on node.id) found.pieces) (node_exited t time node) (exit_from t time more found (healthy_of t found)) (λ h. inl h) (λ leaving leaves.
    unless-P P (λ answer h. inl h) (has_no_plan t.marks) (refusals.TableFull names.Numbers)
    (exit_to t time found (healthy_of t found) leaving (first_of (picks_of (terms_beside t (healthy_of t found) found.len more) 1 (t.setup.fresh / 100)))) (λ number.
    with_record-P P (λ answer h. inl h) (first_of (picks_of (terms_beside t (healthy_of t found) found.len more) 1 (t.setup.fresh / 100))) (refusals.Few 0)
    (λ pick. exit_planned t time (record { leaving = leaving; plan = repair_of t time found (healthy_of t found) (target_at leaving pick ∷ []) }) (target_at leaving pick)) (λ pick picked_is h. inr h)))))

pub opens_exit : (t : Tables) (call : Call) (plan : ExitPlan) → From (λ x. x.exit) opened_exit t plan (case_of t call)
opens_exit t (calls.Own now (tasks.PlanExit words)) plan = from_plan_exit t plan (risen t now) words
opens_exit t (calls.Own now (tasks.EndExit outcome)) plan = from_end_mending t plan (λ x. x.exit) opened_exit kinds.EXIT_PLAN (λ time. refl) (λ cs x of. exit-frame (3 ∷ 5 ∷ []) cs x of refl) (risen t now) (open_move t) outcome
opens_exit t (calls.Asked now words wishes.Stop) plan = λ h. inl (sym (exit-frame (kinds_of (calls.Asked now words wishes.Stop)) (case_of t (calls.Asked now words wishes.Stop)).changes t (touched t (calls.Asked now words wishes.Stop)) refl) ∙ h)
opens_exit t call plan = λ h. inl (sym (exit-frame (kinds_of call) (case_of t call).changes t (touched t call) refl) ∙ h)
