-- Which outcomes nodes get where a plan ends.
use Rattle.std.proofs.Common.{◌≡◌, ℕ, ◌+◌, Bool, true, false, not, List, [], ◌∷◌, ◌++◌, Option, Some, None, refl, sym, ap, subst, ◌∙◌, arith}
use Rattle.std.specs.Prelude.{if◌then◌else◌, ◌==◌, map, filter, filter_map, option_to_list}
use Rattle.std.specs.List.{cons_option}
use Rattle.std.proofs.lemmas.Bool.Decides.{nat_tests}
use Rattle.sat_base.specs.declared.limits.TheConstants as limits
use Rattle.sat_base.specs.declared.kinds.TheConstants as kinds
use Rattle.sat_base.specs.declared.ids.NodeId.{NodeId}
use Rattle.sat_base.specs.declared.records.At.{At}
use Rattle.sat_base.specs.declared.records.Containment.{Containment}
use Rattle.sat_base.specs.declared.records.Key.TheVariants as keys
use Rattle.sat_base.specs.Ranks.{containment_rank}
use Rattle.node_registry.specs.declared.node.Node.{Node}
use Rattle.node_registry.specs.declared.reputation.Outcome.{Outcome as Mark}
use Rattle.node_registry.specs.declared.reputation.Outcome.TheVariants.{Pass, Fail}
use Rattle.node_registry.specs.Registry.{node_at, contained_at}
use Rattle.segment_core.specs.Record.{SegmentRecord}
use Rattle.segment_core.specs.Commit.{is_among}
use Rattle.audit_core.specs.declared.rechecking.RecheckPlan.{RecheckPlan}
use Rattle.audit_core.specs.declared.rechecking.Checked.{Checked}
use Rattle.audit_core.specs.declared.rechecking.Checked.TheVariants as checks
use Rattle.audit_core.specs.declared.verdict.Judged.{Judged}
use Rattle.repair_core.specs.declared.plan.RepairPlan.{RepairPlan}
use Rattle.repair_core.specs.declared.outcome.RepairOutcome.{RepairOutcome}
use Rattle.repair_core.specs.declared.outcome.RepairOutcome.TheVariants as repairs
use Rattle.machine_calls.specs.declared.call.Call.{Call}
use Rattle.machine_calls.specs.declared.call.Call.TheVariants as calls
use Rattle.machine_calls.specs.declared.task.Task.TheVariants as tasks
use Rattle.machine_calls.specs.declared.change.RecChange.{RecChange}
use Rattle.machine_calls.specs.declared.change.RecChange.TheVariants as changes
use Rattle.machine_calls.specs.declared.refusal.Refusal.TheVariants as refusals
use Rattle.machine_calls.specs.declared.reply.Reply.{Reply}
use Rattle.machine_calls.specs.declared.reply.Reply.TheVariants as replies
use Rattle.machine_step.specs.Tables.{Tables, segment_at, all_changed}
use Rattle.machine_step.specs.Outcome.{Outcome, refused, unless, if_found}
use Rattle.machine_step.specs.Containment.{swept, release}
use Rattle.machine_step.specs.Health.{after_outcome}
use Rattle.machine_step.specs.Plans.{timed, same_recheck, is_open, open_number}
use Rattle.machine_step.specs.Mending.{plan_of, is_kept, mended_segment, failed, mending_of, end_mending}
use Rattle.machine_step.specs.Step.{risen, case_of, step, after, tables_after}
use Rattle.machine_step.specs.Calls.EndAudit.{mark_of, nodes_after, containments_after, end_audit}
use Rattle.machine_step.specs.Calls.EndRecheck.{is_as_planned, only, settled_as, recheck_closed, recheck_void, recheck_ended, end_recheck}
use Rattle.machine_step.specs.Calls.EndExit.{open_move}
use Rattle.machine_step.specs.Calls.PlanExit.{lies_on}
use Rattle.machine_step.specs.Bounds.{IsValid}
use Rattle.machine_step.proofs.RowLemmas.{rank-found}
use Rattle.machine_step.proofs.ReleaseLemmas.{changed-append, releases_are}
use Rattle.machine_step.proofs.Batches.{puts_of, nodes-put}
use Rattle.machine_step.proofs.ApartLemmas.{apart-among}
use Rattle.machine_step.proofs.Touches.{nodes-frame, of-containments}
use Rattle.machine_step.proofs.AuditFound.{audit_found, AuditEnds, audit_ends}
use Rattle.machine_step.proofs.AuditFound.AuditEnds.{not_open as audit_not_open, superseded_end as audit_superseded, ended as audit_done}
use Rattle.machine_step.proofs.MendFound.{IsMendable, mendable_repair, mendable_move, MendingEnds, mending_ends}
use Rattle.machine_step.proofs.MendFound.MendingEnds.{not_open, gone_end, superseded_end, ended}
use Rattle.machine_plans.specs.Ends.{is_end}
use Rattle.machine_plans.specs.Outcomes.{checked_marks, fails_on, mended_marks, marks_in}
use Rattle.machine_plans.proofs.Rating.{AreOther, other-apart, rated, unrated, rated_for, marks_on, rated_exactly, fail_if, failed-is, fails-are}

-- behind an outcome a node has just these marks more
abbrev IsExact : Tables → NodeId → List Mark → Outcome → Type 0
IsExact t id marks o = node_at (all_changed t o.changes).nodes id ≡ rated marks (node_at t.nodes id)

module _ (t : Tables) (v : IsValid t) (id : NodeId) where
  -- nodes that are put, and then changes of other records
  nodes_behind : (u : Tables) (ns : List Node) (rest : List RecChange) → ((x : Tables) → (all_changed x rest).nodes ≡ x.nodes) → (all_changed u (map changes.Node ns ++ rest)).nodes ≡ puts_of u.nodes ns
  nodes_behind u ns rest leaves =
      ap (λ (x : Tables). x.nodes) (changed-append (map changes.Node ns) rest u) ∙ leaves (all_changed u (map changes.Node ns)) ∙ ap (λ (x : Tables). x.nodes) (nodes-put ns u)

  by_outcome : (marks : List Mark) (o other : Outcome) → other ≡ o → IsExact t id marks o → IsExact t id marks other
  by_outcome marks o other is exact = ap (λ (x : Outcome). node_at (all_changed t x.changes).nodes id) is ∙ exact

  abbrev closing : ℕ → ℕ → Tables
  closing time kind = all_changed t (changes.Marks (timed t.marks time) ∷ changes.Remove (keys.Plan kind) ∷ [])

  -- ---- audits

  marks_audit : (now : ℕ) (judged : Judged) → IsExact t id (marks_in id (calls.Own now (tasks.EndAudit judged)) (end_audit t (risen t now) judged).reply) (end_audit t (risen t now) judged)
  marks_audit now judged = go (audit_ends t (risen t now) judged)
    where
      at : (o : Outcome) → end_audit t (risen t now) judged ≡ o → IsExact t id (marks_in id (calls.Own now (tasks.EndAudit judged)) o.reply) o → IsExact t id (marks_in id (calls.Own now (tasks.EndAudit judged)) (end_audit t (risen t now) judged).reply) (end_audit t (risen t now) judged)
      at o is exact = subst (λ (x : Outcome). IsExact t id (marks_in id (calls.Own now (tasks.EndAudit judged)) x.reply) x) (sym is) exact

      go : AuditEnds t (risen t now) judged → IsExact t id (marks_in id (calls.Own now (tasks.EndAudit judged)) (end_audit t (risen t now) judged).reply) (end_audit t (risen t now) judged)
      go (audit_not_open is) = at _ is (sym (unrated (node_at t.nodes id)))
      go (audit_superseded held other is) = at _ is (sym (unrated (node_at t.nodes id)))
      go (audit_done held version is) =
          let f = audit_found t v judged.plan held version in
          let apart = apart-among t.nodes f.segment.pieces judged.plan.asked f.apart f.among f.rising in
          let rows = containments_after t judged in
          at _ is
          (ap (λ (ns : List Node). node_at ns id) (nodes_behind (closing (risen t now) kinds.AUDIT_PLAN) (nodes_after t judged) (map changes.Containment rows) (λ x. nodes-frame (12 ∷ []) (map changes.Containment rows) x (of-containments (12 ∷ []) rows refl) refl))
          ∙ rated_exactly t.nodes (λ piece. mark_of judged piece.index) judged.plan.asked (other-apart t.nodes judged.plan.asked apart) id)

  -- ---- rechecks

  settled_marks : (time : ℕ) (c : Containment) (mark : Mark) → node_at (all_changed (closing time kinds.RECHECK_PLAN) (settled_as t c mark)).nodes id ≡ rated (if c.node.0 == id.0 then mark ∷ [] else []) (node_at t.nodes id)
  settled_marks time c mark =
      let place : At = record { index = 0; node = c.node } in
      let next = after_outcome (node_at t.nodes c.node) mark in
      ap (λ (ns : List Node). node_at ns id) (nodes_behind (closing time kinds.RECHECK_PLAN) (option_to_list next) (release c ∷ []) (λ x. refl))
      ∙ ap (λ (ns : List Node). node_at (puts_of t.nodes ns) id) (listed next)
      ∙ rated_exactly t.nodes (λ piece. Some mark) (place ∷ []) (refl, tt) id
      ∙ ap (λ (ms : List Mark). rated ms (node_at t.nodes id)) (own (c.node.0 == id.0))
    where
      listed : (o : Option Node) → option_to_list o ≡ cons_option o []
      listed None = refl
      listed (Some n) = refl

      own : (b : Bool) → filter_map (λ (piece : At). Some mark) (if b then record { index = 0; node = c.node } ∷ [] else []) ≡ (if b then mark ∷ [] else [])
      own true = refl
      own false = refl

  abbrev RecheckExact : ℕ → RecheckPlan → Checked → Outcome → Type 0
  RecheckExact now plan checked o = IsExact t id (marks_in id (calls.Own now (tasks.EndRecheck plan checked)) o.reply) o

  module _ (now : ℕ) (plan : RecheckPlan) (c : Containment) (own : c.node.0 ≡ plan.node.0) where
    same_test : (ms : List Mark) → rated (if c.node.0 == id.0 then ms else []) (node_at t.nodes id) ≡ rated (if plan.node.0 == id.0 then ms else []) (node_at t.nodes id)
    same_test ms = ap (λ (k : ℕ). rated (if k == id.0 then ms else []) (node_at t.nodes id)) own

    marks_ended : (checked : Checked) → RecheckExact now plan checked (recheck_ended t (risen t now) checked c)
    marks_ended checks.Pass = settled_marks (risen t now) c Pass ∙ same_test (Pass ∷ [])
    marks_ended checks.Fail = settled_marks (risen t now) c Fail ∙ same_test (Fail ∷ [])
    marks_ended checks.Silent = silent (c.tries + 1 == limits.TRIES) refl
      where
        none : (b : Bool) → node_at t.nodes id ≡ rated (if b then [] else []) (node_at t.nodes id)
        none true = sym (unrated (node_at t.nodes id))
        none false = sym (unrated (node_at t.nodes id))

        silent : (b : Bool) → (c.tries + 1 == limits.TRIES) ≡ b
            → IsExact t id (marks_in id (calls.Own now (tasks.EndRecheck plan checks.Silent)) (replies.RecheckEnded checks.Silent (c.tries + 1))) (recheck_closed t (risen t now) (if c.tries + 1 == limits.TRIES then settled_as t c Fail else changes.Containment (record c { tries = c.tries + 1 }) ∷ []) checks.Silent (c.tries + 1))
        silent true is =
            ap (λ (b : Bool). node_at (all_changed t (recheck_closed t (risen t now) (if b then settled_as t c Fail else changes.Containment (record c { tries = c.tries + 1 }) ∷ []) checks.Silent (c.tries + 1)).changes).nodes id) is
            ∙ settled_marks (risen t now) c Fail ∙ same_test (Fail ∷ [])
            ∙ sym (ap (λ (b : Bool). rated (if plan.node.0 == id.0 then (if b then Fail ∷ [] else []) else []) (node_at t.nodes id)) is)
        silent false is =
            ap (λ (b : Bool). node_at (all_changed t (recheck_closed t (risen t now) (if b then settled_as t c Fail else changes.Containment (record c { tries = c.tries + 1 }) ∷ []) checks.Silent (c.tries + 1)).changes).nodes id) is
            ∙ none (plan.node.0 == id.0)
            ∙ sym (ap (λ (b : Bool). rated (if plan.node.0 == id.0 then (if b then Fail ∷ [] else []) else []) (node_at t.nodes id)) is)

  marks_recheck : (now : ℕ) (plan : RecheckPlan) (checked : Checked) → RecheckExact now plan checked (end_recheck t (risen t now) plan checked)
  marks_recheck now plan checked = held (is_open same_recheck t.recheck plan)
    where
      at : (found : Option Containment) → contained_at t.containments plan.node ≡ found → (b : Bool) → RecheckExact now plan checked (if_found (if b then found else None) (recheck_void t (risen t now)) (recheck_ended t (risen t now) checked))
      at found is false = sym (unrated (node_at t.nodes id))
      at None is true = sym (unrated (node_at t.nodes id))
      at (Some c) is true = marks_ended now plan c (rank-found containment_rank t.containments plan.node.0 c is) checked

      owed : (found : Option Containment) → contained_at t.containments plan.node ≡ found → RecheckExact now plan checked (if_found (only (is_as_planned plan) found) (recheck_void t (risen t now)) (recheck_ended t (risen t now) checked))
      owed None is = sym (unrated (node_at t.nodes id))
      owed (Some c) is = at (Some c) is (is_as_planned plan c)

      held : (b : Bool) → RecheckExact now plan checked (unless (not b) (refusals.NoPlan (open_number (λ held. held.plan) t.recheck)) (if_found (only (is_as_planned plan) (contained_at t.containments plan.node)) (recheck_void t (risen t now)) (recheck_ended t (risen t now) checked)))
      held true = owed (contained_at t.containments plan.node) refl
      held false = sym (unrated (node_at t.nodes id))

  -- ---- repairs and moves

  module _ (time kind : ℕ) (opened : Option RepairPlan) (outcome : RepairOutcome) (mendable : opened ≡ Some (plan_of outcome) → IsMendable t opened (plan_of outcome)) where
    abbrev MendExact : Outcome → Type 0
    MendExact o = IsExact t id (mended_marks id outcome o.reply) o

    fails_behind : (u : Tables) → u.nodes ≡ t.nodes → (fails : At → Bool) (places : List At) → AreOther places → node_at (all_changed u (map changes.Node (failed t.nodes fails places))).nodes id ≡ rated (fails_on id fails places) (node_at t.nodes id)
    fails_behind u same fails places other =
        ap (λ (ns : List Node). node_at ns id) (ap (λ (x : Tables). x.nodes) (nodes-put (failed t.nodes fails places) u) ∙ ap (λ (ns : List Node). puts_of ns (failed t.nodes fails places)) same)
        ∙ ap (λ (ns : List Node). node_at (puts_of t.nodes ns) id) (failed-is t.nodes fails places)
        ∙ rated_exactly t.nodes (fail_if fails) places other id
        ∙ ap (λ (ms : List Mark). rated ms (node_at t.nodes id)) (fails-are id fails places)

    marks_found : (found : SegmentRecord) (o : RepairOutcome) → AreOther (plan_of o).sources → IsExact t id (mended_marks id o (mending_of t time kind o found).reply) (mending_of t time kind o found)
    marks_found found (repairs.Mended mended) other =
        fails_behind (all_changed t (changes.Marks (timed t.marks time) ∷ changes.Remove (keys.Plan kind) ∷ changes.Segment (mended_segment found mended) ∷ [])) refl (λ source. not (is_kept mended source)) mended.plan.sources other
    marks_found found (repairs.Unmended unmended) other = fails_behind (closing time kind) refl (λ source. is_among unmended.missing source.index) unmended.plan.sources other

    none_for : (o : RepairOutcome) (reply : Reply) → mended_marks id o reply ≡ [] → node_at t.nodes id ≡ rated (mended_marks id o reply) (node_at t.nodes id)
    none_for o reply is = sym (ap (λ (ms : List Mark). rated ms (node_at t.nodes id)) is ∙ unrated (node_at t.nodes id))

    refused_none : (o : RepairOutcome) (cause : ℕ) → mended_marks id o (replies.Refused (refusals.NoPlan cause)) ≡ []
    refused_none (repairs.Mended mended) cause = refl
    refused_none (repairs.Unmended unmended) cause = refl

    superseded_none : (o : RepairOutcome) (planned now : ℕ) → mended_marks id o (replies.Superseded planned now) ≡ []
    superseded_none (repairs.Mended mended) planned now = refl
    superseded_none (repairs.Unmended unmended) planned now = refl

    marks_mending : MendExact (end_mending t time kind opened outcome)
    marks_mending = go (mending_ends t time kind opened outcome)
      where
        at : (o : Outcome) → end_mending t time kind opened outcome ≡ o → MendExact o → MendExact (end_mending t time kind opened outcome)
        at o is exact = subst MendExact (sym is) exact

        go : MendingEnds t time kind opened outcome → MendExact (end_mending t time kind opened outcome)
        go (not_open is) = at _ is (none_for outcome _ (refused_none outcome (open_number (λ plan. plan.plan) opened)))
        go (gone_end holds there is) = at _ is (none_for outcome _ (superseded_none outcome (plan_of outcome).version 0))
        go (superseded_end holds found there other is) = at _ is (none_for outcome _ (superseded_none outcome (plan_of outcome).version found.version))
        go (ended holds found there version is) = at _ is (marks_found found outcome (other-apart t.nodes (plan_of outcome).sources ((mendable holds).can found there version).sources.apart))

  marks_case : (call : Call) → is_end call ≡ true → IsExact t id (marks_in id call (case_of t call).reply) (case_of t call)
  marks_case (calls.Own now (tasks.EndAudit judged)) ends = marks_audit now judged
  marks_case (calls.Own now (tasks.EndRecheck plan checked)) ends = marks_recheck now plan checked
  marks_case (calls.Own now (tasks.EndRepair outcome)) ends = marks_mending (risen t now) kinds.REPAIR_PLAN t.repair outcome (mendable_repair t v (plan_of outcome))
  marks_case (calls.Own now (tasks.EndExit outcome)) ends = marks_mending (risen t now) kinds.EXIT_PLAN (open_move t) outcome (mendable_move t v (plan_of outcome))
  marks_case _ ends = absurd cc

-- a stopped machine gives no outcome
stopped_none : (id : NodeId) (call : Call) → marks_in id call (replies.Refused refusals.Stopped) ≡ []
stopped_none id (calls.Own now (tasks.EndRepair (repairs.Mended mended))) = refl
stopped_none id (calls.Own now (tasks.EndRepair (repairs.Unmended unmended))) = refl
stopped_none id (calls.Own now (tasks.EndExit (repairs.Mended mended))) = refl
stopped_none id (calls.Own now (tasks.EndExit (repairs.Unmended unmended))) = refl
stopped_none id _ = refl

pub marks_step : (t : Tables) (call : Call) (id : NodeId) → IsValid t → is_end call ≡ true → node_at (after t call).nodes id ≡ rated (marks_in id call (step t call).reply) (node_at t.nodes id)
marks_step t call id v ends = go t.stopped
  where
    go : (b : Bool) → node_at (tables_after t (if b then refused refusals.Stopped else swept t (case_of t call))).nodes id ≡ rated (marks_in id call (if b then refused refusals.Stopped else swept t (case_of t call)).reply) (node_at t.nodes id)
    go true = sym (ap (λ (ms : List Mark). rated ms (node_at t.nodes id)) (stopped_none id call) ∙ unrated (node_at t.nodes id))
    go false = ap (λ (x : Tables). node_at x.nodes id) (releases_are t (case_of t call).changes) ∙ marks_case t v id call ends
