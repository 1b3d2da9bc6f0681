-- What the ends and beginnings of plans change can be placed, and no change takes another's room.
use Rattle.std.proofs.Common.{◌≡◌, ℕ, Bool, true, false, List, [], ◌∷◌, length, drop, find, min, append-nil, Option, Some, None, refl, subst, ap, sym, ◌∙◌}
use Rattle.std.specs.List.{list_all}
use Rattle.std.specs.Prelude.{◌==◌, ◌^◌, ◌<◌, ◌+◌, ◌-◌, ◌/◌, ◌%◌, not, map, filter, if◌then◌else◌, option_to_list, slice_index}
use Rattle.std.proofs.lemmas.Bool.{and_from}
use Rattle.sat_base.specs.declared.limits.TheConstants as limits
use Rattle.sat_base.specs.declared.ids.NodeId.{NodeId}
use Rattle.sat_base.specs.declared.records.At.{At}
use Rattle.sat_base.specs.declared.records.Containment.{Containment}
use Rattle.sat_base.specs.declared.kinds.TheConstants as kinds
use Rattle.sat_base.specs.declared.records.Key.TheVariants as keys
use Rattle.rows.specs.Rows.{row_at}
use Rattle.node_registry.specs.declared.node.Node.{Node}
use Rattle.node_registry.specs.Standing.{is_counted}
use Rattle.sat_base.specs.declared.settings.Marks.{Marks}
use Rattle.machine_calls.specs.declared.reply.Reply.{Reply}
use Rattle.node_registry.specs.declared.node.Status.{Status}
use Rattle.node_registry.specs.declared.node.Status.TheVariants.{Active, Disqualified, Exiting, Exited}
use Rattle.node_registry.specs.declared.reputation.Outcome.{Outcome as Mark}
use Rattle.node_registry.specs.declared.reputation.Outcome.TheVariants.{Fail, Pass}
use Rattle.node_registry.specs.Registry.{node_rank, node_at}
use Rattle.node_registry.specs.Standing.{byte_of}
use Rattle.segment_core.specs.Record.{SegmentRecord}
use Rattle.placement.specs.Eligible.{subnet_count}
use Rattle.placement.proofs.Picks.{got-kept}
use Rattle.audit_core.specs.declared.rechecking.Checked.{Checked}
use Rattle.audit_core.specs.declared.rechecking.Checked.TheVariants as checks
use Rattle.audit_core.specs.declared.rechecking.RecheckPlan.{RecheckPlan}
use Rattle.audit_core.specs.declared.verdict.Judged.{Judged}
use Rattle.repair_core.specs.declared.plan.RepairPlan.{RepairPlan}
use Rattle.repair_core.specs.declared.outcome.RepairOutcome.{RepairOutcome}
use Rattle.repair_core.specs.declared.outcome.RepairOutcome.TheVariants as repairs
use Rattle.machine_calls.specs.declared.change.RecChange.{RecChange}
use Rattle.machine_calls.specs.declared.change.RecChange.TheVariants as changes
use Rattle.machine_calls.specs.declared.refusal.Refusal.TheVariants as refusals
use Rattle.machine_calls.specs.declared.refusal.TableName.TheVariants as names
use Rattle.machine_calls.specs.declared.reply.Reply.TheVariants as replies
use Rattle.machine_step.specs.Bounds.{Each, IsValid}
use Rattle.machine_step.specs.Containment.{release}
use Rattle.machine_step.specs.Health.{after_outcome, first_of, healthy_of, live_segments, picked}
use Rattle.machine_step.specs.Outcome.{Outcome}
use Rattle.machine_step.specs.Plans.{has_no_plan, is_open, open_number, same_audit, same_recheck, same_repair, superseded, timed, version_of}
use Rattle.machine_step.specs.Mending.{plan_of, failed, unrepaired, mending_of, end_mending_at, end_mending}
use Rattle.machine_step.specs.Places.{picks_of}
use Rattle.machine_step.specs.Tables.{Tables, segment_at}
use Rattle.machine_step.specs.Calls.PlanAudit.{audit_of, audit_planned, audit_numbered, plan_audit}
use Rattle.machine_step.specs.Calls.EndAudit.{node_after, nodes_after, containments_after, mark_of, audit_ended, end_audit_of, end_audit}
use Rattle.machine_step.specs.Calls.PlanRecheck.{recheck_planned, plan_recheck}
use Rattle.machine_step.specs.Calls.EndRecheck.{still_owed, settled_as, silent_again, recheck_ended, recheck_void, end_recheck}
use Rattle.machine_step.specs.Calls.PlanRepair.{to_repair, terms_beside, targets_for, repair_of, repair_planned, repair_counted, repair_from, plan_repair}
use Rattle.machine_step.specs.Calls.EndRepair.{end_repair}
use Rattle.machine_step.specs.Calls.Exit.{exit_as, exit}
use Rattle.machine_step.specs.Calls.PlanExit.{is_exiting, exiting_nodes, lies_on, is_movable, node_exited, target_at, exit_planned, exit_to, exit_from, exit_segment, plan_exit_of, plan_exit}
use Rattle.machine_step.specs.Calls.EndExit.{open_move, end_exit}
use Rattle.machine_step.proofs.Batches.{each-mapped}
use Rattle.machine_step.proofs.GrowthLemmas.{found-got}
use Rattle.machine_step.proofs.Outcomes.{unless-P, with_record-P, if_found-P, if-P}
use Rattle.machine_step.proofs.RowLemmas.{rank-found}
use Rattle.machine_step.proofs.SegmentSizes.{found-short}
use Rattle.machine_store.specs.Store.{ArePlaceable, spares, are_orderly}
use Rattle.sat_machine.proofs.StayLemmas.{CanTake, can-take, stays-counted}
use Rattle.sat_machine.proofs.Doable.{IsDoable, IsEasy, still, easy-placeable, easy-orderly, easy-containments, easy-nodes, node-placeable}

module _ (t : Tables) (v : IsValid t) (time : ℕ) where
  doable_superseded : (kind planned now : ℕ) → IsDoable t (superseded t time kind planned now)
  doable_superseded kind planned now = record { placeable = (tt, (tt, tt)); orderly = refl }

  -- ---- audits

  pub doable_plan_audit : (words : List ℕ) → IsDoable t (plan_audit t time words)
  doable_plan_audit words =
      with_record-P (IsDoable t) (still t) (picked (live_segments t) (slice_index words 0)) refusals.NothingToAudit (λ segment. audit_numbered t time (audit_of t time segment (slice_index words 1))) (λ segment is.
      unless-P (IsDoable t) (still t) (has_no_plan t.marks) (refusals.TableFull names.Numbers) (audit_planned t time (audit_of t time segment (slice_index words 1))) (λ number.
      record { placeable = (tt, (tt, tt)); orderly = refl }))

  doable_audit_ended : (judged : Judged) → IsDoable t (audit_ended t time judged)
  doable_audit_ended judged =
      let can : Each (CanTake t.nodes) (nodes_after t judged) = each-mapped (CanTake t.nodes) (node_after t.nodes judged) judged.plan.asked (λ piece n is. can-take t v piece.node (mark_of judged piece.index) n is) in
      let nodes = easy-nodes t v (nodes_after t judged) can in
      let contained = easy-placeable t (map changes.Containment (containments_after t judged)) [] (easy-containments t (containments_after t judged)) tt in
      let orderly = easy-orderly t (map changes.Containment (containments_after t judged)) [] (easy-containments t (containments_after t judged)) refl in
      record {
        placeable = (tt, (tt, easy-placeable t (map changes.Node (nodes_after t judged)) (map changes.Containment (containments_after t judged)) nodes (subst (ArePlaceable t) (append-nil (map changes.Containment (containments_after t judged))) contained)));
        orderly = easy-orderly t (changes.Marks (timed t.marks time) ∷ changes.Remove (keys.Plan kinds.AUDIT_PLAN) ∷ map changes.Node (nodes_after t judged)) (map changes.Containment (containments_after t judged)) ((tt, refl), ((tt, refl), nodes)) (ap are_orderly (sym (append-nil (map changes.Containment (containments_after t judged)))) ∙ orderly);
      }

  pub doable_end_audit : (judged : Judged) → IsDoable t (end_audit t time judged)
  doable_end_audit judged =
      let version = version_of (segment_at t.segments judged.plan.segment.0) in
      unless-P (IsDoable t) (still t) (not (is_open same_audit t.audit judged.plan)) (refusals.NoPlan (open_number (λ plan. plan.plan) t.audit)) (end_audit_of t time judged version) (λ held.
      if-P (IsDoable t) (still t) (version == judged.plan.version) (audit_ended t time judged) (superseded t time kinds.AUDIT_PLAN judged.plan.version version) (doable_audit_ended judged) (doable_superseded kinds.AUDIT_PLAN judged.plan.version version))

  -- ---- rechecks

  pub doable_plan_recheck : IsDoable t (plan_recheck t time)
  doable_plan_recheck =
      with_record-P (IsDoable t) (still t) (first_of t.containments) refusals.NothingToRecheck _ (λ containment is.
      unless-P (IsDoable t) (still t) (has_no_plan t.marks) (refusals.TableFull names.Numbers) (recheck_planned t time containment) (λ number.
      record { placeable = (tt, (tt, tt)); orderly = refl }))

  listed : (id : NodeId) (mark : Mark) (o : Option Node) → after_outcome (node_at t.nodes id) mark ≡ o → Each (CanTake t.nodes) (option_to_list o)
  listed id mark None is = tt
  listed id mark (Some n) is = (can-take t v id (Some mark) n is, tt)

  settled_easy : (c : Containment) (mark : Mark) → Each (IsEasy t) (map changes.Node (option_to_list (after_outcome (node_at t.nodes c.node) mark)))
  settled_easy c mark = easy-nodes t v (option_to_list (after_outcome (node_at t.nodes c.node) mark)) (listed c.node mark (after_outcome (node_at t.nodes c.node) mark) refl)

  -- what an answer of a recheck changes
  abbrev IsClosing : List RecChange → Type 0
  IsClosing puts = ArePlaceable t puts × (are_orderly puts ≡ true)

  settled_closing : (c : Containment) (mark : Mark) → IsClosing (settled_as t c mark)
  settled_closing c mark =
      let nodes = map changes.Node (option_to_list (after_outcome (node_at t.nodes c.node) mark)) in
      (easy-placeable t nodes (release c ∷ []) (settled_easy c mark) (tt, tt), easy-orderly t nodes (release c ∷ []) (settled_easy c mark) refl)

  silent_closing : (c : Containment) (tries : ℕ) (b : Bool) → IsClosing (if b then settled_as t c Fail else changes.Containment (record c { tries = tries }) ∷ [])
  silent_closing c tries true = settled_closing c Fail
  silent_closing c tries false = ((tt, tt), refl)

  closed : (kind : ℕ) (puts : List RecChange) → IsClosing puts → (ArePlaceable t (changes.Marks (timed t.marks time) ∷ changes.Remove (keys.Plan kind) ∷ puts)) × (are_orderly (changes.Marks (timed t.marks time) ∷ changes.Remove (keys.Plan kind) ∷ puts) ≡ true)
  closed kind puts is = ((tt, (tt, is.0)), easy-orderly t (changes.Marks (timed t.marks time) ∷ changes.Remove (keys.Plan kind) ∷ []) puts ((tt, refl), ((tt, refl), tt)) is.1)

  doable_recheck_ended : (checked : Checked) (c : Containment) → IsDoable t (recheck_ended t time checked c)
  doable_recheck_ended checks.Pass c = let is = closed kinds.RECHECK_PLAN (settled_as t c Pass) (settled_closing c Pass) in record { placeable = is.0; orderly = is.1 }
  doable_recheck_ended checks.Fail c = let is = closed kinds.RECHECK_PLAN (settled_as t c Fail) (settled_closing c Fail) in record { placeable = is.0; orderly = is.1 }
  doable_recheck_ended checks.Silent c = let is = closed kinds.RECHECK_PLAN (silent_again t c (c.tries + 1)) (silent_closing c (c.tries + 1) (c.tries + 1 == limits.TRIES)) in record { placeable = is.0; orderly = is.1 }

  pub doable_end_recheck : (plan : RecheckPlan) (checked : Checked) → IsDoable t (end_recheck t time plan checked)
  doable_end_recheck plan checked =
      unless-P (IsDoable t) (still t) (not (is_open same_recheck t.recheck plan)) (refusals.NoPlan (open_number (λ plan. plan.plan) t.recheck)) _ (λ held.
      if_found-P (IsDoable t) (still t) (still_owed t plan) (recheck_void t time) (recheck_ended t time checked) (record { placeable = (tt, (tt, tt)); orderly = refl }) (λ c is. doable_recheck_ended checked c))

  -- ---- repairs

  pub doable_plan_repair : (words : List ℕ) → IsDoable t (plan_repair t time words)
  doable_plan_repair words =
      with_record-P (IsDoable t) (still t) (to_repair t) refusals.NothingToRepair (λ segment. repair_from t time words segment (healthy_of t segment)) (λ segment is.
      let sources = healthy_of t segment in
      let need = min (t.setup.o - length sources) (subnet_count (terms_beside t sources segment.len words)) in
      unless-P (IsDoable t) (still t) (has_no_plan t.marks) (refusals.TableFull names.Numbers) (repair_counted t time words segment sources need) (λ number.
      unless-P (IsDoable t) (still t) (need == 0) (refusals.Few 0) (repair_planned t time (repair_of t time segment sources (targets_for t sources segment.len words need))) (λ some.
      record { placeable = (tt, (tt, tt)); orderly = refl })))

  failed_can : (has : At → Bool) (sources : List At) → Each (CanTake t.nodes) (failed t.nodes has sources)
  failed_can has sources = each-mapped (CanTake t.nodes) (λ source. if has source then after_outcome (node_at t.nodes source.node) Fail else None) sources (λ source n is. at source n (has source) is)
    where
      at : (source : At) (n : Node) (b : Bool) → (if b then after_outcome (node_at t.nodes source.node) Fail else None) ≡ Some n → CanTake t.nodes n
      at source n true is = can-take t v source.node (Some Fail) n is
      at source n false is = cc

  easy_doable : (o : Outcome) → Each (IsEasy t) o.changes → IsDoable t o
  easy_doable o each = record {
    placeable = subst (ArePlaceable t) (append-nil o.changes) (easy-placeable t o.changes [] each tt);
    orderly = ap are_orderly (sym (append-nil o.changes)) ∙ easy-orderly t o.changes [] each refl;
  }

  spares_nodes : (segment : SegmentRecord) (ns : List Node) → list_all (spares (changes.Segment segment)) (map changes.Node ns) ≡ true
  spares_nodes segment [] = refl
  spares_nodes segment (n ∷ ns) = spares_nodes segment ns

  -- a segment is put, and nodes
  doable_segment : (marks : Marks) (kind : ℕ) (segment : SegmentRecord) (ns : List Node) (answer : Reply) → segment.len < 2 ^ 40 → Each (CanTake t.nodes) ns
      → IsDoable t (record { reply = answer; changes = changes.Marks marks ∷ changes.Remove (keys.Plan kind) ∷ changes.Segment segment ∷ map changes.Node ns })
  doable_segment marks kind segment ns answer short can =
      let nodes = map changes.Node ns in
      let easy = easy-nodes t v ns can in
      let placeable = subst (ArePlaceable t) (append-nil nodes) (easy-placeable t nodes [] easy tt) in
      let orderly = ap are_orderly (sym (append-nil nodes)) ∙ easy-orderly t nodes [] easy refl in
      record {
        placeable = (tt, (tt, (short, placeable)));
        orderly = easy-orderly t (changes.Marks marks ∷ changes.Remove (keys.Plan kind) ∷ []) (changes.Segment segment ∷ nodes) ((tt, refl), ((tt, refl), tt)) (and_from _ _ (spares_nodes segment ns) orderly);
      }

  doable_mending : (kind : ℕ) (outcome : RepairOutcome) (found : SegmentRecord) → found.len < 2 ^ 40 → IsDoable t (mending_of t time kind outcome found)
  doable_mending kind (repairs.Mended mended) found short =
      doable_segment _ kind _ _ _ short (failed_can _ mended.plan.sources)
  doable_mending kind (repairs.Unmended unmended) found short =
      easy_doable (unrepaired t time kind unmended) ((tt, refl), ((tt, refl), easy-nodes t v _ (failed_can _ unmended.plan.sources)))

  doable_end_mending : (kind : ℕ) (opened : Option RepairPlan) (outcome : RepairOutcome) → IsDoable t (end_mending t time kind opened outcome)
  doable_end_mending kind opened outcome =
      unless-P (IsDoable t) (still t) (not (is_open same_repair opened (plan_of outcome))) (refusals.NoPlan (open_number (λ plan. plan.plan) opened)) (end_mending_at t time kind outcome (segment_at t.segments (plan_of outcome).segment.0)) (λ held.
      if_found-P (IsDoable t) (still t) (segment_at t.segments (plan_of outcome).segment.0) (superseded t time kind (plan_of outcome).version 0) _ (doable_superseded kind (plan_of outcome).version 0) (λ found is.
      if-P (IsDoable t) (still t) (found.version == (plan_of outcome).version) (mending_of t time kind outcome found) (superseded t time kind (plan_of outcome).version found.version) (doable_mending kind outcome found (found-short t v (plan_of outcome).segment.0 found is)) (doable_superseded kind (plan_of outcome).version found.version)))

  pub doable_end_repair : (outcome : RepairOutcome) → IsDoable t (end_repair t time outcome)
  doable_end_repair outcome = doable_end_mending kinds.REPAIR_PLAN t.repair outcome

  pub doable_end_exit : (outcome : RepairOutcome) → IsDoable t (end_exit t time outcome)
  doable_end_exit outcome = doable_end_mending kinds.EXIT_PLAN (open_move t) outcome

  -- ---- exits

  doable_exit_as : (node : Node) (status : Status) → node_at t.nodes node.id ≡ Some node → node.status ≡ status → IsDoable t (exit_as t time node status)
  doable_exit_as node Active at is =
      let stays = stays-counted t.nodes (record node { status = Exiting }) node at (ap is_counted is) in
      record { placeable = (tt, (node-placeable t v (record node { status = Exiting }) node at stays, tt)); orderly = refl }
  doable_exit_as node Exiting at is = still t (replies.Exiting node.id)
  doable_exit_as node Disqualified at is = still t (replies.Refused (refusals.NotServing (byte_of Disqualified)))
  doable_exit_as node Exited at is = still t (replies.Refused (refusals.NotServing (byte_of Exited)))

  pub doable_exit : (node : NodeId) → IsDoable t (exit t time node)
  doable_exit node =
      with_record-P (IsDoable t) (still t) (node_at t.nodes node) (refusals.NoNode node) _ (λ found at.
      doable_exit_as found found.status (ap (λ (k : ℕ). row_at node_rank t.nodes k) (rank-found node_rank t.nodes node.0 found at) ∙ at) refl)

  doable_node_exited : (node : Node) → node_at t.nodes node.id ≡ Some node → IsDoable t (node_exited t time node)
  doable_node_exited node at = record { placeable = (tt, (node-placeable t v (record node { status = Exited }) node at (λ lost. refl), (tt, tt))); orderly = refl }

  pub doable_plan_exit : (words : List ℕ) → IsDoable t (plan_exit t time words)
  doable_plan_exit words =
      with_record-P (IsDoable t) (still t) (picked (exiting_nodes t) (slice_index words 0)) refusals.NothingToExit (plan_exit_of t time (drop 1 words)) (λ node is.
      let kept = got-kept (λ (n : Node). is_exiting n.status) t.nodes node (slice_index words 0 % length (exiting_nodes t)) is in
      let at = found-got t.setup t.marks t.nodes 0 kept.1.0 node v.rules.nodes kept.1.1 in
      if_found-P (IsDoable t) (still t) (first_of (filter (is_movable t node.id) t.segments)) (node_exited t time node) (exit_segment t time (drop 1 words) node) (doable_node_exited node at) (λ found first_is.
      if_found-P (IsDoable t) (still t) (find (lies_on node.id) found.pieces) (node_exited t time node) (exit_from t time (drop 1 words) found (healthy_of t found)) (doable_node_exited node at) (λ leaving leaves.
      unless-P (IsDoable t) (still t) (has_no_plan t.marks) (refusals.TableFull names.Numbers)
      (exit_to t time found (healthy_of t found) leaving (first_of (picks_of (terms_beside t (healthy_of t found) found.len (drop 1 words)) 1 (t.setup.fresh / 100)))) (λ number.
      with_record-P (IsDoable t) (still t) (first_of (picks_of (terms_beside t (healthy_of t found) found.len (drop 1 words)) 1 (t.setup.fresh / 100))) (refusals.Few 0)
      (λ pick. exit_planned t time (record { leaving = leaving; plan = repair_of t time found (healthy_of t found) (target_at leaving pick ∷ []) }) (target_at leaving pick)) (λ pick picked_is.
      record { placeable = (tt, (tt, tt)); orderly = refl })))))
