-- From the plan of a repair or of a move to its end.
use Rattle.std.proofs.Common.{◌≡◌, ◌⊎◌, inl, inr, ℕ, suc, ◌+◌, ◌-◌, ◌/◌, ◌<◌, ◌≤◌, ◌^◌, Bool, true, false, not, List, [], ◌∷◌, length, Option, Some, None, min, refl, sym, ap, subst, ◌∙◌, arith}
use Rattle.std.specs.Prelude.{if◌then◌else◌, ◌==◌, ◌||◌, map, filter, find, slice_get, slice_index, take, drop}
use Rattle.std.specs.Option.{option_map}
use Rattle.std.proofs.lemmas.Bool.Decides.{nat_tests}
use Rattle.sat_base.specs.declared.kinds.TheConstants as kinds
use Rattle.sat_base.specs.declared.records.At.{At}
use Rattle.sat_base.specs.declared.records.Key.TheVariants as keys
use Rattle.rows.specs.Slots.{with_row}
use Rattle.node_registry.specs.declared.node.Node.{Node}
use Rattle.segment_core.specs.Record.{SegmentRecord, segment_rank}
use Rattle.segment_core.specs.Places.{index_of}
use Rattle.segment_core.specs.Commit.{is_among}
use Rattle.placement.specs.Eligible.{subnet_count}
use Rattle.placement.proofs.Picks.{got-kept}
use Rattle.repair_core.specs.declared.plan.RepairPlan.{RepairPlan}
use Rattle.repair_core.specs.declared.plan.ExitPlan.{ExitPlan}
use Rattle.repair_core.specs.declared.outcome.Mended.{Mended}
use Rattle.repair_core.specs.declared.outcome.RepairOutcome.TheVariants as repairs
use Rattle.machine_calls.specs.declared.call.Call.{Call}
use Rattle.machine_calls.specs.declared.call.Call.TheVariants as calls
use Rattle.machine_calls.specs.declared.task.Task.TheVariants as tasks
use Rattle.machine_calls.specs.declared.wish.Wish.TheVariants as wishes
use Rattle.machine_calls.specs.declared.change.RecChange.TheVariants as changes
use Rattle.machine_calls.specs.declared.reply.Reply.{Reply}
use Rattle.machine_calls.specs.declared.reply.Reply.TheVariants as replies
use Rattle.machine_calls.specs.declared.refusal.Refusal.TheVariants as refusals
use Rattle.machine_calls.specs.declared.refusal.TableName.TheVariants as names
use Rattle.machine_calls.specs.Replies.{is_lost}
use Rattle.machine_step.specs.Tables.{Tables, segment_at, all_changed}
use Rattle.machine_step.specs.Outcome.{Outcome, unless, with_record, if_found}
use Rattle.machine_step.specs.Places.{picks_of}
use Rattle.machine_step.specs.Containment.{has_piece}
use Rattle.machine_step.specs.Health.{healthy_of, healthy_count, picked, first_of}
use Rattle.machine_step.specs.Plans.{timed, has_no_plan}
use Rattle.machine_step.specs.Mending.{is_kept, kept_sources, placed_targets, mended_segment, failed, repair_ended, end_mending}
use Rattle.machine_step.specs.Step.{IsSchemeOf, IsWellFormed, risen, case_of, step, after}
use Rattle.machine_step.specs.Calls.PlanRepair.{needs_repair, to_repair, terms_beside, targets_for, repair_of, repair_planned, repair_from, plan_repair}
use Rattle.machine_step.specs.Calls.EndExit.{move_of, open_move}
use Rattle.machine_step.specs.Calls.PlanExit.{exiting_nodes, lies_on, is_movable, node_exited, target_at, exit_to, exit_from, exit_segment, plan_exit_of, plan_exit}
use Rattle.machine_step.specs.Bounds.{IsValid}
use Rattle.machine_step.proofs.RowLemmas.{row_at-with_row, rank-found, row_got}
use Rattle.machine_step.proofs.IndexLemmas.{rising-some}
use Rattle.machine_step.proofs.Drawn.{among-self}
use Rattle.machine_step.proofs.Touches.{segments-frame, of-nodes}
use Rattle.machine_step.proofs.MendFits.{enough_mended}
use Rattle.machine_step.proofs.MendFound.{IsMendable, mendable_repair, mendable_move, MendingEnds, mending_ends}
use Rattle.machine_step.proofs.MendFound.MendingEnds.{not_open, gone_end, superseded_end, ended}
use Rattle.machine_step.proofs.Calls.PlanRepair.{least-got}
use Rattle.machine_step.proofs.Calls.PlanExit.{first-got}
use Rattle.machine_history.specs.History.{Said, replay, IsLegal}
use Rattle.machine_plans.specs.Opened.{is_accepted, opened_repair, opened_exit, opened_move, at_place, WasOpened}
use Rattle.machine_plans.specs.Ends.{is_repair_ended, IsMended, IsRepaired, repair_end, move_end, WasRepaired}
use Rattle.machine_plans.proofs.Steps.{running, opened_in, after_running}
use Rattle.machine_plans.proofs.Trace.{was_opened}
use Rattle.machine_plans.proofs.Openings.{opens_repair, opens_exit}
use Rattle.machine_plans.proofs.Held.{repair_holds, exit_holds}
use Rattle.machine_plans.proofs.Places.{right_at, valid_at, next_at, get_take, legal_until, IsPlannedOn, same_at}
use Rattle.machine_plans.proofs.PutLemmas.{put-all, kept-all, all-put}
use Rattle.month_pay.proofs.ListFacts.{all-weaker}

-- ---- what an end makes

-- the segments behind the end
put_segments : (t : Tables) (time kind : ℕ) (mended : Mended) (found : SegmentRecord) → (all_changed t (repair_ended t time kind mended found).changes).segments ≡ with_row segment_rank t.segments (mended_segment found mended)
put_segments t time kind mended found =
    let nodes = failed t.nodes (λ source. not (is_kept mended source)) mended.plan.sources in
    segments-frame (3 ∷ []) (map changes.Node nodes) (all_changed t (changes.Marks (timed t.marks time) ∷ changes.Remove (keys.Plan kind) ∷ changes.Segment (mended_segment found mended) ∷ [])) (of-nodes (3 ∷ []) nodes refl) refl

module _ (t : Tables) (v : IsValid t) (time : ℕ) (le : t.marks.time ≤ time) (lt : time < 2 ^ 36) (kind : ℕ) (opened : Option RepairPlan) (mended : Mended) (scheme : IsSchemeOf t.setup mended.scheme)
    (mendable : opened ≡ Some mended.plan → IsMendable t opened mended.plan) (next : Tables)
    (segments : next.segments ≡ (all_changed t (end_mending t time kind opened (repairs.Mended mended)).changes).segments) where
  mended_at : (found : SegmentRecord) → opened ≡ Some mended.plan → segment_at t.segments mended.plan.segment.0 ≡ Some found → (found.version == mended.plan.version) ≡ true
      → end_mending t time kind opened (repairs.Mended mended) ≡ repair_ended t time kind mended found → IsMended t next mended
  mended_at found holds at version is =
      let m = mendable holds in
      let c = m.can found at version in
      let after_it = mended_segment found mended in
      let rows : next.segments ≡ with_row segment_rank t.segments after_it = segments ∙ ap (λ (o : Outcome). (all_changed t o.changes).segments) is ∙ put_segments t time kind mended found in
      let own : found.id.0 ≡ mended.plan.segment.0 = rank-found segment_rank t.segments mended.plan.segment.0 found at in
      let same : segment_at (with_row segment_rank t.segments after_it) mended.plan.segment.0 ≡ Some after_it = grind (arith, nat_tests, own, row_at-with_row segment_rank t.segments after_it mended.plan.segment.0) in
      let planned : found.version ≡ mended.plan.version = c.version in
      let good = λ (piece : At). has_piece (kept_sources mended) piece || has_piece (placed_targets mended) piece in
      let targets_rise = rising-some index_of (λ (target : At). is_among mended.placed target.index) mended.plan.targets m.targets in
      record {
        segment = found;
        at = at;
        planned = planned;
        sources = c.among;
        after = after_it;
        at_next = ap (λ (xs : List SegmentRecord). segment_at xs mended.plan.segment.0) rows ∙ same;
        version = ap (λ (n : ℕ). n + 1) planned;
        enough = enough_mended t v time le lt mended scheme;
        each = all-put good (placed_targets mended) (kept_sources mended)
            (all-weaker (λ place. has_piece (kept_sources mended) place) good (λ place h. grind (arith, h)) (kept_sources mended) (among-self (kept_sources mended)))
            (all-weaker (λ place. has_piece (placed_targets mended) place) good (λ place h. grind (arith, nat_tests, h)) (placed_targets mended) (among-self (placed_targets mended)));
        placed = put-all (placed_targets mended) (kept_sources mended) targets_rise;
        kept = kept-all (placed_targets mended) (kept_sources mended) (kept_sources mended) (among-self (kept_sources mended));
      }

  pub mended_is : is_repair_ended (end_mending t time kind opened (repairs.Mended mended)).reply ≡ true → IsMended t next mended
  mended_is h = go (mending_ends t time kind opened (repairs.Mended mended))
    where
      not_so : (o : Outcome) → end_mending t time kind opened (repairs.Mended mended) ≡ o → is_repair_ended o.reply ≡ false → ⊥
      not_so o is none = let bad : true ≡ false = sym h ∙ ap (λ (x : Outcome). is_repair_ended x.reply) is ∙ none in cc

      go : MendingEnds t time kind opened (repairs.Mended mended) → IsMended t next mended
      go (not_open is) = absurd (not_so _ is refl)
      go (gone_end holds at is) = absurd (not_so _ is refl)
      go (superseded_end holds found at other is) = absurd (not_so _ is refl)
      go (ended holds found at version is) = mended_at found holds at version is

-- a step that ends a repair or a move
module _ (t : Tables) (v : IsValid t) (now : ℕ) (mended : Mended) where
  pub mended_repair : IsWellFormed t (repair_end mended now) → is_repair_ended (step t (repair_end mended now)).reply ≡ true → IsMended t (after t (repair_end mended now)) mended
  mended_repair formed ends =
      let r = running t (repair_end mended now) is_repair_ended refl ends in
      mended_is t v (risen t now) (omega arith) (let lt = formed.formed.timely in let most = v.bounds.marks.time in omega (arith, lt, most)) kinds.REPAIR_PLAN t.repair mended formed.scheme (mendable_repair t v mended.plan)
      (after t (repair_end mended now)) (ap (λ (x : Tables). x.segments) (after_running t (repair_end mended now) r.0)) r.1

  pub mended_move : IsWellFormed t (move_end mended now) → is_repair_ended (step t (move_end mended now)).reply ≡ true → IsMended t (after t (move_end mended now)) mended
  mended_move formed ends =
      let r = running t (move_end mended now) is_repair_ended refl ends in
      mended_is t v (risen t now) (omega arith) (let lt = formed.formed.timely in let most = v.bounds.marks.time in omega (arith, lt, most)) kinds.EXIT_PLAN (open_move t) mended formed.scheme (mendable_move t v mended.plan)
      (after t (move_end mended now)) (ap (λ (x : Tables). x.segments) (after_running t (move_end mended now) r.0)) r.1

-- ---- what a plan finds

found_by : (t : Tables) (v : IsValid t) (test : SegmentRecord → Bool) (place : ℕ) (segment : SegmentRecord) → slice_get (filter test t.segments) place ≡ Some segment → segment_at t.segments segment.id.0 ≡ Some segment
found_by t v test place segment is =
    let kept = got-kept test t.segments segment place is in
    row_got segment_rank t.segments v.order.segments kept.1.0 segment kept.1.1

abbrev On : Tables → RepairPlan → Type 0
On t plan = IsPlannedOn t plan.segment.0 plan.version

repair_found : (t : Tables) (v : IsValid t) (time : ℕ) (words : List ℕ) (plan : RepairPlan) → opened_repair (plan_repair t time words).reply ≡ Some plan → On t plan
repair_found t v time words plan h = go (to_repair t) refl h
  where
    counted : (segment : SegmentRecord) → to_repair t ≡ Some segment → (need : ℕ) (a b : Bool)
        → opened_repair (unless a (refusals.TableFull names.Numbers) (unless b (refusals.Few 0) (repair_planned t time (repair_of t time segment (healthy_of t segment) (targets_for t (healthy_of t segment) segment.len words need))))).reply ≡ Some plan → On t plan
    counted segment is need true b h = absurd cc
    counted segment is need false true h = absurd cc
    counted segment is need false false h =
        let got = least-got (healthy_count t) (filter (needs_repair t) t.segments) segment is in
        let same : repair_of t time segment (healthy_of t segment) (targets_for t (healthy_of t segment) segment.len words need) ≡ plan = cc in
        subst (λ (p : RepairPlan). On t p) same (record { segment = segment; at = found_by t v (needs_repair t) got.0 segment got.1; in_version = refl })

    go : (found : Option SegmentRecord) → to_repair t ≡ found → opened_repair (with_record found refusals.NothingToRepair (λ segment. repair_from t time words segment (healthy_of t segment))).reply ≡ Some plan → On t plan
    go None is h = absurd cc
    go (Some segment) is h =
        let need = min (t.setup.o - length (healthy_of t segment)) (subnet_count (terms_beside t (healthy_of t segment) segment.len words)) in
        counted segment is need (has_no_plan t.marks) (need == 0) h

exit_found : (t : Tables) (v : IsValid t) (time : ℕ) (words : List ℕ) (plan : RepairPlan) → opened_move (plan_exit t time words).reply ≡ Some plan → On t plan
exit_found t v time words plan h = go (picked (exiting_nodes t) (slice_index words 0)) h
  where
    to_pick : (node : Node) (segment : SegmentRecord) (leaving : At) → first_of (filter (is_movable t node.id) t.segments) ≡ Some segment → (b : Bool) (pick : Option Node)
        → opened_move (unless b (refusals.TableFull names.Numbers) (exit_to t time segment (healthy_of t segment) leaving pick)).reply ≡ Some plan → On t plan
    to_pick node segment leaving is true pick h = absurd cc
    to_pick node segment leaving is false None h = absurd cc
    to_pick node segment leaving is false (Some pick) h =
        let got = first-got (filter (is_movable t node.id) t.segments) segment is in
        let same : repair_of t time segment (healthy_of t segment) (target_at leaving pick ∷ []) ≡ plan = cc in
        subst (λ (p : RepairPlan). On t p) same (record { segment = segment; at = found_by t v (is_movable t node.id) got.0 segment got.1; in_version = refl })

    leaves : (node : Node) (segment : SegmentRecord) → first_of (filter (is_movable t node.id) t.segments) ≡ Some segment → (leaving : Option At)
        → opened_move (if_found leaving (node_exited t time node) (exit_from t time (drop 1 words) segment (healthy_of t segment))).reply ≡ Some plan → On t plan
    leaves node segment is None h = absurd cc
    leaves node segment is (Some leaving) h = to_pick node segment leaving is (has_no_plan t.marks) (first_of (picks_of (terms_beside t (healthy_of t segment) segment.len (drop 1 words)) 1 (t.setup.fresh / 100))) h

    moves : (node : Node) (segment : Option SegmentRecord) → first_of (filter (is_movable t node.id) t.segments) ≡ segment
        → opened_move (if_found segment (node_exited t time node) (exit_segment t time (drop 1 words) node)).reply ≡ Some plan → On t plan
    moves node None is h = absurd cc
    moves node (Some segment) is h = leaves node segment is (find (lies_on node.id) segment.pieces) h

    go : (node : Option Node) → opened_move (with_record node refusals.NothingToExit (plan_exit_of t time (drop 1 words))).reply ≡ Some plan → On t plan
    go None h = absurd cc
    go (Some node) h = moves node (first_of (filter (is_movable t node.id) t.segments)) refl h

repair_any : (t : Tables) (v : IsValid t) (call : Call) (plan : RepairPlan) → opened_repair (case_of t call).reply ≡ Some plan → On t plan
repair_any t v (calls.Own now (tasks.PlanRepair words)) plan h = repair_found t v (risen t now) words plan h
repair_any t v (calls.Asked now words wishes.Stop) plan h = absurd (let none : ⊥ = grind (arith, nat_tests, h) in none)
repair_any t v call plan h = absurd (let none : ⊥ = grind (arith, nat_tests, h) in none)

move_any : (t : Tables) (v : IsValid t) (call : Call) (plan : RepairPlan) → opened_move (case_of t call).reply ≡ Some plan → On t plan
move_any t v (calls.Own now (tasks.PlanExit words)) plan h = exit_found t v (risen t now) words plan h
move_any t v (calls.Asked now words wishes.Stop) plan h = absurd (let none : ⊥ = grind (arith, nat_tests, h) in none)
move_any t v call plan h = absurd (let none : ⊥ = grind (arith, nat_tests, h) in none)

-- ---- from the one to the other

pub ended_none : (reply : Reply) → is_repair_ended reply ≡ true → is_lost reply ≡ false
ended_none (replies.StoreFault before after) is = cc
ended_none replies.NoMemory is = cc
ended_none _ is = refl

repair_none : (reply : Reply) (plan : RepairPlan) → opened_repair reply ≡ Some plan → is_lost reply ≡ false
repair_none (replies.StoreFault before after) plan is = cc
repair_none replies.NoMemory plan is = cc
repair_none _ plan is = refl

move_none : (reply : Reply) (plan : RepairPlan) → opened_move reply ≡ Some plan → is_lost reply ≡ false
move_none (replies.StoreFault before after) plan is = cc
move_none replies.NoMemory plan is = cc
move_none _ plan is = refl

-- a kind of repair: how its plan is opened, and how it ends
module _ (opened : Reply → Option RepairPlan) (end : Mended → ℕ → Call) (stopped : opened (replies.Refused refusals.Stopped) ≡ None)
    (any : (t : Tables) (v : IsValid t) (call : Call) (plan : RepairPlan) → opened (case_of t call).reply ≡ Some plan → On t plan)
    (made : (t : Tables) (v : IsValid t) (now : ℕ) (mended : Mended) → IsWellFormed t (end mended now) → is_repair_ended (step t (end mended now)).reply ≡ true → IsMended t (after t (end mended now)) mended)
    (kept : (reply : Reply) (plan : RepairPlan) → opened reply ≡ Some plan → is_lost reply ≡ false) where
  pub repair_places : (t : Tables) (h : List Said) (i j : ℕ) (planned said : Said) (now : ℕ) (mended : Mended) → IsValid t → IsLegal t h → i < j → slice_get h i ≡ Some planned → slice_get h j ≡ Some said
      → opened planned.reply ≡ Some mended.plan → said.call ≡ end mended now → is_repair_ended said.reply ≡ true → IsRepaired (at_place t h i) (at_place t h j) (at_place t h (j + 1)) mended
  repair_places t h i j planned said now mended v legal less at_i at_j opens is ends =
      let start = at_place t h i in
      let finish = at_place t h j in
      let v1 = valid_at h i t v legal in
      let v2 = valid_at h j t v legal in
      let right = right_at h i planned t legal at_i in
      let right2 = right_at h j said t legal at_j in
      let lost = ended_none said.reply ends in
      let answer : opened (step start planned.call).reply ≡ Some mended.plan = ap opened (sym (right.answer (kept planned.reply mended.plan opens))) ∙ opens in
      let first = any start v1 planned.call mended.plan (opened_in start planned.call opened mended.plan stopped answer) in
      let answer2 : is_repair_ended (step finish (end mended now)).reply ≡ true = ap (λ (c : Call). is_repair_ended (step finish c).reply) (sym is) ∙ ap is_repair_ended (sym (right2.answer lost)) ∙ ends in
      let m = made finish v2 now mended (subst (IsWellFormed finish) is right2.formed) answer2 in
      let last : On finish mended.plan = record { segment = m.segment; at = m.at; in_version = m.planned } in
      let next : at_place t h (suc j) ≡ after finish (end mended now)
      = next_at h j said t at_j ∙ ap (λ (b : Bool). if b then finish else after finish said.call) lost ∙ ap (after finish) is in
      let one : suc j ≡ j + 1 = omega arith in
      record {
        same = same_at h i j t v legal (omega (arith, less)) mended.plan.segment.0 mended.plan.version first last;
        made = subst (λ (k : ℕ). IsMended finish (at_place t h k) mended) one (subst (λ (x : Tables). IsMended finish x mended) (sym next) m);
      }

  was_repaired : (t : Tables) (h : List Said) (j : ℕ) (said : Said) (now : ℕ) (mended : Mended) → IsValid t → IsLegal t h → slice_get h j ≡ Some said → said.call ≡ end mended now → is_repair_ended said.reply ≡ true
      → WasOpened opened (take j h) mended.plan → WasRepaired opened t h j mended
  was_repaired t h j said now mended v legal at is ends w =
      let there = get_take h w.place j w.said w.there in
      record {
        place = w.place;
        earlier = there.0;
        said = w.said;
        there = there.1;
        answer = w.answer;
        repaired = repair_places t h w.place j w.said said now mended v legal there.0 there.1 at w.answer is ends;
      }

  -- each end, where what is open was open at the beginning or was opened
  pub each_repaired : (held : Tables → Option RepairPlan) → ((h : List Said) (t : Tables) (plan : RepairPlan) → IsLegal t h → held (replay t h) ≡ Some plan → (held t ≡ Some plan) ⊎ WasOpened opened h plan)
      → ((t : Tables) (now : ℕ) (mended : Mended) → is_repair_ended (step t (end mended now)).reply ≡ true → held t ≡ Some mended.plan)
      → (t : Tables) (h : List Said) (j : ℕ) (said : Said) (now : ℕ) (mended : Mended) → IsValid t → IsLegal t h → slice_get h j ≡ Some said → said.call ≡ end mended now
      → is_repair_ended said.reply ≡ true → (held t ≡ Some mended.plan) ⊎ WasRepaired opened t h j mended
  each_repaired held traced holds t h j said now mended v legal at is ends =
      let finish = at_place t h j in
      let right = right_at h j said t legal at in
      let answer : is_repair_ended (step finish (end mended now)).reply ≡ true = ap (λ (c : Call). is_repair_ended (step finish c).reply) (sym is) ∙ ap is_repair_ended (sym (right.answer (ended_none said.reply ends))) ∙ ends in
      elim (traced (take j h) t mended.plan (legal_until h j t legal) (holds finish now mended answer)) [
        | inl first ↦ inl first
        | inr w ↦ inr (was_repaired t h j said now mended v legal at is ends w)
      ]

pub accepts : (reply : Reply) → is_repair_ended reply ≡ true → is_accepted reply ≡ true
accepts (replies.RepairEnded version) is = refl
accepts _ is = cc

pub repairs_places : (t : Tables) (h : List Said) (i j : ℕ) (planned said : Said) (now : ℕ) (mended : Mended) → IsValid t → IsLegal t h → i < j → slice_get h i ≡ Some planned → slice_get h j ≡ Some said
    → opened_repair planned.reply ≡ Some mended.plan → said.call ≡ repair_end mended now → is_repair_ended said.reply ≡ true → IsRepaired (at_place t h i) (at_place t h j) (at_place t h (j + 1)) mended
repairs_places = repair_places opened_repair repair_end refl repair_any mended_repair repair_none

pub moves_places : (t : Tables) (h : List Said) (i j : ℕ) (planned said : Said) (now : ℕ) (mended : Mended) → IsValid t → IsLegal t h → i < j → slice_get h i ≡ Some planned → slice_get h j ≡ Some said
    → opened_move planned.reply ≡ Some mended.plan → said.call ≡ move_end mended now → is_repair_ended said.reply ≡ true → IsRepaired (at_place t h i) (at_place t h j) (at_place t h (j + 1)) mended
moves_places = repair_places opened_move move_end refl move_any mended_move move_none

pub each_repair : (t : Tables) (h : List Said) (j : ℕ) (said : Said) (now : ℕ) (mended : Mended) → IsValid t → IsLegal t h → slice_get h j ≡ Some said → said.call ≡ repair_end mended now
    → is_repair_ended said.reply ≡ true → (t.repair ≡ Some mended.plan) ⊎ WasRepaired opened_repair t h j mended
each_repair =
    each_repaired opened_repair repair_end refl repair_any mended_repair repair_none (λ t. t.repair) (was_opened (λ (x : Tables). x.repair) opened_repair (λ x rows stopped. refl) opens_repair)
    (λ t now mended ends. repair_holds t now (repairs.Mended mended) (accepts (step t (repair_end mended now)).reply ends))

-- a move that is open is that of an open exit plan
move_traced : (h : List Said) (t : Tables) (plan : RepairPlan) → IsLegal t h → open_move (replay t h) ≡ Some plan → (open_move t ≡ Some plan) ⊎ WasOpened opened_move h plan
move_traced h t plan legal is = go (replay t h).exit refl is
  where
    go : (exit : Option ExitPlan) → (replay t h).exit ≡ exit → option_map move_of exit ≡ Some plan → (open_move t ≡ Some plan) ⊎ WasOpened opened_move h plan
    go None at is = absurd cc
    go (Some exit) at is = elim (was_opened (λ (x : Tables). x.exit) opened_exit (λ x rows stopped. refl) opens_exit h t exit legal at) [
      | inl first ↦ inl (ap (option_map move_of) first ∙ is)
      | inr w ↦ inr (record { place = w.place; said = w.said; there = w.there; answer = ap (option_map move_of) w.answer ∙ is })
    ]

pub each_move : (t : Tables) (h : List Said) (j : ℕ) (said : Said) (now : ℕ) (mended : Mended) → IsValid t → IsLegal t h → slice_get h j ≡ Some said → said.call ≡ move_end mended now
    → is_repair_ended said.reply ≡ true → (open_move t ≡ Some mended.plan) ⊎ WasRepaired opened_move t h j mended
each_move =
    each_repaired opened_move move_end refl move_any mended_move move_none open_move move_traced
    (λ t now mended ends. exit_holds t now (repairs.Mended mended) (accepts (step t (move_end mended now)).reply ends))
