-- Planned moves of pieces of nodes that leave.
use Rattle.std.proofs.Common.{◌≡◌, ℕ, ◌/◌, ◌<◌, Bool, true, false, List, [], ◌∷◌, Option, Some, None, refl, sym, ap, subst, ◌∙◌, arith}
use Rattle.std.specs.Prelude.{All, drop, filter, find, slice_index}
use Rattle.std.proofs.lemmas.List.Elements.{All-nil, All-cons}
use Rattle.sat_base.specs.declared.records.At.{At}
use Rattle.sat_base.specs.declared.requests.Place.{Place}
use Rattle.sat_base.specs.declared.scheme.Scheme.{Scheme}
use Rattle.node_registry.specs.declared.node.Node.{Node}
use Rattle.segment_core.specs.Health.{is_healthy}
use Rattle.segment_core.specs.Record.{SegmentRecord, segment_rank}
use Rattle.placement.proofs.Picks.{got-kept}
use Rattle.repair_core.specs.declared.plan.ExitPlan.{ExitPlan}
use Rattle.machine_calls.specs.declared.call.Call.TheVariants as calls
use Rattle.machine_calls.specs.declared.task.Task.TheVariants as tasks
use Rattle.machine_calls.specs.declared.refusal.Refusal.TheVariants as refusals
use Rattle.machine_calls.specs.declared.refusal.TableName.TheVariants as names
use Rattle.machine_calls.specs.declared.reply.Reply.TheVariants as replies
use Rattle.machine_step.specs.Bounds.{IsValid}
use Rattle.machine_step.specs.Calls.PlanExit.{exit_from, exit_planned, exit_segment, exit_to, exiting_nodes, is_movable, lies_on, node_exited, plan_exit, plan_exit_of, target_at}
use Rattle.machine_step.specs.Calls.PlanRepair.{repair_of, terms_beside}
use Rattle.machine_step.specs.Health.{first_of, healthy_of, picked}
use Rattle.machine_step.specs.Outcome.{if_found, unless, with_record}
use Rattle.machine_step.specs.Places.{picks_of, place_at, places_of}
use Rattle.machine_step.specs.Plans.{has_no_plan}
use Rattle.machine_step.specs.Rules.{are_below}
use Rattle.machine_step.specs.Step.{IsSchemeOf, risen, step}
use Rattle.machine_step.specs.Tables.{Tables, segment_at}
use Rattle.machine_step.proofs.Calls.PlanExit.{first-got}
use Rattle.machine_step.proofs.Fits.{fine_found}
use Rattle.machine_step.proofs.RowLemmas.{row_got}
use Rattle.askable_plans.specs.Askable.{IsRepairable}
use Rattle.askable_plans.proofs.Audits.{case_reply}
use Rattle.askable_plans.proofs.Pieces.{find_below, pieces_are, rises_at, sized, some_below, some_rise}

module _ (t : Tables) (v : IsValid t) (scheme : Scheme) (own : IsSchemeOf t.setup scheme) (time : ℕ) where
  abbrev move_of : SegmentRecord → At → Node → ExitPlan
  move_of segment leaving pick = record { leaving = leaving; plan = repair_of t time segment (healthy_of t segment) (target_at leaving pick ∷ []) }

  move_fits : (node pick : Node) (segment : SegmentRecord) (leaving : At) → segment_at t.segments segment.id.0 ≡ Some segment → find (lies_on node.id) segment.pieces ≡ Some leaving
      → IsRepairable scheme (move_of segment leaving pick).plan (places_of t.nodes (healthy_of t segment)) (place_at t.nodes (target_at leaving pick) ∷ [])
  move_fits node pick segment leaving at leaves =
      let low : leaving.index < t.setup.n = find_below t.setup.n (lies_on node.id) segment.pieces leaving leaves (fine_found t v segment.id.0 segment at).indexed in
      record {
        sources_are = pieces_are t.nodes (healthy_of t segment);
        targets_are = refl;
        len = (sized t v segment.id.0 segment at).few;
        sources_rise = some_rise t v (is_healthy t.nodes) segment.id.0 segment at;
        sources_below = some_below t v scheme own (is_healthy t.nodes) segment.id.0 segment at;
        targets_rise = rises_at (target_at leaving pick ∷ []) (tt, tt);
        targets_below = All-cons (λ i. i < scheme.n) leaving.index [] (omega (arith, low, own.n)) (All-nil (λ i. i < scheme.n));
      }

  move_case : (words : List ℕ) (exit : ExitPlan) (sources : List Place) (target : Place) → (plan_exit t time words).reply ≡ replies.ExitPlanned exit sources target → IsRepairable scheme exit.plan sources (target ∷ [])
  move_case words exit sources target h = of_node (picked (exiting_nodes t) (slice_index words 0)) h
    where
      to_pick : (node : Node) (segment : SegmentRecord) (leaving : At) → segment_at t.segments segment.id.0 ≡ Some segment → find (lies_on node.id) segment.pieces ≡ Some leaving → (pick : Option Node)
          → (exit_to t time segment (healthy_of t segment) leaving pick).reply ≡ replies.ExitPlanned exit sources target → IsRepairable scheme exit.plan sources (target ∷ [])
      to_pick node segment leaving at leaves None h = absurd cc
      to_pick node segment leaving at leaves (Some pick) h =
          let same : move_of segment leaving pick ≡ exit = cc in
          let from : places_of t.nodes (healthy_of t segment) ≡ sources = cc in
          let to : place_at t.nodes (target_at leaving pick) ≡ target = cc in
          subst (λ (z : ExitPlan × List Place × Place). IsRepairable scheme z.0.plan z.1 (z.2 ∷ [])) (λ i. (same i, from i, to i)) (move_fits node pick segment leaving at leaves)

      numbered : (node : Node) (segment : SegmentRecord) (leaving : At) → segment_at t.segments segment.id.0 ≡ Some segment → find (lies_on node.id) segment.pieces ≡ Some leaving → (b : Bool) (pick : Option Node)
          → (unless b (refusals.TableFull names.Numbers) (exit_to t time segment (healthy_of t segment) leaving pick)).reply ≡ replies.ExitPlanned exit sources target → IsRepairable scheme exit.plan sources (target ∷ [])
      numbered node segment leaving at leaves true pick h = absurd cc
      numbered node segment leaving at leaves false pick h = to_pick node segment leaving at leaves pick h

      of_piece : (node : Node) (segment : SegmentRecord) (words : List ℕ) → segment_at t.segments segment.id.0 ≡ Some segment → (found : Option At) → find (lies_on node.id) segment.pieces ≡ found
          → (if_found found (node_exited t time node) (exit_from t time words segment (healthy_of t segment))).reply ≡ replies.ExitPlanned exit sources target → IsRepairable scheme exit.plan sources (target ∷ [])
      of_piece node segment words at None leaves h = absurd cc
      of_piece node segment words at (Some leaving) leaves h =
          numbered node segment leaving at leaves (has_no_plan t.marks) (first_of (picks_of (terms_beside t (healthy_of t segment) segment.len words) 1 (t.setup.fresh / 100))) h

      of_segment : (node : Node) (words : List ℕ) (found : Option SegmentRecord) → first_of (filter (is_movable t node.id) t.segments) ≡ found
          → (if_found found (node_exited t time node) (exit_segment t time words node)).reply ≡ replies.ExitPlanned exit sources target → IsRepairable scheme exit.plan sources (target ∷ [])
      of_segment node words None is h = absurd cc
      of_segment node words (Some segment) is h =
          let got = first-got (filter (is_movable t node.id) t.segments) segment is in
          let kept = got-kept (is_movable t node.id) t.segments segment got.0 got.1 in
          let at = row_got segment_rank t.segments v.order.segments kept.1.0 segment kept.1.1 in
          of_piece node segment words at (find (lies_on node.id) segment.pieces) refl h

      of_node : (found : Option Node) → (with_record found refusals.NothingToExit (plan_exit_of t time (drop 1 words))).reply ≡ replies.ExitPlanned exit sources target → IsRepairable scheme exit.plan sources (target ∷ [])
      of_node None h = absurd cc
      of_node (Some node) h = of_segment node (drop 1 words) (first_of (filter (is_movable t node.id) t.segments)) refl h

pub move_askable : (t : Tables) (scheme : Scheme) (now : ℕ) (words : List ℕ) (exit : ExitPlan) (sources : List Place) (target : Place) → IsValid t → IsSchemeOf t.setup scheme
    → (step t (calls.Own now (tasks.PlanExit words))).reply ≡ replies.ExitPlanned exit sources target → IsRepairable scheme exit.plan sources (target ∷ [])
move_askable t scheme now words exit sources target v own h =
    move_case t v scheme own (risen t now) words exit sources target (case_reply t (calls.Own now (tasks.PlanExit words)) (replies.ExitPlanned exit sources target) (λ e. cc) h)
