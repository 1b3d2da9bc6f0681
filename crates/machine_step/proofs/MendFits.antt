-- What the end of a repair or of a move changes fits.
use Rattle.std.proofs.Common.{◌≡◌, ℕ, suc, ◌<◌, ◌≤◌, ◌^◌, Bool, true, false, not, List, [], ◌∷◌, ◌++◌, length, Option, Some, None, IfSome, is_some, refl, ap, subst, ◌∙◌, arith}
use Rattle.std.specs.Prelude.{if◌then◌else◌, nat_lt, ◌==◌, ◌&&◌, filter}
use Rattle.std.proofs.lemmas.Bool.Decides.{nat_tests}
use Rattle.sat_base.specs.declared.records.At.{At}
use Rattle.sat_base.specs.declared.records.Key.TheVariants as keys
use Rattle.node_registry.specs.declared.node.Node.{Node}
use Rattle.node_registry.specs.declared.reputation.Outcome.TheVariants.{Fail}
use Rattle.node_registry.specs.Registry.{node_at}
use Rattle.segment_core.specs.Record.{SegmentRecord, segment_rank}
use Rattle.segment_core.specs.Places.{IsByIndex}
use Rattle.segment_core.specs.Commit.{is_among}
use Rattle.repair_core.specs.Indexes.{others, has_index, place_indexes}
use Rattle.repair_core.specs.declared.plan.RepairPlan.{RepairPlan}
use Rattle.repair_core.specs.declared.plan.ExitPlan.{ExitPlan}
use Rattle.repair_core.specs.declared.outcome.Mended.{Mended}
use Rattle.repair_core.specs.declared.outcome.Unmended.{Unmended}
use Rattle.repair_core.specs.declared.outcome.RepairOutcome.{RepairOutcome}
use Rattle.repair_core.specs.declared.outcome.RepairOutcome.TheVariants as repairs
use Rattle.machine_calls.specs.declared.change.RecChange.TheVariants as changes
use Rattle.machine_calls.specs.declared.refusal.Refusal.TheVariants as refusals
use Rattle.machine_step.specs.Tables.{Tables, segment_at, all_changed}
use Rattle.machine_step.specs.Health.{after_outcome, are_among}
use Rattle.machine_step.specs.Containment.{has_piece}
use Rattle.machine_step.specs.Places.{subnets_of}
use Rattle.machine_step.specs.Plans.{timed, same_repair, is_open, open_number, superseded}
use Rattle.machine_step.specs.Step.{IsSchemeOf, IsMendedBy}
use Rattle.machine_step.specs.Writable.{IsPlanKind}
use Rattle.machine_step.specs.Mending.{plan_of, is_kept, kept_sources, placed_targets, mended_pieces, mended_segment, failed, repair_ended, unrepaired, mending_of, end_mending_at, end_mending}
use Rattle.machine_step.specs.Rules.{are_known, are_apart, are_below, is_sound_version, is_sound_segment}
use Rattle.machine_step.specs.PlanRules.{is_planned_of, is_none_or, is_whole_repair_of, is_sound_repair, is_target_of, is_move_of, is_sound_exit}
use Rattle.machine_step.specs.Bounds.{Each, IsRepairWithin, IsExitWithin, IsValid}
use Rattle.machine_step.proofs.Outcomes.{unless-P, if_found-P}
use Rattle.machine_step.proofs.RowLemmas.{rank-found, length-replaced}
use Rattle.machine_step.proofs.GrowthLemmas.{sound-fine}
use Rattle.machine_step.proofs.SegmentLemmas.{IsNext, segments_set}
use Rattle.machine_step.proofs.PlanLemmas.{known-among}
use Rattle.machine_step.proofs.IndexLemmas.{by_index-rising, rising-by_index, few-pieces}
use Rattle.machine_step.proofs.ApartLemmas.{apart-among, below-among}
use Rattle.machine_step.proofs.TargetLemmas.{AreWell, AreOpen, well-put, longer-put, well-filtered, open-filtered, open-targets}
use Rattle.machine_step.proofs.SameLemmas.{same-repair, open-is}
use Rattle.machine_step.proofs.Validity.{segments_hold}
use Rattle.machine_step.proofs.Fits.{After, still, fitting, fine_found, timed_fit}
use Rattle.machine_step.proofs.Paid.{IsStill, paid_nodes}
use Rattle.machine_step.proofs.Batches.{CanUpdate, fit-nodes, each-mapped}
use Rattle.machine_step.proofs.Rated.{can-outcome, still-outcome}
use Rattle.machine_step.proofs.Drawn.{fit_superseded}

kept-others : (sources : List At) (first second : List ℕ) → length (others (place_indexes sources) first second) ≡ length (filter (λ source. not (has_index first source.index) && not (has_index second source.index)) sources)
kept-others [] first second = refl
kept-others (source ∷ sources) first second = go (not (has_index first source.index) && not (has_index second source.index)) (kept-others sources first second)
  where
    go : (b : Bool) → length (others (place_indexes sources) first second) ≡ length (filter (λ source. not (has_index first source.index) && not (has_index second source.index)) sources)
        → length (if b then source.index ∷ others (place_indexes sources) first second else others (place_indexes sources) first second)
        ≡ length (if b then source ∷ filter (λ source. not (has_index first source.index) && not (has_index second source.index)) sources else filter (λ source. not (has_index first source.index) && not (has_index second source.index)) sources)
    go true ih = ap suc ih
    go false ih = ih

-- a plan whose segment is there in the planned version, and whose targets may be put among its sources
pub record CanMend (t : Tables) (plan : RepairPlan) (found : SegmentRecord) : Type 0 where
  pub at : segment_at t.segments plan.segment.0 ≡ Some found
  pub version : found.version ≡ plan.version
  pub live : 1 ≤ plan.version
  pub later : plan.version < t.marks.plan
  pub sources : AreWell t.nodes t.setup.n plan.sources
  pub among : are_among found.pieces plan.sources ≡ true
  pub targets : AreOpen t.nodes t.setup.n plan.sources plan.targets

module _ (t : Tables) (v : IsValid t) where
  -- sources that are pieces of a segment
  well-sources : (id : ℕ) (found : SegmentRecord) (sources : List At) → segment_at t.segments id ≡ Some found → IsByIndex sources → are_among found.pieces sources ≡ true → AreWell t.nodes t.setup.n sources
  well-sources id found sources at by among =
      let f = fine_found t v id found at in
      record {
        rising = rising-by_index sources by;
        known = known-among t.nodes found.pieces sources f.known among;
        below = below-among t.setup.n found.pieces sources f.indexed among;
        apart = apart-among t.nodes found.pieces sources f.apart among (rising-by_index sources by);
      }

  -- the open repair
  pub repair_can : (plan : RepairPlan) (found : SegmentRecord) → t.repair ≡ Some plan → segment_at t.segments plan.segment.0 ≡ Some found → (found.version == plan.version) ≡ true → CanMend t plan found
  repair_can plan found opened at version =
      let sound : is_sound_repair t.setup t.marks t.nodes t.segments plan ≡ true = subst (λ (o : Option RepairPlan). is_none_or (is_sound_repair t.setup t.marks t.nodes t.segments) o ≡ true) opened v.rules.repair in
      let within : IsRepairWithin plan = subst (λ (o : Option RepairPlan). IfSome o IsRepairWithin) opened v.bounds.repair in
      let planned : is_planned_of (segment_at t.segments plan.segment.0) plan.version (is_whole_repair_of t.setup t.nodes plan) ≡ true = grind (arith, nat_tests, sound) in
      let here : is_planned_of (Some found) plan.version (is_whole_repair_of t.setup t.nodes plan) ≡ true = subst (λ (o : Option SegmentRecord). is_planned_of o plan.version (is_whole_repair_of t.setup t.nodes plan) ≡ true) at planned in
      let whole : is_whole_repair_of t.setup t.nodes plan found ≡ true = grind (arith, nat_tests, here, version) in
      let among : are_among found.pieces plan.sources ≡ true = grind (arith, nat_tests, whole) in
      let known : are_known t.nodes plan.targets ≡ true = grind (arith, nat_tests, whole) in
      let below : are_below t.setup.n plan.targets ≡ true = grind (arith, nat_tests, whole) in
      let apart : are_apart (subnets_of t.nodes (plan.sources ++ plan.targets)) ≡ true = grind (arith, nat_tests, whole) in
      record {
        at = at;
        version = grind (arith, nat_tests, version);
        live = grind (arith, nat_tests, sound);
        later = grind (arith, nat_tests, sound);
        sources = well-sources plan.segment.0 found plan.sources at within.sources.by_index among;
        among = among;
        targets = open-targets t.nodes t.setup.n plan.sources plan.targets known below apart;
      }

  -- the open move: its target has the index of a source
  target-open : (leaving : At) (sources targets : List At) → has_piece sources leaving ≡ true → are_below t.setup.n sources ≡ true → is_target_of t.nodes leaving sources targets ≡ true → AreOpen t.nodes t.setup.n sources targets
  target-open leaving sources [] has below sound = cc
  target-open leaving sources (target ∷ []) has below sound =
      let same : target.index ≡ leaving.index = grind (arith, nat_tests, sound) in
      let own : nat_lt leaving.index t.setup.n ≡ true = below-one sources has below in
      (grind (arith, nat_tests, sound), (rw same own), grind (arith, nat_tests, sound), refl, tt)
    where
      below-one : (xs : List At) → has_piece xs leaving ≡ true → are_below t.setup.n xs ≡ true → nat_lt leaving.index t.setup.n ≡ true
      below-one [] has below = cc
      below-one (x ∷ xs) has below = grind (arith, nat_tests, has, below, below-one xs)
  target-open leaving sources (target ∷ other ∷ rest) has below sound = cc

  pub exit_can : (exit : ExitPlan) (found : SegmentRecord) → t.exit ≡ Some exit → segment_at t.segments exit.plan.segment.0 ≡ Some found → (found.version == exit.plan.version) ≡ true → CanMend t exit.plan found
  exit_can exit found opened at version =
      let plan = exit.plan in
      let sound : is_sound_exit t.setup t.marks t.nodes t.segments exit ≡ true = subst (λ (o : Option ExitPlan). is_none_or (is_sound_exit t.setup t.marks t.nodes t.segments) o ≡ true) opened v.rules.exit in
      let within : IsRepairWithin exit.plan = subst (λ (o : Option ExitPlan). IfSome o IsExitWithin) opened v.bounds.exit in
      let planned : is_planned_of (segment_at t.segments exit.plan.segment.0) exit.plan.version (is_move_of exit) ≡ true = grind (arith, nat_tests, sound) in
      let here : is_planned_of (Some found) exit.plan.version (is_move_of exit) ≡ true = subst (λ (o : Option SegmentRecord). is_planned_of o exit.plan.version (is_move_of exit) ≡ true) at planned in
      let move : is_move_of exit found ≡ true = grind (arith, nat_tests, here, version) in
      let among : are_among found.pieces exit.plan.sources ≡ true = grind (arith, nat_tests, move) in
      let leaving : has_piece exit.plan.sources exit.leaving ≡ true = grind (arith, nat_tests, move) in
      let target : is_target_of t.nodes exit.leaving exit.plan.sources exit.plan.targets ≡ true = grind (arith, nat_tests, sound) in
      let well = well-sources exit.plan.segment.0 found exit.plan.sources at within.sources.by_index among in
      record {
        at = at;
        version = grind (arith, nat_tests, version);
        live = grind (arith, nat_tests, sound);
        later = grind (arith, nat_tests, sound);
        sources = well;
        among = among;
        targets = target-open exit.leaving exit.plan.sources exit.plan.targets leaving well.below target;
      }

module _ (t : Tables) (v : IsValid t) (time : ℕ) (le : t.marks.time ≤ time) (lt : time < 2 ^ 36) where
  fit-failed : (has : At → Bool) (sources : List At) → Each (CanUpdate t.nodes) (failed t.nodes has sources)
  fit-failed has sources = each-mapped (CanUpdate t.nodes) (λ source. if has source then after_outcome (node_at t.nodes source.node) Fail else None) sources (λ source n is. one source n (has source) is)
    where
      one : (source : At) (n : Node) (b : Bool) → (if b then after_outcome (node_at t.nodes source.node) Fail else None) ≡ Some n → CanUpdate t.nodes n
      one source n true is = can-outcome t v source.node (Some Fail) n is
      one source n false is = cc

  still-failed : (has : At → Bool) (sources : List At) → Each (IsStill t.nodes) (failed t.nodes has sources)
  still-failed has sources = each-mapped (IsStill t.nodes) (λ source. if has source then after_outcome (node_at t.nodes source.node) Fail else None) sources (λ source n is. one source n (has source) is)
    where
      one : (source : At) (n : Node) (b : Bool) → (if b then after_outcome (node_at t.nodes source.node) Fail else None) ≡ Some n → IsStill t.nodes n
      one source n true is = still-outcome t.nodes source.node (Some Fail) n is
      one source n false is = cc

  fit_unrepaired : (kind : ℕ) → IsPlanKind kind → (unmended : Unmended) → After t (unrepaired t time kind unmended)
  fit_unrepaired kind is_kind unmended =
      let has : At → Bool = λ source. is_among unmended.missing source.index in
      let here = all_changed t (changes.Marks (timed t.marks time) ∷ changes.Remove (keys.Plan kind) ∷ []) in
      fitting t v (unrepaired t time kind unmended) (paid_nodes t here (failed t.nodes has unmended.plan.sources) refl (still-failed has unmended.plan.sources))
      (timed_fit t v time le lt, (is_kind, fit-nodes t.marks.segment (failed t.nodes has unmended.plan.sources) (all_changed t (changes.Marks (timed t.marks time) ∷ changes.Remove (keys.Plan kind) ∷ [])) (fit-failed has unmended.plan.sources)))

  -- the pieces of the next version
  pub well_mended : (mended : Mended) (found : SegmentRecord) → CanMend t mended.plan found → AreWell t.nodes t.setup.n (mended_pieces mended)
  well_mended mended found can =
      well-put t.nodes t.setup.n (placed_targets mended) (kept_sources mended) (well-filtered t.nodes t.setup.n (is_kept mended) mended.plan.sources can.sources)
      (open-filtered t.nodes t.setup.n (is_kept mended) (λ target. is_among mended.placed target.index) mended.plan.sources mended.plan.targets can.targets)

  pub enough_mended : (mended : Mended) → IsSchemeOf t.setup mended.scheme → t.setup.k ≤ length (mended_pieces mended)
  enough_mended mended same =
      let kept = kept-others mended.plan.sources mended.blamed mended.missing in
      let some = mended.enough in
      omega (arith, same.k, some, kept, longer-put (placed_targets mended) (kept_sources mended))

  fit_repair_ended : (kind : ℕ) → IsPlanKind kind → (mended : Mended) (found : SegmentRecord) → IsSchemeOf t.setup mended.scheme → CanMend t mended.plan found → After t (repair_ended t time kind mended found)
  fit_repair_ended kind is_kind mended found scheme can =
      let plan = mended.plan in
      let next = mended_segment found mended in
      let here = all_changed t (changes.Marks (timed t.marks time) ∷ changes.Remove (keys.Plan kind) ∷ []) in
      let there = all_changed t (changes.Marks (timed t.marks time) ∷ changes.Remove (keys.Plan kind) ∷ changes.Segment next ∷ []) in
      let f = fine_found t v plan.segment.0 found can.at in
      let well = well_mended mended found can in
      let enough = enough_mended mended scheme in
      let same : found.id.0 ≡ plan.segment.0 = rank-found segment_rank t.segments plan.segment.0 found can.at in
      let own : segment_at t.segments next.id.0 ≡ Some found = ap (λ (k : ℕ). segment_at t.segments k) same ∙ can.at in
      let is_next : IsNext found next = record { len = refl; version = omega arith; same = λ e. absurd (omega (arith, e)) } in
      let version : is_sound_version t.setup (timed t.marks time) next ≡ true = let a = can.version in let b = can.later in grind (arith, nat_tests, a, b, enough) in
      let sound : is_sound_segment t.setup (timed t.marks time) t.nodes t.customers next ≡ true = sound-fine t.setup (timed t.marks time) t.nodes t.customers next (record {
        below = f.below;
        owned = f.owned;
        sized = f.sized;
        known = well.known;
        apart = well.apart;
        indexed = well.below;
        version = version;
      }) in
      let most = v.bounds.setup.scheme.few_pieces in
      let has : At → Bool = λ source. not (is_kept mended source) in
      fitting t v (repair_ended t time kind mended found) (paid_nodes t there (failed t.nodes has mended.plan.sources) refl (still-failed has mended.plan.sources)) (
        timed_fit t v time le lt,
        (
          is_kind,
          (
            record {
              sound = sound;
              within = record { by_index = by_index-rising (mended_pieces mended) well.rising; few = omega (arith, few-pieces t.setup.n (mended_pieces mended) well.rising well.below, most) };
              few = omega (arith, length-replaced segment_rank t.segments next v.order.segments (ap is_some own), (segments_hold t v).few);
              grows = segments_set t.marks.segment t.segments next found own is_next;
            },
            fit-nodes t.marks.segment (failed t.nodes has mended.plan.sources) there (fit-failed has mended.plan.sources),
          ),
        ),
      )

  fit_mending_of : (kind : ℕ) → IsPlanKind kind → (outcome : RepairOutcome) (found : SegmentRecord) → IsMendedBy t.setup outcome → CanMend t (plan_of outcome) found → After t (mending_of t time kind outcome found)
  fit_mending_of kind is_kind (repairs.Mended mended) found scheme can = fit_repair_ended kind is_kind mended found scheme can
  fit_mending_of kind is_kind (repairs.Unmended unmended) found scheme can = fit_unrepaired kind is_kind unmended

  -- the end of a repair or of a move, whose open plan can be mended where its segment has the planned version
  pub fit_end_mending : (kind : ℕ) → IsPlanKind kind → (opened : Option RepairPlan) (outcome : RepairOutcome) → IsMendedBy t.setup outcome
      → ((found : SegmentRecord) → opened ≡ Some (plan_of outcome) → segment_at t.segments (plan_of outcome).segment.0 ≡ Some found → (found.version == (plan_of outcome).version) ≡ true → CanMend t (plan_of outcome) found)
      → After t (end_mending t time kind opened outcome)
  fit_end_mending kind is_kind opened outcome scheme can =
      unless-P (After t) (still t v) (not (is_open same_repair opened (plan_of outcome))) (refusals.NoPlan (open_number (λ plan. plan.plan) opened)) (end_mending_at t time kind outcome (segment_at t.segments (plan_of outcome).segment.0)) (λ held.
      let holds = open-is same_repair same-repair opened (plan_of outcome) (not-false (is_open same_repair opened (plan_of outcome)) held) in
      if_found-P (After t) (still t v) (segment_at t.segments (plan_of outcome).segment.0) (superseded t time kind (plan_of outcome).version 0)
      (λ segment. if segment.version == (plan_of outcome).version then mending_of t time kind outcome segment else superseded t time kind (plan_of outcome).version segment.version)
      (fit_superseded t v time le lt kind (plan_of outcome).version 0 is_kind)
      (λ found at. one found at holds (found.version == (plan_of outcome).version) refl))
    where
      not-false : (b : Bool) → not b ≡ false → b ≡ true
      not-false true h = refl
      not-false false h = cc

      one : (found : SegmentRecord) → segment_at t.segments (plan_of outcome).segment.0 ≡ Some found → opened ≡ Some (plan_of outcome) → (b : Bool) → (found.version == (plan_of outcome).version) ≡ b
          → After t (if b then mending_of t time kind outcome found else superseded t time kind (plan_of outcome).version found.version)
      one found at holds true is = fit_mending_of kind is_kind outcome found scheme (can found holds at is)
      one found at holds false is = fit_superseded t v time le lt kind (plan_of outcome).version found.version is_kind
