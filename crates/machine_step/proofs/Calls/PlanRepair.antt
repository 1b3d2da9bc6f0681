-- What a planned repair changes fits.
use Rattle.std.proofs.Common.{◌≡◌, ℕ, suc, ◌-◌, ◌*◌, ◌/◌, ◌<◌, ◌≤◌, ◌^◌, Bool, true, false, not, List, [], ◌∷◌, ◌++◌, length, Option, Some, None, refl, ap, ◌∙◌, min, arith}
use Rattle.std.specs.Prelude.{if◌then◌else◌, nat_lt, nat_le, ◌==◌, map, filter}
use Rattle.std.specs.List.{list_all, list_any, range_with_len}
use Rattle.std.proofs.Math.Nat.{mul-le-mul_left}
use Rattle.std.proofs.lemmas.Bool.Decides.{nat_tests}
use Rattle.std.proofs.lemmas.List.FromFn.{length-range_with_len}
use Rattle.std.proofs.lemmas.Bool.{and_from}
use Rattle.node_registry.specs.declared.node.Node.{Node}
use Rattle.segment_core.specs.Record.{SegmentRecord, segment_rank}
use Rattle.segment_core.specs.Health.{is_healthy}
use Rattle.placement.specs.Eligible.{subnet_of, subnet_count}
use Rattle.placement.specs.Placed.{id_of}
use Rattle.placement.proofs.Picks.{Got, got-kept}
use Rattle.machine_calls.specs.declared.refusal.Refusal.TheVariants as refusals
use Rattle.machine_calls.specs.declared.refusal.TableName.TheVariants as names
use Rattle.machine_step.specs.Tables.{Tables, segment_at}
use Rattle.machine_step.specs.Containment.{is_live}
use Rattle.machine_step.specs.Health.{healthy_of, healthy_count}
use Rattle.machine_step.specs.Places.{picks_of, subnets_of}
use Rattle.machine_step.specs.Plans.{has_no_plan}
use Rattle.machine_step.specs.Calls.PlanRepair.{needs_repair, lesser, least_by, to_repair, terms_beside, has_index, free_indexes, paired, targets_for, repair_of, repair_planned, repair_counted, repair_from, plan_repair}
use Rattle.machine_step.specs.Rules.{are_known, are_apart, are_below}
use Rattle.machine_step.specs.PlanRules.{are_new, are_targets, is_planned_of, is_repair_of, is_whole_repair_of}
use Rattle.machine_step.specs.Bounds.{Each, IsValid}
use Rattle.machine_step.proofs.Outcomes.{unless-P, with_record-P}
use Rattle.machine_step.proofs.PieceLemmas.{all-filtered, apart-filtered, below-most}
use Rattle.machine_step.proofs.PickLemmas.{got-picks, length-picks, apart-picks, length-ids}
use Rattle.machine_step.proofs.IndexLemmas.{by_index-rising, few-pieces}
use Rattle.machine_step.proofs.Fits.{After, still, fitting_apart, fine_found, picks_found}
use Rattle.machine_step.proofs.Drawn.{some-within, among-some, drawn_fit, is_drawn_now, version_now}
use Rattle.machine_step.proofs.RowLemmas.{row_got}
use Rattle.machine_step.proofs.FreeIndexes.{range-rising, range-below, rising-kept, free-count, length-paired, rising-paired, all-paired, known-paired, subnets-paired}
use Rattle.machine_step.proofs.TakenLemmas.{OffTaken, off-picks, off-member, apart-both, subnets-append}
use Rattle.sat_base.specs.declared.limits.TheConstants as limits

pub least-got : {R : Type 0} (number : R → ℕ) (rows : List R) (row : R) → least_by number rows ≡ Some row → Got rows row
least-got number [] row is = absurd cc
least-got {R} number (x ∷ rows) row is = go (least_by number rows) (least-got number rows) is
  where
    at : (y : R) (b : Bool) → ((row : R) → Some y ≡ Some row → Got rows row) → Some (if b then x else y) ≡ Some row → Got (x ∷ rows) row
    at y true ih same = (0, same)
    at y false ih same = let got = ih row same in (suc got.0, got.1)

    go : (o : Option R) → ((row : R) → o ≡ Some row → Got rows row) → Some (lesser number x o) ≡ Some row → Got (x ∷ rows) row
    go None ih same = (0, same)
    go (Some y) ih same = at y (nat_le (number x) (number y)) ih same

module _ (t : Tables) (v : IsValid t) (found : SegmentRecord) (words : List ℕ) (need : ℕ) (le_o : need ≤ t.setup.o - length (healthy_of t found))
    (le_count : need ≤ subnet_count (terms_beside t (healthy_of t found) found.len words)) where
  abbrev picked_for : List Node
  picked_for = picks_of (terms_beside t (healthy_of t found) found.len words) need (need * t.setup.fresh / 100)

  fresh-few : need * t.setup.fresh / 100 ≤ need
  fresh-few = let product : need * t.setup.fresh ≤ need * 100 = mul-le-mul_left need v.bounds.setup.fresh in omega (arith, product)

  pub picks-count : length picked_for ≡ need
  picks-count = length-picks (terms_beside t (healthy_of t found) found.len words) need (need * t.setup.fresh / 100) fresh-few le_count

  pub picks-wide : length picked_for ≤ length (free_indexes t.setup.n (healthy_of t found))
  picks-wide =
      let all = range_with_len 0 t.setup.n in
      let free = free-count (healthy_of t found) all (range-rising 0 t.setup.n) in
      let count = picks-count in
      let scheme = v.bounds.setup.scheme in
      omega (arith, count, free, length-range_with_len 0 t.setup.n, le_o, scheme.tries_enough)

  -- there are as many targets as are needed
  pub targets-number : length (targets_for t (healthy_of t found) found.len words need) ≡ need
  targets-number =
      let wide = picks-wide in
      length-paired (free_indexes t.setup.n (healthy_of t found)) (map id_of picked_for) (omega (arith, length-ids picked_for, wide)) ∙ length-ids picked_for ∙ picks-count

module _ (t : Tables) (v : IsValid t) (time : ℕ) (le : t.marks.time ≤ time) (lt : time < 2 ^ 36) where
  fit_repair_planned : (found : SegmentRecord) (words : List ℕ) (need : ℕ) → is_live found ≡ true → segment_at t.segments found.id.0 ≡ Some found → nat_le t.setup.k (length (healthy_of t found)) ≡ true → has_no_plan t.marks ≡ false
      → need ≤ t.setup.o - length (healthy_of t found) → need ≤ subnet_count (terms_beside t (healthy_of t found) found.len words) → 1 ≤ need
      → After t (repair_planned t time (repair_of t time found (healthy_of t found) (targets_for t (healthy_of t found) found.len words need)))
  fit_repair_planned found words need live at enough number le_o le_count some =
      let f = fine_found t v found.id.0 found at in
      let scheme = v.bounds.setup.scheme in
      let sources = healthy_of t found in
      let where_ = terms_beside t sources found.len words in
      let fresh = need * t.setup.fresh / 100 in
      let fresh_le = fresh-few t v found words need le_o le_count in
      let picks = picks_of where_ need fresh in
      let all = range_with_len 0 t.setup.n in
      let indexes = free_indexes t.setup.n sources in
      let wide = picks-wide t v found words need le_o le_count in
      let targets = paired indexes (map id_of picks) in
      let long = targets-number t v found words need le_o le_count in
      let rising = rising-paired indexes (map id_of picks) (rising-kept (λ i. not (has_index sources i)) all (range-rising 0 t.setup.n)) in
      let below : are_below t.setup.n targets ≡ true = all-paired (λ i. nat_lt i t.setup.n) indexes (map id_of picks) (all-filtered (λ i. nat_lt i t.setup.n) (λ i. not (has_index sources i)) all (range-below 0 t.setup.n t.setup.n (omega arith))) in
      let new : are_new sources targets ≡ true = all-paired (λ i. not (has_index sources i)) indexes (map id_of picks) (all-kept-here (λ i. not (has_index sources i)) all) in
      let found_picks = picks_found t v picks (got-picks where_ need fresh) in
      let known : are_known t.nodes targets ≡ true = known-paired t.nodes indexes picks found_picks in
      let subnets : subnets_of t.nodes targets ≡ map subnet_of picks = subnets-paired t.nodes indexes picks found_picks wide in
      let apart : are_apart (subnets_of t.nodes (sources ++ targets)) ≡ true
      = ap are_apart (subnets-append t.nodes sources targets ∙ ap (λ (xs : List ℕ). subnets_of t.nodes sources ++ xs) subnets)
      ∙ apart-both (subnets_of t.nodes sources) (map subnet_of picks) (apart-filtered t.nodes (is_healthy t.nodes) found.pieces f.apart) (apart-picks where_ need fresh fresh_le) (off-all picks (off-picks where_ need fresh)) in
      let one : nat_le 1 (length targets) ≡ true = grind (arith, nat_tests, long, some) in
      let are : are_targets t.setup t.nodes sources targets ≡ true = and_from _ _ one (and_from _ _ below (and_from _ _ new (and_from _ _ known apart))) in
      let plan = repair_of t time found sources targets in
      let own : is_repair_of plan found ≡ true = and_from _ _ (len_same found.len) (among-some found.pieces (is_healthy t.nodes)) in
      let whole : is_whole_repair_of t.setup t.nodes plan found ≡ true = and_from _ _ own (and_from _ _ enough are) in
      let planned : is_planned_of (segment_at t.segments found.id.0) found.version (is_whole_repair_of t.setup t.nodes plan) ≡ true = rw at (grind (arith, nat_tests, whole)) in
      fitting_apart t v (repair_planned t time plan) refl (
        drawn_fit t v time le lt number,
        (
          record {
            sound = and_from _ _ (is_drawn_now t v time le lt found.id.0 f.below) (and_from _ _ (version_now t v time le lt found live f.version) planned);
            below = (let b = f.below in grind (arith, nat_tests, b));
            within = record { sources = some-within t v (is_healthy t.nodes) found.id.0 found at; targets = record { by_index = by_index-rising targets rising; few = omega (arith, few-pieces t.setup.n targets rising below, scheme.few_pieces); below = below-most t.setup.n limits.PLACES targets scheme.few_pieces below } };
          },
          tt,
        ),
      )
    where
      len_same : (n : ℕ) → (n == n) ≡ true
      len_same n = grind (arith, nat_tests)

      all-kept-here : (test : ℕ → Bool) (xs : List ℕ) → list_all test (filter test xs) ≡ true
      all-kept-here test [] = refl
      all-kept-here test (x ∷ xs) = grind (arith, nat_tests, all-kept-here test xs)

      off-all : (picks : List Node) → Each (OffTaken (terms_beside t (healthy_of t found) found.len words)) picks → Each (λ y. list_any (λ other. y == other) (subnets_of t.nodes (healthy_of t found)) ≡ false) (map subnet_of picks)
      off-all [] each = tt
      off-all (node ∷ picks) each = (off-member (subnet_of node) (subnets_of t.nodes (healthy_of t found)) each.0, off-all picks each.1)

  repair-found : (found : SegmentRecord) → to_repair t ≡ Some found → (needs_repair t found ≡ true) × (segment_at t.segments found.id.0 ≡ Some found)
  repair-found found is =
      let got = least-got (healthy_count t) (filter (needs_repair t) t.segments) found is in
      let kept = got-kept (needs_repair t) t.segments found got.0 got.1 in
      (kept.0, row_got segment_rank t.segments v.order.segments kept.1.0 found kept.1.1)

  pub fit_plan_repair : (words : List ℕ) → After t (plan_repair t time words)
  fit_plan_repair words =
      with_record-P (After t) (still t v) (to_repair t) refusals.NothingToRepair (λ found. repair_from t time words found (healthy_of t found)) (λ found is.
      let there = repair-found found is in
      let need = min (t.setup.o - length (healthy_of t found)) (subnet_count (terms_beside t (healthy_of t found) found.len words)) in
      let live : is_live found ≡ true = let n = there.0 in grind (arith, nat_tests, n) in
      let enough : nat_le t.setup.k (length (healthy_of t found)) ≡ true = let n = there.0 in grind (arith, nat_tests, n) in
      unless-P (After t) (still t v) (has_no_plan t.marks) (refusals.TableFull names.Numbers) (repair_counted t time words found (healthy_of t found) need) (λ number.
      unless-P (After t) (still t v) (need == 0) (refusals.Few 0) (repair_planned t time (repair_of t time found (healthy_of t found) (targets_for t (healthy_of t found) found.len words need))) (λ some.
      let positive : 1 ≤ need = grind (arith, nat_tests, some) in
      fit_repair_planned found words need live there.1 enough number (omega arith) (omega arith) positive)))
