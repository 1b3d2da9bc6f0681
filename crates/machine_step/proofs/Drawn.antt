-- What new plans change fits: their numbers, and the pieces that they ask.
use Rattle.std.proofs.Common.{◌≡◌, ℕ, ◌%◌, ◌<◌, ◌≤◌, ◌^◌, Bool, true, false, List, [], ◌∷◌, length, Some, refl, arith}
use Rattle.std.specs.Prelude.{nat_lt, filter}
use Rattle.std.proofs.lemmas.Bool.Decides.{nat_tests}
use Rattle.sat_base.specs.declared.records.At.{At}
use Rattle.segment_core.specs.Record.{SegmentRecord, segment_rank}
use Rattle.segment_core.proofs.ByIndex.{filtered_by_index}
use Rattle.placement.proofs.Picks.{got-kept}
use Rattle.machine_step.specs.Tables.{Tables, segment_at}
use Rattle.machine_step.specs.Containment.{has_piece, is_live}
use Rattle.machine_step.specs.Health.{are_among, live_segments, picked}
use Rattle.machine_step.specs.Plans.{drawn, has_no_plan, superseded}
use Rattle.machine_step.specs.Rules.{is_sound_version}
use Rattle.machine_step.specs.PlanRules.{is_drawn, is_planned_version}
use Rattle.machine_step.specs.Bounds.{ArePlacesWithin, IsValid}
use Rattle.machine_step.proofs.PieceLemmas.{all-filtered, below-most}
use Rattle.machine_step.proofs.GrowthLemmas.{segment-most}
use Rattle.machine_step.proofs.MarkLemmas.{month-open, hour-most}
use Rattle.machine_step.proofs.Steady.{MarksFit}
use Rattle.machine_step.proofs.Fits.{After, fitting_apart, fine_found, within_found, timed_fit}
use Rattle.machine_step.proofs.RowLemmas.{row_got}
use Rattle.machine_step.specs.Writable.{IsPlanKind}
use Rattle.sat_base.specs.declared.limits.TheConstants as limits
use Rattle.month_pay.proofs.Amounts.{length-filter}
use Rattle.month_pay.proofs.ListFacts.{all-weaker}

module _ (t : Tables) (v : IsValid t) where
  pub live-found : (word : ℕ) (found : SegmentRecord) → picked (live_segments t) word ≡ Some found → (is_live found ≡ true) × (segment_at t.segments found.id.0 ≡ Some found)
  live-found word found is =
      let kept = got-kept is_live t.segments found (word % length (live_segments t)) is in
      (kept.0, row_got segment_rank t.segments v.order.segments kept.1.0 found kept.1.1)

  -- some of a segment's pieces, as the places of a plan
  pub some-within : (test : At → Bool) (id : ℕ) (found : SegmentRecord) → segment_at t.segments id ≡ Some found → ArePlacesWithin (filter test found.pieces)
  some-within test id found at =
      let f = fine_found t v id found at in
      let w = within_found t v id found at in
      record {
        by_index = filtered_by_index test found.pieces w.by_index;
        few = omega (arith, length-filter test found.pieces, w.few);
        below = below-most t.setup.n limits.PLACES (filter test found.pieces) v.bounds.setup.scheme.few_pieces (all-filtered (λ piece. nat_lt piece.index t.setup.n) test found.pieces f.indexed);
      }

-- pieces are among themselves, and so are some of them
has-more : (x : At) (pieces : List At) (place : At) → has_piece pieces place ≡ true → has_piece (x ∷ pieces) place ≡ true
has-more x pieces place has = grind (arith, nat_tests, has)

pub among-self : (pieces : List At) → are_among pieces pieces ≡ true
among-self [] = refl
among-self (x ∷ pieces) =
    let rest = all-weaker (λ place. has_piece pieces place) (λ place. has_piece (x ∷ pieces) place) (has-more x pieces) pieces (among-self pieces) in
    grind (arith, nat_tests, rest)

pub among-some : (pieces : List At) (test : At → Bool) → are_among pieces (filter test pieces) ≡ true
among-some pieces test = all-filtered (λ place. has_piece pieces place) test pieces (among-self pieces)

module _ (t : Tables) (v : IsValid t) (time : ℕ) (le : t.marks.time ≤ time) (lt : time < 2 ^ 36) where
  pub drawn_fit : has_no_plan t.marks ≡ false → MarksFit t.marks (drawn t.marks time)
  drawn_fit number =
      let plan : t.marks.plan < 2 ^ 63 = grind (arith, nat_tests, number) in
      let serial : t.marks.serial < 2 ^ 63 = grind (arith, nat_tests, number) in
      record {
        later = record { time = le; segment = omega arith; serial = omega arith; plan = omega arith; month = omega arith; hour = omega arith };
        time = lt;
        begun = month-open t.setup t.marks time le v.rules.marks;
        hour = hour-most t.setup t.marks time le v.rules.marks;
        segment = segment-most t.setup t.marks v.rules.marks;
        serial = omega arith;
        plan = omega arith;
      }

  -- a new plan of a segment
  pub is_drawn_now : (id : ℕ) → nat_lt id t.marks.segment ≡ true → is_drawn (drawn t.marks time) t.marks.plan (record { 0 = t.marks.serial }) (record { 0 = id }) time ≡ true
  is_drawn_now id below = grind (arith, nat_tests, below)

  pub version_now : (found : SegmentRecord) → is_live found ≡ true → is_sound_version t.setup t.marks found ≡ true → is_planned_version (drawn t.marks time) found.version ≡ true
  version_now found live sound = grind (arith, nat_tests, live, sound)

  -- a plan is closed, and nothing else changes
  pub fit_superseded : (kind planned now : ℕ) → IsPlanKind kind → After t (superseded t time kind planned now)
  fit_superseded kind planned now is = fitting_apart t v (superseded t time kind planned now) refl (timed_fit t v time le lt, (is, tt))
