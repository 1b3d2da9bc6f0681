-- What an offer of healthy pieces changes fits.
use Rattle.std.proofs.Common.{◌≡◌, ◌+◌, ◌<◌, ◌≤◌, ◌^◌, true, false, length, Some, is_some, refl, arith}
use Rattle.std.specs.Prelude.{nat_lt, nat_le, ◌==◌}
use Rattle.std.proofs.lemmas.Bool.Decides.{nat_tests}
use Rattle.std.proofs.lemmas.Bool.{and_from}
use Rattle.sat_base.specs.declared.ids.SegId.{SegId}
use Rattle.sat_base.specs.declared.settings.Marks.{Marks}
use Rattle.sat_base.specs.declared.requests.Asked.TheVariants as asks
use Rattle.sat_base.specs.declared.requests.Done.TheVariants as dones
use Rattle.sat_base.specs.declared.requests.Kept.{Kept}
use Rattle.segment_core.specs.Record.{SegmentRecord}
use Rattle.segment_core.specs.Health.{is_healthy}
use Rattle.machine_calls.specs.declared.asking.Asking.{Asking}
use Rattle.machine_calls.specs.declared.refusal.Refusal.TheVariants as refusals
use Rattle.machine_calls.specs.declared.refusal.TableName.TheVariants as names
use Rattle.machine_step.specs.Tables.{Tables, customer_at, segment_at, owned_at}
use Rattle.machine_step.specs.Places.{places_of}
use Rattle.machine_step.specs.Rules.{is_sound_kept}
use Rattle.machine_step.specs.Bounds.{IsValid}
use Rattle.machine_step.proofs.Outcomes.{unless-P, with_record-P, of_customer-P}
use Rattle.machine_step.proofs.PieceLemmas.{known-healthy, known-places, length-places}
use Rattle.machine_step.proofs.GrowthLemmas.{plan-most, AreLater, segment-most}
use Rattle.machine_step.proofs.MarkLemmas.{month-open, hour-most}
use Rattle.machine_step.proofs.Steady.{MarksFit}
use Rattle.machine_step.proofs.Fits.{After, still, fitting_apart, within_found, found_below, owned_found}
use Rattle.machine_step.specs.Calls.Begin.{piece_len_of}
use Rattle.machine_step.specs.Health.{healthy_of}
use Rattle.machine_step.specs.Calls.Get.{offered, get}
use Rattle.month_pay.proofs.Amounts.{length-filter}

module _ (t : Tables) (v : IsValid t) (asking : Asking) (le : t.marks.time ≤ asking.time) (lt : asking.time < 2 ^ 36) where
  fit_offered : (segment : SegId) (found : SegmentRecord) → is_some (customer_at t.customers asking.caller.0) ≡ true → segment_at t.segments segment.0 ≡ Some found
      → nat_le (2 ^ 63) t.marks.serial ≡ false → After t (offered t asking segment found)
  fit_offered segment found owner at number =
      let marks : Marks = record t.marks { time = asking.time; serial = t.marks.serial + 1 } in
      let serial_lt : t.marks.serial < 2 ^ 63 = grind (arith, nat_tests, number) in
      let later : AreLater t.marks marks = record { time = le; segment = omega arith; serial = omega arith; plan = omega arith; month = omega arith; hour = omega arith } in
      let pieces = healthy_of t found in
      let w = within_found t v segment.0 found at in
      let below = found_below t v segment.0 found at in
      let kept : Kept = record { caller = asking.caller; number = asking.number; asked = asks.Get segment; done = dones.Offer (record { customer = asking.caller; segment = segment; serial = record { 0 = t.marks.serial }; action = 2; piece_len = piece_len_of t.setup found.len; issued = asking.time; places = places_of t.nodes pieces }) } in
      let own : (asking.caller.0 == asking.caller.0) ≡ true = grind (arith, nat_tests) in
      let drawn : nat_lt t.marks.serial (t.marks.serial + 1) ≡ true = grind (arith, nat_tests) in
      let now : nat_le asking.time asking.time ≡ true = grind (arith, nat_tests) in
      let offer : is_sound_kept marks t.nodes t.customers kept ≡ true = and_from _ _ owner (and_from _ _ below (and_from _ _ refl (and_from _ _ (known-places t.nodes t.nodes pieces (known-healthy t.nodes found.pieces)) (and_from _ _ drawn (and_from _ _ below (and_from _ _ own now)))))) in
      let fit : MarksFit t.marks marks = record { later = later; time = lt; begun = month-open t.setup t.marks asking.time le v.rules.marks; hour = hour-most t.setup t.marks asking.time le v.rules.marks; segment = segment-most t.setup t.marks v.rules.marks; serial = omega arith; plan = plan-most t.setup t.marks v.rules.marks } in
      fitting_apart t v (offered t asking segment found) refl
      (fit, (record { sound = offer; within = (tt, omega (arith, length-places t.nodes pieces, length-filter (is_healthy t.nodes) found.pieces, w.few)) }, tt))

  pub fit_get : (segment : SegId) → After t (get t asking segment)
  fit_get segment =
      of_customer-P (After t) (still t v) t asking (asks.Get segment) _ (λ owner.
      with_record-P (After t) (still t v) (owned_at t.segments asking.caller segment) (refusals.NoSegment segment) _ (λ found at.
      unless-P (After t) (still t v) (found.version == 0) (refusals.NoSegment segment) _ (λ live.
      unless-P (After t) (still t v) (nat_lt (length (healthy_of t found)) t.setup.k) (refusals.TooFew (length (healthy_of t found)) t.setup.k) _ (λ many.
      unless-P (After t) (still t v) (nat_le (2 ^ 63) t.marks.serial) (refusals.TableFull names.Numbers) _ (λ number.
      fit_offered segment found owner (owned_found t v asking.caller segment found at) number)))))
