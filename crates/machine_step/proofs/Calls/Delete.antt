-- What a delete changes fits.
use Rattle.std.proofs.Common.{◌≡◌, ◌<◌, ◌≤◌, ◌^◌, true, Some, is_some, refl}
use Rattle.std.proofs.lemmas.Bool.{and_from}
use Rattle.sat_base.specs.declared.ids.SegId.{SegId}
use Rattle.sat_base.specs.declared.requests.Asked.TheVariants as asks
use Rattle.segment_core.specs.Record.{SegmentRecord}
use Rattle.machine_calls.specs.declared.asking.Asking.{Asking}
use Rattle.machine_calls.specs.declared.refusal.Refusal.TheVariants as refusals
use Rattle.machine_step.specs.Tables.{Tables, customer_at, segment_at, owned_at}
use Rattle.machine_step.specs.Bounds.{IsValid}
use Rattle.machine_step.proofs.Outcomes.{with_record-P, of_customer-P}
use Rattle.machine_step.proofs.Fits.{After, still, fitting_apart, found_below, owned_found, timed_fit}
use Rattle.machine_step.specs.Calls.Delete.{deleted, delete}

module _ (t : Tables) (v : IsValid t) (asking : Asking) (le : t.marks.time ≤ asking.time) (lt : asking.time < 2 ^ 36) where
  fit_deleted : (segment : SegId) (found : SegmentRecord) → is_some (customer_at t.customers asking.caller.0) ≡ true → segment_at t.segments segment.0 ≡ Some found
      → After t (deleted t asking segment)
  fit_deleted segment found owner at =
      let below = found_below t v segment.0 found at in
      fitting_apart t v (deleted t asking segment) refl
      (timed_fit t v asking.time le lt, (tt, (record { sound = and_from _ _ owner (and_from _ _ below below); within = (tt, tt) }, tt)))

  pub fit_delete : (segment : SegId) → After t (delete t asking segment)
  fit_delete segment =
      of_customer-P (After t) (still t v) t asking (asks.Delete segment) _ (λ owner.
      with_record-P (After t) (still t v) (owned_at t.segments asking.caller segment) (refusals.NoSegment segment) _ (λ found at.
      fit_deleted segment found owner (owned_found t v asking.caller segment found at)))
