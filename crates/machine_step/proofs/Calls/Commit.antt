-- What a commit changes fits.
use Rattle.std.proofs.Common.{◌≡◌, ℕ, ◌<◌, ◌≤◌, ◌^◌, Bool, true, false, not, List, length, Some, None, is_some, refl, ap, ◌∙◌, arith}
use Rattle.std.specs.Prelude.{nat_lt, nat_le, ◌==◌}
use Rattle.std.proofs.lemmas.Bool.Decides.{nat_tests}
use Rattle.std.proofs.lemmas.Bool.{and_from}
use Rattle.sat_base.specs.declared.ids.SegId.{SegId}
use Rattle.sat_base.specs.declared.records.At.{At}
use Rattle.sat_base.specs.declared.requests.Asked.TheVariants as asks
use Rattle.sat_base.specs.declared.requests.Done.TheVariants as dones
use Rattle.sat_base.specs.declared.requests.Kept.{Kept}
use Rattle.rows.specs.Rows.{row_at}
use Rattle.segment_core.specs.Record.{SegmentRecord, segment_rank}
use Rattle.segment_core.specs.Commit.{refusal, chosen, is_among}
use Rattle.segment_core.proofs.ByIndex.{filtered_by_index}
use Rattle.segment_core.proofs.Chosen.{length_accepted, enough_accepted}
use Rattle.machine_calls.specs.declared.asking.Asking.{Asking}
use Rattle.machine_calls.specs.declared.refusal.Refusal.TheVariants as refusals
use Rattle.machine_step.specs.Tables.{Tables, customer_at, segment_at, owned_at}
use Rattle.machine_step.specs.Rules.{is_known, counts_up, is_sound_segment}
use Rattle.machine_step.specs.Bounds.{IsValid}
use Rattle.machine_step.proofs.Outcomes.{unless-P, with_record-P, of_customer-P, unless_caused-P}
use Rattle.machine_step.proofs.PieceLemmas.{all-filtered, apart-filtered, offer-counted}
use Rattle.machine_step.proofs.GrowthLemmas.{plan-some, sound-fine}
use Rattle.machine_step.proofs.RowLemmas.{rank-found, length-replaced}
use Rattle.machine_step.proofs.SegmentLemmas.{IsNext, segments_set}
use Rattle.machine_step.proofs.Validity.{segments_hold}
use Rattle.machine_step.specs.Plans.{timed}
use Rattle.machine_step.proofs.Fits.{After, still, fitting_apart, fine_found, within_found, found_below, owned_found, timed_fit}
use Rattle.machine_step.specs.Calls.Commit.{live_of, committed, commit}
use Rattle.month_pay.proofs.Amounts.{length-filter}

module _ (t : Tables) (v : IsValid t) (asking : Asking) (le : t.marks.time ≤ asking.time) (lt : asking.time < 2 ^ 36) where
  fit_committed : (segment : SegId) (found : SegmentRecord) (indexes : List ℕ) → is_some (customer_at t.customers asking.caller.0) ≡ true → segment_at t.segments segment.0 ≡ Some found
      → (found.version == 0) ≡ true → refusal t.setup.n t.setup.o indexes ≡ None → After t (committed t asking segment (live_of found indexes) indexes)
  fit_committed segment found indexes owner at pending accepted =
      let scheme = v.bounds.setup.scheme in
      let f = fine_found t v segment.0 found at in
      let w = within_found t v segment.0 found at in
      let test = λ (place : At). is_among indexes place.index in
      let row : SegmentRecord = record found { version = 1; pieces = chosen indexes found.pieces } in
      let up : counts_up t.setup.n 0 found.pieces ≡ true = grind (arith, pending, f.version) in
      let number = length_accepted t.setup.n t.setup.o indexes found.pieces (offer-counted t.setup.n found.pieces up) accepted in
      let enough : t.setup.k ≤ length (chosen indexes found.pieces) = omega (arith, number, enough_accepted t.setup.n t.setup.o indexes accepted, scheme.repairs_in_time, scheme.wants_more) in
      let plan : nat_le 1 t.marks.plan ≡ true = let some = plan-some t.setup t.marks v.rules.marks in grind (arith, nat_tests, some) in
      let live : nat_le t.setup.k (length (chosen indexes found.pieces)) ≡ true = grind (arith, nat_tests, enough) in
      let sound : is_sound_segment t.setup (timed t.marks asking.time) t.nodes t.customers row ≡ true = sound-fine t.setup (timed t.marks asking.time) t.nodes t.customers row (record {
        below = f.below;
        owned = f.owned;
        sized = f.sized;
        known = all-filtered (λ piece. is_known t.nodes piece.node) test found.pieces f.known;
        apart = apart-filtered t.nodes test found.pieces f.apart;
        indexed = all-filtered (λ piece. nat_lt piece.index t.setup.n) test found.pieces f.indexed;
        version = and_from _ _ plan live;
      }) in
      let shorter = length-filter test found.pieces in
      let same : found.id.0 ≡ segment.0 = rank-found segment_rank t.segments segment.0 found at in
      let there : is_some (row_at segment_rank t.segments (segment_rank row)) ≡ true = ap (λ (k : ℕ). is_some (row_at segment_rank t.segments k)) same ∙ ap is_some at in
      let kept : Kept = record { caller = asking.caller; number = asking.number; asked = asks.Commit segment indexes; done = dones.Committed segment } in
      let below = found_below t v segment.0 found at in
      let zero_is : found.version ≡ 0 = grind (arith, nat_tests, pending) in
      let next : IsNext found row = record { len = refl; version = omega arith; same = λ e. absurd (omega arith) } in
      let own : segment_at t.segments row.id.0 ≡ Some found = ap (λ (k : ℕ). segment_at t.segments k) same ∙ at in
      fitting_apart t v (committed t asking segment (live_of found indexes) indexes) refl (
        timed_fit t v asking.time le lt,
        (
          record {
            sound = sound;
            within = record { by_index = filtered_by_index test found.pieces w.by_index; few = omega (arith, shorter, w.few) };
            few = omega (arith, length-replaced segment_rank t.segments row v.order.segments there, (segments_hold t v).few);
            grows = segments_set t.marks.segment t.segments row found own next;
          },
          (record { sound = and_from _ _ owner (and_from _ _ below below); within = (omega (arith, number, shorter, w.few), tt) }, tt),
        ),
      )

  not-false : (b : Bool) → not b ≡ false → b ≡ true
  not-false true h = refl
  not-false false h = cc

  pub fit_commit : (segment : SegId) (indexes : List ℕ) → After t (commit t asking segment indexes)
  fit_commit segment indexes =
      of_customer-P (After t) (still t v) t asking (asks.Commit segment indexes) _ (λ owner.
      with_record-P (After t) (still t v) (owned_at t.segments asking.caller segment) (refusals.NoSegment segment) _ (λ found at.
      unless-P (After t) (still t v) (not (found.version == 0)) (refusals.AlreadyLive found.version) _ (λ pending.
      unless_caused-P (After t) (still t v) (refusal t.setup.n t.setup.o indexes) _ (λ accepted.
      fit_committed segment found indexes owner (owned_found t v asking.caller segment found at) (not-false (found.version == 0) pending) accepted))))
