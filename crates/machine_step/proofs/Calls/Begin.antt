-- What an offer of places changes fits.
use Rattle.std.proofs.Common.{◌≡◌, ℕ, ◌+◌, ◌*◌, ◌<◌, ◌≤◌, ◌^◌, true, false, not, List, length, is_some, refl, ap, ◌∙◌, arith}
use Rattle.std.specs.Prelude.{nat_lt, nat_le, ◌==◌, map}
use Rattle.std.proofs.Math.Nat.{mul-le-mul_left}
use Rattle.std.proofs.lemmas.Bool.Decides.{nat_tests}
use Rattle.std.proofs.lemmas.Bool.{and_from}
use Rattle.sat_base.specs.declared.settings.Marks.{Marks}
use Rattle.sat_base.specs.declared.requests.Asked.TheVariants as asks
use Rattle.sat_base.specs.declared.requests.Done.TheVariants as dones
use Rattle.sat_base.specs.declared.requests.Kept.{Kept}
use Rattle.segment_core.specs.Record.{SegmentRecord, segment_rank}
use Rattle.placement.specs.Placed.{id_of}
use Rattle.placement.specs.Eligible.{subnet_count}
use Rattle.machine_calls.specs.declared.asking.Asking.{Asking}
use Rattle.machine_calls.specs.declared.refusal.Refusal.TheVariants as refusals
use Rattle.machine_calls.specs.declared.refusal.TableName.TheVariants as names
use Rattle.machine_step.specs.Tables.{Tables, max_len_of, is_no_size, customer_at}
use Rattle.machine_step.specs.Places.{picks_of, pieces_from, places_of}
use Rattle.machine_step.specs.Rules.{are_known, are_apart, is_sound_segment, is_sound_kept}
use Rattle.machine_step.specs.Bounds.{IsValid}
use Rattle.machine_step.proofs.Outcomes.{unless-P, of_customer-P}
use Rattle.machine_step.proofs.PickLemmas.{got-picks, length-picks, apart-picks, length-pieces, length-ids, counts-pieces, below-pieces, by-index-pieces, known-pieces, subnets-pieces}
use Rattle.machine_step.proofs.PieceLemmas.{known-places, length-places}
use Rattle.machine_step.proofs.GrowthLemmas.{plan-most, AreLater, sound-fine}
use Rattle.machine_step.proofs.RowLemmas.{length-with_row}
use Rattle.machine_step.proofs.SegmentLemmas.{segments_new}
use Rattle.machine_step.proofs.MarkLemmas.{month-open, hour-most}
use Rattle.machine_step.proofs.Steady.{MarksFit}
use Rattle.machine_step.proofs.Fits.{After, still, fitting_apart, picks_found}
use Rattle.machine_step.specs.Calls.Begin.{piece_len_of, fresh_of, terms_for, has_no_number, begun, begin}

module _ (t : Tables) (v : IsValid t) (asking : Asking) (le : t.marks.time ≤ asking.time) (lt : asking.time < 2 ^ 36) where
  fit_begun : (len : ℕ) (words : List ℕ) → is_some (customer_at t.customers asking.caller.0) ≡ true → is_no_size t.setup len ≡ false
      → nat_le t.setup.caps.segments (length t.segments) ≡ false → has_no_number t ≡ false → nat_lt (subnet_count (terms_for t len words)) t.setup.n ≡ false
      → After t (begun t asking len words)
  fit_begun len words owner size room number enough =
      let scheme = v.bounds.setup.scheme in
      let marks : Marks = record t.marks { time = asking.time; segment = t.marks.segment + 1; serial = t.marks.serial + 1 } in
      let segment_lt : t.marks.segment < 2 ^ 63 = grind (arith, nat_tests, number) in
      let serial_lt : t.marks.serial < 2 ^ 63 = grind (arith, nat_tests, number) in
      let later : AreLater t.marks marks = record { time = le; segment = omega arith; serial = omega arith; plan = omega arith; month = omega arith; hour = omega arith } in
      let terms = terms_for t len words in
      let fresh = fresh_of t.setup in
      let product : t.setup.n * t.setup.fresh ≤ t.setup.n * 100 = mul-le-mul_left t.setup.n v.bounds.setup.fresh in
      let fresh_le : fresh ≤ t.setup.n = omega (arith, product) in
      let subnets : t.setup.n ≤ subnet_count terms = grind (arith, nat_tests, enough) in
      let picks = picks_of terms t.setup.n fresh in
      let ids = map id_of picks in
      let count : length ids ≡ t.setup.n = length-ids picks ∙ length-picks terms t.setup.n fresh fresh_le subnets in
      let pieces = pieces_from 0 ids in
      let long : length pieces ≡ t.setup.n = length-pieces 0 ids ∙ count in
      let found = picks_found t v picks (got-picks terms t.setup.n fresh) in
      let known : are_known t.nodes pieces ≡ true = known-pieces t.nodes 0 picks found in
      let row : SegmentRecord = record { id = record { 0 = t.marks.segment }; customer = asking.caller; len = len; version = 0; pieces = pieces } in
      let sound : is_sound_segment t.setup marks t.nodes t.customers row ≡ true = sound-fine t.setup marks t.nodes t.customers row (record {
        below = grind (arith, nat_tests);
        owned = owner;
        sized = ap not size;
        known = known;
        apart = ap are_apart (subnets-pieces t.nodes 0 picks found) ∙ apart-picks terms t.setup.n fresh fresh_le;
        indexed = below-pieces 0 ids t.setup.n (omega (arith, count));
        version = counts-pieces 0 ids t.setup.n (omega (arith, count));
      }) in
      let kept : Kept = record { caller = asking.caller; number = asking.number; asked = asks.Begin len; done = dones.Offer (record { customer = asking.caller; segment = row.id; serial = record { 0 = t.marks.serial }; action = 1; piece_len = piece_len_of t.setup len; issued = asking.time; places = places_of t.nodes pieces }) } in
      let own : (asking.caller.0 == asking.caller.0) ≡ true = grind (arith, nat_tests) in
      let drawn : nat_lt t.marks.serial (t.marks.serial + 1) ≡ true = grind (arith, nat_tests) in
      let numbered : nat_lt t.marks.segment (t.marks.segment + 1) ≡ true = grind (arith, nat_tests) in
      let now : nat_le asking.time asking.time ≡ true = grind (arith, nat_tests) in
      let offer : is_sound_kept marks t.nodes t.customers kept ≡ true = and_from _ _ owner (and_from _ _ refl (and_from _ _ refl (and_from _ _ (known-places t.nodes t.nodes pieces known) (and_from _ _ drawn (and_from _ _ numbered (and_from _ _ own now)))))) in
      let few : length t.segments < t.setup.caps.segments = grind (arith, nat_tests, room) in
      let fit : MarksFit t.marks marks = record { later = later; time = lt; begun = month-open t.setup t.marks asking.time le v.rules.marks; hour = hour-most t.setup t.marks asking.time le v.rules.marks; segment = omega arith; serial = omega arith; plan = plan-most t.setup t.marks v.rules.marks } in
      fitting_apart t v (begun t asking len words) refl (
        fit,
        (
          record {
            sound = sound;
            within = record { by_index = by-index-pieces ids; few = omega (arith, long, scheme.few_pieces) };
            few = omega (arith, length-with_row segment_rank t.segments row, few);
            grows = segments_new t.marks.segment t.segments row (omega arith);
          },
          (record { sound = offer; within = (tt, omega (arith, length-places t.nodes pieces, long, scheme.few_pieces)) }, tt),
        ),
      )

  pub fit_begin : (len : ℕ) (words : List ℕ) → After t (begin t asking len words)
  fit_begin len words =
      of_customer-P (After t) (still t v) t asking (asks.Begin len) _ (λ owner.
      unless-P (After t) (still t v) (is_no_size t.setup len) (refusals.Size (max_len_of t.setup)) _ (λ size.
      unless-P (After t) (still t v) (nat_le t.setup.caps.segments (length t.segments)) (refusals.TableFull names.Segments) _ (λ room.
      unless-P (After t) (still t v) (has_no_number t) (refusals.TableFull names.Numbers) _ (λ number.
      unless-P (After t) (still t v) (nat_lt (subnet_count (terms_for t len words)) t.setup.n) (refusals.Few (subnet_count (terms_for t len words))) _ (λ enough.
      fit_begun len words owner size room number enough)))))
