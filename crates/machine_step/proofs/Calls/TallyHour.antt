-- What tallying an hour changes fits.
use Rattle.std.proofs.Common.{◌≡◌, ℕ, ◌+◌, ◌*◌, ◌/◌, ◌<◌, ◌≤◌, ◌^◌, true, false, List, ◌∷◌, ◌++◌, length, refl, sym, ap, subst, ◌∙◌, arith}
use Rattle.std.specs.Prelude.{nat_lt, map}
use Rattle.std.proofs.lemmas.Bool.Decides.{nat_tests}
use Rattle.sat_base.specs.declared.settings.Marks.{Marks}
use Rattle.rows.specs.Rows.{IsRising}
use Rattle.node_registry.specs.Registry.{node_rank}
use Rattle.tally_payout.specs.declared.amounts.Tally.{Tally}
use Rattle.tally_payout.specs.Ranks.{tally_rank}
use Rattle.month_pay.specs.Keeping.{SamePay}
use Rattle.month_pay.proofs.MonthFacts.{hour_month}
use Rattle.month_pay.proofs.ListFacts.{rising-append, with_rows-appended, each-all, each-at}
use Rattle.month_pay.proofs.Steps.{same_tallied}
use Rattle.machine_calls.specs.declared.refusal.Refusal.TheVariants as refusals
use Rattle.machine_calls.specs.declared.refusal.TableName.TheVariants as names
use Rattle.machine_step.specs.Tables.{Tables, ledger_of, all_changed}
use Rattle.machine_step.specs.Calls.TallyHour.{hour_rows, hour_tallied, tally_hour}
use Rattle.machine_step.specs.Rules.{is_sound_tally}
use Rattle.machine_step.specs.Bounds.{IsValid}
use Rattle.machine_step.proofs.Outcomes.{unless-P}
use Rattle.machine_step.proofs.GrowthLemmas.{plan-most, segment-most, serial-most}
use Rattle.machine_step.proofs.MarkLemmas.{month-open}
use Rattle.machine_step.proofs.Steady.{MarksFit}
use Rattle.machine_step.proofs.Validity.{steady_of}
use Rattle.machine_step.proofs.Fits.{After, still, fitting}
use Rattle.machine_step.proofs.HourRows.{nodes_are, hours, hour-above, hour-rise, hour-sound, tally-low}
use Rattle.machine_step.proofs.PutLemmas.{put_tallies, fit-tallies}

module _ (t : Tables) (v : IsValid t) (time : ℕ) (le : t.marks.time ≤ time) (lt : time < 2 ^ 36) where
  -- the marks behind the hour
  abbrev tallied : Marks
  tallied = record t.marks { time = time; hour = record { 0 = time / 3600 + 1 } }

  pub rows_rise : nat_lt (time / 3600) t.marks.hour.0 ≡ false → IsRising tally_rank (t.tallies ++ hour_rows t (time / 3600))
  unfolding hour_rows
  rows_rise fresh =
      let hour = time / 3600 in
      let late : t.marks.hour.0 ≤ hour = grind (arith, nat_tests, fresh) in
      let hold = (steady_of t v).tallies in
      let nodes = nodes_are t v in
      let below : (row : Tally) → is_sound_tally t.marks t.nodes row ≡ true → tally_rank row ≤ hour * 2 ^ 32 + 0 = λ row sound. let low = tally-low t v row sound in omega (arith, low.0, low.1, late) in
      rising-append tally_rank t.tallies (hour_rows t hour) (hour * 2 ^ 32 + 0) hold.rising (hour-rise t v hour t.nodes nodes.rising)
      (each-all (is_sound_tally t.marks t.nodes) (λ row. tally_rank row ≤ hour * 2 ^ 32 + 0) below t.tallies hold.all) (hour-above t v hour t.nodes 0 nodes.some)

  tallied_is : nat_lt (time / 3600) t.marks.hour.0 ≡ false → all_changed t (hour_tallied t time).changes ≡ record t { marks = tallied; tallies = t.tallies ++ hour_rows t (time / 3600) }
  tallied_is fresh =
      put_tallies (hour_rows t (time / 3600)) (record t { marks = tallied })
      ∙ ap (λ (rows : List Tally). record t { marks = tallied; tallies = rows }) (with_rows-appended tally_rank t.tallies (hour_rows t (time / 3600)) (rows_rise fresh))

  pay : nat_lt (time / 3600) t.marks.hour.0 ≡ false → SamePay (ledger_of t) (ledger_of (all_changed t (hour_tallied t time).changes))
  unfolding hour_rows
  pay fresh =
      let hour = time / 3600 in
      let open_month = month-open t.setup t.marks time le v.rules.marks in
      subst (λ (x : Tables). SamePay (ledger_of t) (ledger_of x)) (sym (tallied_is fresh))
      (same_tallied (ledger_of t) (hour_rows t hour) hour (hours t v hour t.nodes) (rw (hour_month time) open_month))

  marks_fit : nat_lt (time / 3600) t.marks.hour.0 ≡ false → MarksFit t.marks tallied
  marks_fit fresh =
      let late : t.marks.hour.0 ≤ time / 3600 = grind (arith, nat_tests, fresh) in
      record {
        later = record { time = le; segment = omega arith; serial = omega arith; plan = omega arith; month = omega arith; hour = omega (arith, late) };
        time = lt;
        begun = month-open t.setup t.marks time le v.rules.marks;
        hour = omega arith;
        segment = segment-most t.setup t.marks v.rules.marks;
        serial = serial-most t.setup t.marks v.rules.marks;
        plan = plan-most t.setup t.marks v.rules.marks;
      }

  fit_hour_tallied : nat_lt (time / 3600) t.marks.hour.0 ≡ false → nat_lt t.setup.caps.tallies (length t.tallies + length (hour_rows t (time / 3600))) ≡ false → After t (hour_tallied t time)
  unfolding hour_rows
  fit_hour_tallied fresh room =
      let hour = time / 3600 in
      let few : length t.tallies + length (hour_rows t hour) ≤ t.setup.caps.tallies = grind (arith, nat_tests, room) in
      let sound = hour-sound t v hour tallied t.nodes (omega arith) (each-at node_rank t.nodes (nodes_are t v).rising) in
      fitting t v (hour_tallied t time) (pay fresh) (marks_fit fresh, fit-tallies t.marks.segment (hour_rows t hour) (record t { marks = tallied }) sound few)

  pub fit_tally_hour : After t (tally_hour t time)
  fit_tally_hour =
      unless-P (After t) (still t v) (nat_lt (time / 3600) t.marks.hour.0) (refusals.HourDone t.marks.hour) _ (λ fresh.
      unless-P (After t) (still t v) (nat_lt t.setup.caps.tallies (length t.tallies + length (hour_rows t (time / 3600)))) (refusals.TableFull names.Tallies) (hour_tallied t time) (fit_hour_tallied fresh))
