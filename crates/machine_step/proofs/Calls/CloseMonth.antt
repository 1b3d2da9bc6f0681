-- What closing a month changes fits.
use Rattle.std.proofs.Common.{◌≡◌, ℕ, ◌+◌, ◌<◌, ◌≤◌, ◌^◌, Bool, true, false, List, [], ◌∷◌, ◌++◌, length, Some, refl, sym, ap, subst, ◌∙◌, length-append, arith}
use Rattle.std.specs.Prelude.{nat_lt, nat_le, if◌then◌else◌}
use Rattle.std.proofs.lemmas.Bool.Decides.{nat_tests}
use Rattle.sat_base.specs.declared.month.Month.{Month}
use Rattle.sat_base.specs.declared.settings.Marks.{Marks}
use Rattle.rows.specs.Rows.{row_at, IsRising}
use Rattle.tally_payout.specs.declared.amounts.Statement.{Statement}
use Rattle.tally_payout.specs.Ranks.{statement_rank}
use Rattle.month_pay.specs.Months.{month_at}
use Rattle.month_pay.specs.Ledger.{month_rows}
use Rattle.month_pay.proofs.ListFacts.{with_rows-appended}
use Rattle.month_pay.proofs.Closing.{close_keeps, closed-rising}
use Rattle.machine_calls.specs.declared.reply.Reply.TheVariants as replies
use Rattle.machine_calls.specs.declared.refusal.Refusal.TheVariants as refusals
use Rattle.machine_calls.specs.declared.refusal.TableName.TheVariants as names
use Rattle.machine_step.specs.Tables.{Tables, ledger_of, all_changed}
use Rattle.machine_step.specs.Outcome.{unchanged}
use Rattle.machine_step.specs.Calls.CloseMonth.{month_closed, close_next, close_month}
use Rattle.machine_step.specs.Bounds.{IsValid}
use Rattle.machine_step.proofs.Outcomes.{unless-P}
use Rattle.machine_step.proofs.GrowthLemmas.{plan-most, segment-most, serial-most}
use Rattle.machine_step.proofs.MarkLemmas.{month-first, hour-most}
use Rattle.machine_step.proofs.Steady.{MarksFit}
use Rattle.machine_step.proofs.Paid.{IsPaid, statements_of}
use Rattle.machine_step.proofs.Fits.{After, still, fitting_paid}
use Rattle.machine_step.proofs.HourRows.{nodes_are}
use Rattle.machine_step.proofs.PutLemmas.{put_statements, fit-statements}

found_before : (xs ys : List Statement) (place : ℕ) (s : Statement) → row_at statement_rank xs place ≡ Some s → row_at statement_rank (xs ++ ys) place ≡ Some s
found_before [] ys place s at = absurd cc
found_before (x ∷ xs) ys place s at = grind (arith, nat_tests, at, found_before xs ys place s)

module _ (t : Tables) (v : IsValid t) (time : ℕ) (le : t.marks.time ≤ time) (lt : time < 2 ^ 36) where
  -- the marks behind the month
  abbrev closed : Marks
  closed = record t.marks { time = time; month = record { 0 = t.marks.month.0 + 1 } }

  pub rows_rise : IsRising statement_rank (t.statements ++ month_rows (ledger_of t) t.marks.month.0)
  rows_rise = let hold = statements_of t v in closed-rising (ledger_of t) (nodes_are t v) (month-first t.setup t.marks v.rules.marks) hold.rule.all hold.rising

  closed_is : all_changed t (month_closed t time).changes ≡ record t { marks = closed; statements = t.statements ++ month_rows (ledger_of t) t.marks.month.0 }
  closed_is =
      put_statements (month_rows (ledger_of t) t.marks.month.0) (record t { marks = closed })
      ∙ ap (λ (rows : List Statement). record t { marks = closed; statements = rows }) (with_rows-appended statement_rank t.statements (month_rows (ledger_of t) t.marks.month.0) rows_rise)

  paid : nat_lt t.setup.caps.statements (length t.statements + length (month_rows (ledger_of t) t.marks.month.0)) ≡ false → IsPaid t (all_changed t (month_closed t time).changes)
  paid room =
      let new = month_rows (ledger_of t) t.marks.month.0 in
      let few : length t.statements + length new ≤ t.setup.caps.statements = grind (arith, nat_tests, room) in
      let hold = statements_of t v in
      subst (λ (x : Tables). IsPaid t x) (sym closed_is) (record {
        holds = record {
          rule = close_keeps (ledger_of t) (nodes_are t v) (month-first t.setup t.marks v.rules.marks) t.setup.caps.statements hold.rule (omega (arith, few, length-append t.statements new));
          rising = rows_rise;
        };
        closed = record { sums = λ node month below. refl; statements = λ place s at. found_before t.statements new place s at };
      })

  marks_fit : t.marks.month.0 < month_at time → MarksFit t.marks closed
  marks_fit over = record {
    later = record { time = le; segment = omega arith; serial = omega arith; plan = omega arith; month = omega arith; hour = omega arith };
    time = lt;
    begun = omega (arith, over);
    hour = hour-most t.setup t.marks time le v.rules.marks;
    segment = segment-most t.setup t.marks v.rules.marks;
    serial = serial-most t.setup t.marks v.rules.marks;
    plan = plan-most t.setup t.marks v.rules.marks;
  }

  fit_close_next : t.marks.month.0 < month_at time → After t (close_next t time)
  fit_close_next over =
      let new = month_rows (ledger_of t) t.marks.month.0 in
      unless-P (After t) (still t v) (nat_lt t.setup.caps.statements (length t.statements + length new)) (refusals.TableFull names.Statements) (month_closed t time) (λ room.
      fitting_paid t v (month_closed t time) (paid room) (marks_fit over, fit-statements t.marks.segment new (record t { marks = closed })))

  pub fit_close_month : (month : Month) → After t (close_month t time month)
  fit_close_month month =
      unless-P (After t) (still t v) (nat_le (month_at time) month.0) (refusals.MonthOpen (record { 0 = month_at time })) _ (λ over.
      unless-P (After t) (still t v) (nat_lt t.marks.month.0 month.0) (refusals.MonthOrder t.marks.month) _ (λ order.
      go over order (nat_lt month.0 t.marks.month.0) refl))
    where
      go : nat_le (month_at time) month.0 ≡ false → nat_lt t.marks.month.0 month.0 ≡ false → (b : Bool) → nat_lt month.0 t.marks.month.0 ≡ b → After t (if b then unchanged (replies.Closed month false) else close_next t time)
      go over order true is = still t v (replies.Closed month false)
      go over order false is = let past : t.marks.month.0 < month_at time = grind (arith, nat_tests, over, order, is) in fit_close_next past
