-- What tallies, closes and rates change can be placed, and no change takes another's room.
use Rattle.std.proofs.Common.{◌≡◌, ℕ, ◌+◌, ◌/◌, ◌<◌, ◌≤◌, ◌^◌, Bool, true, false, not, List, [], ◌∷◌, ◌++◌, length, None, refl, arith}
use Rattle.std.specs.Prelude.{if◌then◌else◌, nat_le, nat_lt, ◌==◌, map}
use Rattle.std.specs.List.{list_all}
use Rattle.std.proofs.lemmas.Bool.Decides.{nat_tests}
use Rattle.std.proofs.lemmas.Bool.{and_from}
use Rattle.sat_base.specs.declared.ids.NodeId.{NodeId}
use Rattle.sat_base.specs.declared.limits.TheConstants as limits
use Rattle.sat_base.specs.declared.month.Month.{Month}
use Rattle.sat_base.specs.declared.rates.Rates.{Rates}
use Rattle.sat_base.specs.Ranks.{tariff_rank}
use Rattle.rows.specs.Rows.{row_at, AllAbove, IsRising}
use Rattle.node_registry.specs.declared.node.Node.{Node}
use Rattle.node_registry.specs.Registry.{node_rank, node_at}
use Rattle.tally_payout.specs.declared.amounts.Statement.{Statement}
use Rattle.tally_payout.specs.declared.amounts.Tally.{Tally}
use Rattle.tally_payout.specs.Ranks.{month_place, tally_rank, statement_rank}
use Rattle.month_pay.specs.Ledger.{month_rows}
use Rattle.month_pay.specs.Months.{month_at, month_of_hour}
use Rattle.month_pay.specs.Rule.{is_sound_statement}
use Rattle.month_pay.proofs.Closing.{old-below}
use Rattle.month_pay.proofs.ListFacts.{each-all}
use Rattle.month_pay.proofs.MonthFacts.{hour_month}
use Rattle.machine_calls.specs.declared.change.RecChange.TheVariants as changes
use Rattle.machine_calls.specs.declared.refusal.Refusal.TheVariants as refusals
use Rattle.machine_calls.specs.declared.refusal.TableName.TheVariants as names
use Rattle.machine_calls.specs.declared.reply.Reply.TheVariants as replies
use Rattle.machine_step.specs.Bounds.{Each, IsValid}
use Rattle.machine_step.specs.Calls.CloseMonth.{month_closed, close_next, close_month}
use Rattle.machine_step.specs.Calls.SetRates.{same_rates, rates_set, set_rates_first, set_rates_again, set_rates}
use Rattle.machine_step.specs.Calls.Statement.{statement}
use Rattle.machine_step.specs.Calls.TallyHour.{tally_of, hour_rows, hour_tallied, tally_hour}
use Rattle.machine_step.specs.Outcome.{unchanged}
use Rattle.machine_step.specs.Stored.{stored_bytes}
use Rattle.machine_step.specs.Tables.{Tables, ledger_of}
use Rattle.machine_step.proofs.Calls.CloseMonth as closing
use Rattle.machine_step.proofs.Calls.TallyHour as tallying
use Rattle.machine_step.proofs.HourRows.{nodes_are, hour_of}
use Rattle.machine_step.proofs.MarkLemmas.{month-open, month-first}
use Rattle.machine_step.proofs.Outcomes.{unless-P, with_record-P, if_found-P, if-P}
use Rattle.machine_step.proofs.Paid.{statements_of}
use Rattle.machine_step.proofs.StoredMost.{stored-most}
use Rattle.machine_store.specs.Store.{IsOpenIn, IsTallyPlaceable, IsStatementPlaceable, ArePlaceable, spares, are_orderly}
use Rattle.sat_machine.proofs.Doable.{IsDoable, still, tame-all}

-- ---- rows behind others

module _ {R : Type 0} (rank : R → ℕ) where
  none-above : (rows : List R) (b k : ℕ) → Each (λ row. rank row ≤ b) rows → b < k → row_at rank rows k ≡ None
  none-above [] b k each lt = refl
  none-above (row ∷ rows) b k each lt = let first = each.0 in grind (arith, nat_tests, first, lt, none-above rows b k each.1 lt)

  none-below : (rows : List R) (k : ℕ) → Each (λ row. rank row < k) rows → row_at rank rows k ≡ None
  none-below [] k each = refl
  none-below (row ∷ rows) k each = let first = each.0 in grind (arith, nat_tests, first, none-below rows k each.1)

  rising-right : (xs ys : List R) → IsRising rank (xs ++ ys) → IsRising rank ys
  rising-right [] ys rising = rising
  rising-right (x ∷ xs) ys rising = rising-right xs ys rising.1

  above-right : (xs ys : List R) (n : ℕ) → AllAbove rank n (xs ++ ys) → AllAbove rank n ys
  above-right [] ys n above = above
  above-right (x ∷ xs) ys n above = above-right xs ys n above.1

  each-above : (n : ℕ) (ys : List R) → AllAbove rank n ys → Each (λ y. n < rank y) ys
  each-above n [] above = tt
  each-above n (y ∷ ys) above = (above.0, each-above n ys above.1)

  below-more : (x : R) (xs ys : List R) → Each (λ y. rank x < rank y) ys → Each (λ y. Each (λ row. rank row < rank y) xs) ys → Each (λ y. Each (λ row. rank row < rank y) (x ∷ xs)) ys
  below-more x xs [] first rest = tt
  below-more x xs (y ∷ ys) first rest = ((first.0, rest.0), below-more x xs ys first.1 rest.1)

  none-first : (ys : List R) → Each (λ y. Each (λ row. rank row < rank y) []) ys
  none-first [] = tt
  none-first (y ∷ ys) = (tt, none-first ys)

  -- each of the later rows is above all of the earlier ones
  all-below : (xs ys : List R) → IsRising rank (xs ++ ys) → Each (λ y. Each (λ row. rank row < rank y) xs) ys
  all-below [] ys rising = none-first ys
  all-below (x ∷ xs) ys rising = below-more x xs ys (each-above (rank x) ys (above-right xs ys (rank x) rising.0)) (all-below xs ys rising.1)

module _ (t : Tables) (v : IsValid t) where
  -- no node has a statement of a month that isn't closed
  pub open-in : (month : ℕ) (node : NodeId) → t.marks.month.0 ≤ month → 1 ≤ node.0 → IsOpenIn t month node
  open-in month node le some =
      let closed = month_place t.marks.month.0 0 in
      none-above statement_rank t.statements closed (month_place month node.0)
      (each-all (is_sound_statement (ledger_of t)) (λ s. statement_rank s ≤ closed) (old-below (ledger_of t) (nodes_are t v) (month-first t.setup t.marks v.rules.marks)) t.statements (statements_of t v).rule.all)
      (omega (arith, le, some))

  -- ---- statements

  statements-placeable : (rows : List Statement) → Each (λ s. IsStatementPlaceable t s) rows → ArePlaceable t (map changes.Statement rows)
  statements-placeable [] each = tt
  statements-placeable (s ∷ rows) each = (each.0, statements-placeable rows each.1)

  spared-statements : (s : Statement) (rows : List Statement) → AllAbove statement_rank (statement_rank s) rows → list_all (spares (changes.Statement s)) (map changes.Statement rows) ≡ true
  spared-statements s [] above = refl
  spared-statements s (row ∷ rows) above = let first = above.0 in and_from _ _ (grind (arith, nat_tests, first)) (spared-statements s rows above.1)

  statements-orderly : (rows : List Statement) → IsRising statement_rank rows → are_orderly (map changes.Statement rows) ≡ true
  statements-orderly [] rising = refl
  statements-orderly (s ∷ rows) rising = and_from _ _ (spared-statements s rows rising.0) (statements-orderly rows rising.1)

  -- ---- tallies

  tallies-placeable : (rows : List Tally) → Each (IsTallyPlaceable t) rows → ArePlaceable t (map changes.Tally rows)
  tallies-placeable [] each = tt
  tallies-placeable (row ∷ rows) each = (each.0, tallies-placeable rows each.1)

  spared-tallies : (tally : Tally) (rows : List Tally) → AllAbove tally_rank (tally_rank tally) rows → list_all (spares (changes.Tally tally)) (map changes.Tally rows) ≡ true
  spared-tallies tally [] above = refl
  spared-tallies tally (row ∷ rows) above = let first = above.0 in and_from _ _ (grind (arith, nat_tests, first)) (spared-tallies tally rows above.1)

  tallies-orderly : (rows : List Tally) → IsRising tally_rank rows → are_orderly (map changes.Tally rows) ≡ true
  tallies-orderly [] rising = refl
  tallies-orderly (row ∷ rows) rising = and_from _ _ (spared-tallies row rows rising.0) (tallies-orderly rows rising.1)

  module _ (time : ℕ) (le : t.marks.time ≤ time) (lt : time < 2 ^ 36) where
    able : (nodes : List Node) → AllAbove node_rank 0 nodes → Each (λ tally. Each (λ row. tally_rank row < tally_rank tally) t.tallies) (hour_of t v (time / 3600) nodes)
        → Each (IsTallyPlaceable t) (hour_of t v (time / 3600) nodes)
    able [] some below = tt
    able (node ∷ rest) some below = go (not (stored_bytes t.setup t.segments node == 0)) (able rest some.1) below
      where
        hour : ℕ
        hour = time / 3600

        go : (b : Bool) → (Each (λ tally. Each (λ row. tally_rank row < tally_rank tally) t.tallies) (hour_of t v hour rest) → Each (IsTallyPlaceable t) (hour_of t v hour rest))
            → Each (λ tally. Each (λ row. tally_rank row < tally_rank tally) t.tallies) (if b then tally_of t hour node ∷ hour_of t v hour rest else hour_of t v hour rest)
            → Each (IsTallyPlaceable t) (if b then tally_of t hour node ∷ hour_of t v hour rest else hour_of t v hour rest)
        go true later below =
            let begun = month-open t.setup t.marks time le v.rules.marks in
            let month : t.marks.month.0 ≤ month_of_hour hour = rw (hour_month time) begun in (
              record {
                absent = none-below tally_rank t.tallies (tally_rank (tally_of t hour node)) below.0;
                unstated = open-in (month_of_hour hour) node.id month some.0;
                small = stored-most t v node;
                early = omega (arith, lt);
              },
              later below.1,
            )
        go false later below = later below

    doable_hour_tallied : nat_lt (time / 3600) t.marks.hour.0 ≡ false → IsDoable t (hour_tallied t time)
    unfolding hour_rows
    doable_hour_tallied fresh =
        let hour = time / 3600 in
        let rises = tallying.rows_rise t v time le lt fresh in
        let rows = hour_rows t hour in
        record {
          placeable = (tt, tallies-placeable rows (able t.nodes (nodes_are t v).some (all-below tally_rank t.tallies rows rises)));
          orderly = and_from _ _ (tame-all (changes.Marks (record t.marks { time = time; hour = record { 0 = hour + 1 } })) (map changes.Tally rows) refl) (tallies-orderly rows (rising-right tally_rank t.tallies rows rises));
        }

    pub doable_tally_hour : IsDoable t (tally_hour t time)
    doable_tally_hour =
        unless-P (IsDoable t) (still t) (nat_lt (time / 3600) t.marks.hour.0) (refusals.HourDone t.marks.hour) _ (λ fresh.
        unless-P (IsDoable t) (still t) (nat_lt t.setup.caps.tallies (length t.tallies + length (hour_rows t (time / 3600)))) (refusals.TableFull names.Tallies) (hour_tallied t time) (λ room. doable_hour_tallied fresh))

    -- ---- the close of a month

    doable_month_closed : IsDoable t (month_closed t time)
    doable_month_closed =
        let rises = closing.rows_rise t v time le lt in
        let rows = month_rows (ledger_of t) t.marks.month.0 in
        record {
          placeable = (tt, statements-placeable rows (all-below statement_rank t.statements rows rises));
          orderly = and_from _ _ (tame-all (changes.Marks (record t.marks { time = time; month = record { 0 = t.marks.month.0 + 1 } })) (map changes.Statement rows) refl) (statements-orderly rows (rising-right statement_rank t.statements rows rises));
        }

    pub doable_close_month : (month : Month) → IsDoable t (close_month t time month)
    doable_close_month month =
        unless-P (IsDoable t) (still t) (nat_le (month_at time) month.0) (refusals.MonthOpen (record { 0 = month_at time })) _ (λ over.
        unless-P (IsDoable t) (still t) (nat_lt t.marks.month.0 month.0) (refusals.MonthOrder t.marks.month) _ (λ order.
        if-P (IsDoable t) (still t) (nat_lt month.0 t.marks.month.0) (unchanged (replies.Closed month false)) (close_next t time) (still t (replies.Closed month false))
        (unless-P (IsDoable t) (still t) (nat_lt t.setup.caps.statements (length t.statements + length (month_rows (ledger_of t) t.marks.month.0))) (refusals.TableFull names.Statements) (month_closed t time) (λ room. doable_month_closed))))

  -- ---- rates and statements

  pub doable_set_rates : (time : ℕ) (month : Month) (rates : Rates) → IsDoable t (set_rates t time month rates)
  doable_set_rates time month rates =
      if_found-P (IsDoable t) (still t) (row_at tariff_rank t.tariffs month.0) (set_rates_first t time month rates) (set_rates_again t time month rates)
      (unless-P (IsDoable t) (still t) (nat_le month.0 (month_at time)) (refusals.MonthBegun (record { 0 = month_at time })) _ (λ ahead.
      unless-P (IsDoable t) (still t) (nat_le limits.TARIFFS (length t.tariffs)) (refusals.TableFull names.Tariffs) (rates_set t time month rates) (λ room.
      record { placeable = (tt, (tt, tt)); orderly = refl })))
      (λ found at.
      if-P (IsDoable t) (still t) (same_rates found.rates rates) (unchanged (replies.RatesSet month)) _ (still t (replies.RatesSet month))
      (unless-P (IsDoable t) (still t) (nat_le month.0 (month_at time)) (refusals.MonthBegun (record { 0 = month_at time })) (rates_set t time month rates) (λ ahead.
      record { placeable = (tt, (tt, tt)); orderly = refl })))

  pub doable_statement : (node : NodeId) (month : Month) → IsDoable t (statement t node month)
  doable_statement node month =
      with_record-P (IsDoable t) (still t) (node_at t.nodes node) (refusals.NoNode node) _ (λ found at.
      unless-P (IsDoable t) (still t) (nat_le t.marks.month.0 month.0) (refusals.MonthOrder t.marks.month) _ (λ past.
      with_record-P (IsDoable t) (still t) (row_at statement_rank t.statements (month_place month.0 node.0)) (refusals.NoStatement month) _ (λ s there. still t (replies.Statement s))))
