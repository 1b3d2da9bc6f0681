use Rattle.std.proofs.Common.{◌≡◌, ◌^◌, ◌<◌, List, [], length, take, Some, ap, sym, subst, ◌∙◌, arith}
use Rattle.std.specs.Prelude.{slice_get, slice_index_or}
use Rattle.std.proofs.lemmas.List.{take_all}
use Rattle.std.proofs.lemmas.Option.{slice_get-get_or}
use Rattle.rows.specs.Slots.{Slots}
use Rattle.settlement.specs.declared.row.SettledRow.{SettledRow}
use Rattle.settlement.specs.Rows.{key}
use Rattle.tally_payout.specs.declared.amounts.Tally.{Tally}
use Rattle.tally_payout.specs.Ranks.{tally_rank}
use Rattle.month_pay.specs.Months.{month_at, month_of_hour}
use Rattle.month_sums.specs.declared.sums.OpenSums.{OpenSums}
use Rattle.month_sums.specs.Open.{GoByRows}
use Rattle.month_sums.specs.Counting.{AreSmall}
use Rattle.month_sums.proofs.Counted.{none_counted, next_absent, next_behind, counted_fit, each-more}
use Rattle.month_sums.proofs.counting.count_all.Goals as goal

-- what stands for a tally where there is none
abbrev none : Tally
none = record { hour = record { 0 = 0 }; node = record { 0 = 0 }; bytes = 0 }

pub loop-i-init : goal.loop-i-init
loop-i-init c = record { counts = subst (λ (s : Slots OpenSums). GoByRows s.rows [] [] []) (sym c.new-counted.ensures) none_counted; small = tt }

pub count_settled-requires : goal.count_settled-requires
count_settled-requires c =
    let row = c.index-settled-i.result in
    record { room = λ low. counted_fit c.loop-i.counted.rows c.args.settled.now c.args.tallies.now c.loop-i.i 0 row.node (month_at row.at) c.requires.orders c.loop-i.invariant.small c.requires.hours low c.loop-i.invariant.counts }

pub loop-i-preserved : goal.loop-i-preserved
loop-i-preserved c =
    let settled = c.args.settled.now in
    let i = c.loop-i.i in
    let row = c.index-settled-i.result in
    let rising = c.requires.orders.rising in
    let got : slice_get settled i ≡ Some row = slice_get-get_or settled i row c.loop-i-test.true ∙ ap Some (sym c.index-settled-i.is) in
    record {
      counts = subst (λ (xs : List SettledRow). GoByRows c.count_settled.new.counted.rows xs [] []) (next_behind key settled i row rising got)
          (c.in_ok-count_settled.ensures.counts (take i settled) [] [] (next_absent key settled i row rising got) c.loop-i.invariant.counts);
      small = each-more (λ (x : SettledRow). x.amount < 2 ^ 64) settled i row c.loop-i.invariant.small got c.in_ok-count_settled.ensures.small;
    }

pub count_tally-requires-clause-room : goal.count_tally-requires-clause-room
count_tally-requires-clause-room c low =
    let settled = c.args.settled.now in
    let rows = c.loop-j.counted.rows in
    let row = slice_index_or c.args.tallies.now c.loop-j.j none in
    let all = sym (take_all (length settled) settled (omega arith)) in
    let small = subst AreSmall all c.loop-j.invariant.small in
    counted_fit rows settled c.args.tallies.now (length settled) c.loop-j.j row.node (month_of_hour row.hour.0) c.requires.orders small c.requires.hours low
    (subst (λ (xs : List SettledRow). GoByRows rows xs (take c.loop-j.j c.args.tallies.now) []) all c.loop-j.invariant.counts)

pub loop-j-preserved : goal.loop-j-preserved
loop-j-preserved c =
    let settled = c.args.settled.now in
    let tallies = c.args.tallies.now in
    let j = c.loop-j.j in
    let row = slice_index_or tallies j none in
    let rising = c.requires.hours.rising in
    let got : slice_get tallies j ≡ Some row = slice_get-get_or tallies j none c.loop-j-test.true in
    record {
      counts = subst (λ (xs : List Tally). GoByRows c.count_tally.new.counted.rows settled xs []) (next_behind tally_rank tallies j row rising got)
          (c.in_ok-count_tally.ensures settled (take j tallies) [] (next_absent tally_rank tallies j row rising got) c.loop-j.invariant.counts);
      small = c.loop-j.invariant.small;
    }

pub returns-clause-fit : goal.returns-clause-fit
returns-clause-fit c node month low =
    let settled = c.args.settled.now in
    let rows = c.loop-j.counted.rows in
    let all = sym (take_all (length settled) settled (omega arith)) in
    let small = subst AreSmall all c.loop-j.invariant.small in
    counted_fit rows settled c.args.tallies.now (length settled) c.loop-j.j node month c.requires.orders small c.requires.hours low
    (subst (λ (xs : List SettledRow). GoByRows rows xs (take c.loop-j.j c.args.tallies.now) []) all c.loop-j.invariant.counts)
