-- What rows that keep their rules are bounded by.
use Rattle.std.proofs.Common.{◌≡◌, ℕ, ◌+◌, ◌*◌, ◌/◌, ◌^◌, ◌<◌, ◌≤◌, true, List, [], length, None, refl, subst, arith}
use Rattle.std.specs.Prelude.{nat_lt, nat_le, All}
use Rattle.std.proofs.Math.Nat.{mul-le-mul_left}
use Rattle.std.proofs.lemmas.Bool.Decides.{nat_tests}
use Rattle.std.proofs.lemmas.Bool.{and_parts}
use Rattle.sat_base.specs.declared.limits.TheConstants as limits
use Rattle.sat_base.specs.declared.settings.Marks.{Marks}
use Rattle.sat_base.specs.declared.settings.Customer.{Customer}
use Rattle.sat_base.specs.declared.rates.Tariff.{Tariff}
use Rattle.sat_base.specs.Limits.{IsTariffWithin}
use Rattle.rows.specs.Rows.{Each, IsRising}
use Rattle.node_registry.specs.declared.node.Node.{Node}
use Rattle.segment_core.specs.Record.{SegmentRecord}
use Rattle.settlement.specs.declared.row.SettledRow.{SettledRow}
use Rattle.settlement.specs.Rows.{key}
use Rattle.tally_payout.specs.declared.amounts.Tally.{Tally}
use Rattle.tally_payout.specs.declared.amounts.Statement.{Statement}
use Rattle.tally_payout.specs.Ranks.{tally_rank}
use Rattle.tally_payout.specs.Tariff.{IsRates}
use Rattle.month_pay.specs.Keeping.{AreFit}
use Rattle.month_pay.proofs.Amounts.{rated}
use Rattle.month_pay.proofs.LastMonth.{month_most}
use Rattle.month_pay.proofs.ListFacts.{each-all, each-weaker}
use Rattle.month_sums.specs.declared.sums.OpenSums.{OpenSums}
use Rattle.month_sums.specs.Open.{GoByRows, AreInBounds}
use Rattle.month_sums.specs.Counting.{AreOrders, AreHours, AreSmall}
use Rattle.machine_step.specs.Bounds.{IsSetupWithin}
use Rattle.machine_step.specs.Broken.{first_some, broken_settled, broken_tallies}
use Rattle.machine_step.specs.Tables.{Setup, Tables, ledger_of, max_len_of}
use Rattle.machine_step.specs.Rules.{first_bad, is_known, are_sound_marks, is_sound_segment, breaks_segment, is_sound_settled, breaks_settled, is_sound_tally, breaks_tally}
use Rattle.machine_step.proofs.GrowthLemmas.{fine}
use Rattle.machine_step.proofs.MarkLemmas.{month-open, hour-most}
use Rattle.machine_step.proofs.RowLemmas.{capped-all, capped-length}
use Rattle.pay_tables.specs.InStep.{IsShort}
use Rattle.table_rules.specs.Statements.{IsLedgerOf}
use Rattle.machine_store.specs.declared.untested.PaidRows.{PaidRows}
use Rattle.machine_store.specs.declared.untested.Untested.{Untested}
use Rattle.machine_store.specs.Testing.{IsOpened, AreCounted, paid_tests, tables_in}
use Rattle.machine_store.proofs.OpeningLemmas.{none_first, none_later, none_mapped}

-- ---- segments

most_len : (share k len : ℕ) → 1 ≤ share → k ≤ 128 → len ≤ limits.PIECE / share * k * share → len < 2 ^ 40
most_len share k len some few le =
    let whole : share * (limits.PIECE / share) ≤ limits.PIECE = omega arith in
    let more : k * (share * (limits.PIECE / share)) ≤ k * limits.PIECE = mul-le-mul_left k whole in
    omega (arith, more, le, few)

short : (setup : Setup) (marks : Marks) (nodes : List Node) (customers : List Customer) → IsSetupWithin setup → (segment : SegmentRecord) → is_sound_segment setup marks nodes customers segment ≡ true → IsShort segment
short setup marks nodes customers within segment sound =
    let sized = (fine setup marks nodes customers segment sound).sized in
    let le : segment.len ≤ max_len_of setup = grind (arith, nat_tests, sized) in
    let scheme = within.scheme in
    most_len setup.share setup.k segment.len scheme.some_bytes (omega (arith, scheme.repairs_in_time, scheme.wants_more, scheme.tries_enough, scheme.few_pieces)) le

-- segments that keep their rule are short
short_unbroken : (setup : Setup) (marks : Marks) (nodes : List Node) (customers : List Customer) (segments : List SegmentRecord) → IsSetupWithin setup
    → first_bad (breaks_segment setup marks nodes customers) 0 segments ≡ None → Each IsShort segments
short_unbroken setup marks nodes customers segments within none =
    each-all (is_sound_segment setup marks nodes customers) IsShort (short setup marks nodes customers within) segments
    (capped-all setup.caps.segments (is_sound_segment setup marks nodes customers) segments 0 none)

-- ---- settled orders and tallies

settled_few : (setup : Setup) (marks : Marks) (nodes : List Node) (rows : List SettledRow) → first_bad (breaks_settled setup marks nodes) 0 rows ≡ None → length rows ≤ setup.caps.settled
settled_few setup marks nodes rows none =
    let few : 0 + length rows ≤ setup.caps.settled = capped-length setup.caps.settled (is_sound_settled marks nodes) rows 0 none (omega arith) in
    omega (arith, few)

orders_unbroken : (setup : Setup) (marks : Marks) (nodes : List Node) (rows : List SettledRow) → IsSetupWithin setup → IsRising key rows
    → first_bad (breaks_settled setup marks nodes) 0 rows ≡ None → AreOrders rows
orders_unbroken setup marks nodes rows within rising none =
    record { rising = rising; few = omega (arith, settled_few setup marks nodes rows none, within.caps.settled.1) }

module _ (setup : Setup) (marks : Marks) (nodes : List Node) (sound : are_sound_marks setup marks ≡ true) (time : marks.time < 2 ^ 36) where
  hour-early : (row : Tally) → is_sound_tally marks nodes row ≡ true → row.hour.0 * 3600 < 2 ^ 36
  hour-early row is =
      let parts = and_parts (is_known nodes row.node) _ is in
      let hour = (and_parts (nat_lt row.hour.0 marks.hour.0) _ parts.1).0 in
      let early : row.hour.0 < marks.hour.0 = grind (arith, nat_tests, hour) in
      let most = hour-most setup marks marks.time (omega arith) sound in
      omega (arith, early, most, time)

  bytes-most : (row : Tally) → is_sound_tally marks nodes row ≡ true → row.bytes ≤ 2 ^ 44
  bytes-most row is =
      let parts = and_parts (is_known nodes row.node) _ is in
      let more = and_parts (nat_lt row.hour.0 marks.hour.0) _ parts.1 in
      let bytes = (and_parts (nat_le 1 row.bytes) (nat_le row.bytes (2 ^ 44)) more.1).1 in
      grind (arith, nat_tests, bytes)

  hours_unbroken : (rows : List Tally) → IsSetupWithin setup → IsRising tally_rank rows → first_bad (breaks_tally setup marks nodes) 0 rows ≡ None → AreHours rows
  hours_unbroken rows within rising none =
      let all = capped-all setup.caps.tallies (is_sound_tally marks nodes) rows 0 none in
      let few : 0 + length rows ≤ setup.caps.tallies = capped-length setup.caps.tallies (is_sound_tally marks nodes) rows 0 none (omega arith) in
      record {
        rising = rising;
        small = each-all (is_sound_tally marks nodes) (λ row. row.bytes ≤ 2 ^ 44) bytes-most rows all;
        few = omega (arith, few, within.caps.tallies.1);
        early = each-all (is_sound_tally marks nodes) (λ row. row.hour.0 * 3600 < 2 ^ 36) hour-early rows all;
      }

pub month_last : (setup : Setup) (marks : Marks) → are_sound_marks setup marks ≡ true → marks.time < 2 ^ 36 → marks.month.0 ≤ limits.LAST_MONTH
month_last setup marks sound time = omega (arith, month-open setup marks marks.time (omega arith) sound, month_most marks.time time)

-- ---- the ledger

within_rates : (tariff : Tariff) → IsTariffWithin tariff → IsRates tariff.rates
within_rates tariff within = record { fetching = omega (arith, within.rates.get); auditing = omega (arith, within.rates.audit); repairing = omega (arith, within.rates.repair); keeping = omega (arith, within.rates.storage) }

each_rates : (tariffs : List Tariff) → Each IsTariffWithin tariffs → Each (λ tariff. IsRates tariff.rates) tariffs
each_rates tariffs each = each-weaker IsTariffWithin (λ tariff. IsRates tariff.rates) within_rates tariffs each

pub rates_within : (tariffs : List Tariff) → Each IsTariffWithin tariffs → All (λ tariff. IsRates tariff.rates) tariffs
rates_within tariffs each = rated tariffs (each_rates tariffs each)

ledger_fit : (t : Tables) (sums : List OpenSums) → IsOpened t → AreCounted t sums → AreFit (ledger_of t)
ledger_fit t sums opened counted = record {
  amounts = counted.small;
  orders = counted.orders.few;
  bytes = counted.hours.small;
  hours = counted.hours.few;
  rates = each_rates t.tariffs opened.tariffs;
  last = month_last t.setup t.marks opened.marks opened.time;
  begins = opened.setup.first_month.0;
}

-- it is that of the lists by which statements are tested
pub ledger_is : (by : Untested) (paid : PaidRows) (nodes : List Node) (statements : List Statement) (tariffs : List Tariff) (sums : List OpenSums)
    → nodes ≡ by.nodes.nodes → statements ≡ paid.statements.items → tariffs ≡ by.tariffs.items → IsOpened (tables_in by paid) → AreCounted (tables_in by paid) sums
    → IsLedgerOf (ledger_of (tables_in by paid)) by.settings by.marks nodes statements sums by.left.rows tariffs
ledger_is by paid nodes statements tariffs sums n s f opened counted = record {
  first = refl;
  next = refl;
  nodes_are = n;
  rows_are = s;
  left_is = refl;
  tariffs_are = f;
  sums = counted.rows;
  fit = ledger_fit (tables_in by paid) sums opened counted;
  numbered = opened.nodes;
  rising = opened.statements;
}

-- ---- what is known once the rules up to statements are kept

module _ (t : Tables) where
  -- the rows that are summed up
  pub orders_kept : IsOpened t → broken_settled t.setup t.marks t.nodes t.settled ≡ None → AreOrders t.settled
  orders_kept opened kept = orders_unbroken t.setup t.marks t.nodes t.settled opened.setup opened.settled (none_mapped _ _ kept)

  pub hours_kept : IsOpened t → broken_tallies t.setup t.marks t.nodes t.tallies ≡ None → AreHours t.tallies
  hours_kept opened kept = hours_unbroken t.setup t.marks t.nodes opened.marks opened.time t.tallies opened.setup opened.tallies (none_mapped _ _ kept)

  -- the sums are those of equal rows
  pub counted_is : (settled : List SettledRow) (tallies : List Tally) (sums : List OpenSums) → settled ≡ t.settled → tallies ≡ t.tallies → AreOrders t.settled → AreHours t.tallies
      → GoByRows sums settled tallies [] → AreInBounds sums → AreSmall settled → AreCounted t sums
  counted_is settled tallies sums s a orders hours rows fit small = record {
    rows = subst (λ (xs : List Tally). GoByRows sums t.settled xs []) a (subst (λ (xs : List SettledRow). GoByRows sums xs tallies []) s rows);
    fit = fit;
    orders = orders;
    small = subst AreSmall s small;
    hours = hours;
  }

  module _ (kept : first_some (paid_tests t) ≡ None) where
    pub paid_short : IsSetupWithin t.setup → Each IsShort t.segments
    paid_short within = short_unbroken t.setup t.marks t.nodes t.customers t.segments within (none_mapped _ _ (none_first _ _ kept))

    pub paid_few : length t.settled ≤ t.setup.caps.settled
    paid_few = settled_few t.setup t.marks t.nodes t.settled (none_mapped _ _ (none_first _ _ (none_later _ _ kept)))
