-- What is in step stays so where a row is put.
use Rattle.std.proofs.Common.{◌≡◌, ℕ, suc, ◌*◌, ◌^◌, ◌<◌, ◌≤◌, Bool, true, false, List, [], ◌∷◌, length, Some, None, refl, sym, ap, subst, ◌∙◌, arith}
use Rattle.std.specs.Prelude.{if◌then◌else◌, ◌==◌, slice_get}
use Rattle.std.proofs.lemmas.Bool.Decides.{nat_tests}
use Rattle.sat_base.specs.declared.ids.NodeId.{NodeId}
use Rattle.rows.specs.Rows.{Each, row_at, without, IsRising}
use Rattle.rows.specs.Slots.{with_row}
use Rattle.rows.proofs.Found.{row_at-with_row, row_at-without}
use Rattle.segment_core.specs.Record.{SegmentRecord}
use Rattle.settlement.specs.declared.row.SettledRow.{SettledRow}
use Rattle.tally_payout.specs.declared.amounts.Statement.{Statement}
use Rattle.tally_payout.specs.declared.amounts.Tally.{Tally}
use Rattle.tally_payout.specs.Ranks.{month_place, statement_rank, tally_rank}
use Rattle.month_sums.specs.declared.sums.OpenSums.{OpenSums}
use Rattle.month_sums.specs.Open.{open_rank, sums_in, sums_at, GoByRows}
use Rattle.machine_step.specs.Tables.{Setup}
use Rattle.pay_tables.specs.declared.balance.Balance.{Balance}
use Rattle.pay_tables.specs.declared.tables.PayTables.{PayTables}
use Rattle.pay_tables.specs.Amounts.{balance_rank, GoBySegments, GoByStatements}
use Rattle.pay_tables.specs.InStep.{IsInStep}
use Rattle.pay_tables.specs.Placed.{KeepsRows}
use Rattle.pay_tables.proofs.Pots.{put-behind, pots-behind}
use Rattle.pay_tables.proofs.RowFacts.{not-there}

-- ---- rows that stay

pub rows-stay : (setup : Setup) (segments : List SegmentRecord) (settled : List SettledRow) (old new : PayTables) → KeepsRows old new → IsInStep setup segments settled old → IsInStep setup segments settled new
rows-stay setup segments settled old new keeps step = record {
  sums = subst (λ (rows : List Statement). GoByRows new.sums.rows settled new.tallies.rows rows) (sym keeps.statements)
      (subst (λ (rows : List Tally). GoByRows new.sums.rows settled rows old.statements.rows) (sym keeps.tallies)
      (subst (λ (rows : List OpenSums). GoByRows rows settled old.tallies.rows old.statements.rows) (sym keeps.sums) step.sums));
  stored = subst (λ (rows : List Balance). GoBySegments setup rows segments) (sym keeps.stored) step.stored;
  pots = subst (λ (rows : List Statement). GoByStatements new.pots.rows rows) (sym keeps.statements)
      (subst (λ (rows : List Balance). GoByStatements rows old.statements.rows) (sym keeps.pots) step.pots);
  short = step.short;
  small = step.small;
  few = step.few;
  rising = subst (λ (rows : List Tally). IsRising tally_rank rows) (sym keeps.tallies) step.rising;
  bytes = subst (λ (rows : List Tally). Each (λ row. row.bytes ≤ 2 ^ 44) rows) (sym keeps.tallies) step.bytes;
  early = subst (λ (rows : List Tally). Each (λ row. row.hour.0 * 3600 < 2 ^ 36) rows) (sym keeps.tallies) step.early;
}

-- ---- a statement that is put

-- a place that has no statement with one more has none without it, and isn't that of the one
none-before : (rows : List Statement) (s : Statement) (k : ℕ) → row_at statement_rank (with_row statement_rank rows s) k ≡ None → ((statement_rank s == k) ≡ false) × (row_at statement_rank rows k ≡ None)
none-before rows s k none = go (statement_rank s == k) (sym (row_at-with_row statement_rank rows s k) ∙ none)
  where
    go : (b : Bool) → (if b then Some s else row_at statement_rank rows k) ≡ None → (b ≡ false) × (row_at statement_rank rows k ≡ None)
    go true h = absurd cc
    go false h = (refl, h)

-- what is kept of each other place stays where one is removed
pub other-sums : (rows : List OpenSums) (j month : ℕ) (node : NodeId) → (j == month_place month node.0) ≡ false → sums_at (without open_rank rows j) month node ≡ sums_at rows month node
other-sums rows j month node ne = ap sums_in (row_at-without open_rank rows j (month_place month node.0) ∙ ap (λ (b : Bool). if b then None else row_at open_rank rows (month_place month node.0)) ne)

-- what stands for a statement where there is none
abbrev pub no_statement : Statement
no_statement = record {
  node = record { 0 = 0 };
  month = record { 0 = 0 };
  age = 0;
  percent = 0;
  sums = record { get = 0; audit = 0; repair = 0; byte_hours = 0 };
  parts = record { get = 0; audit = 0; repair = 0; storage = 0; gross = 0 };
  held = 0;
  paid = 0;
  returned = 0;
  pot = 0;
}

-- what is kept of a place without a statement stays where that of a statement is removed
pub stated-sums : (rows : List OpenSums) (statements : List Statement) (i : ℕ) (s : Statement) (j month : ℕ) (node : NodeId) → row_at statement_rank statements (month_place month node.0) ≡ None → slice_get statements i ≡ Some s → j ≡ statement_rank s
    → sums_at (without open_rank rows j) month node ≡ sums_at rows month node
stated-sums rows statements i s j month node none got is =
    other-sums rows j month node (ap (λ (k : ℕ). k == month_place month node.0) is ∙ not-there statement_rank statements i (month_place month node.0) s none got)

pub statement-sums : (rows : List OpenSums) (settled : List SettledRow) (tallies : List Tally) (statements : List Statement) (s : Statement) → GoByRows rows settled tallies statements → GoByRows (without open_rank rows (statement_rank s)) settled tallies (with_row statement_rank statements s)
statement-sums rows settled tallies statements s go_by node month low still =
    let before = none-before statements s (month_place month node.0) still in
    other-sums rows (statement_rank s) month node before.0 ∙ go_by node month low before.1

pub statement-pots : (pots : List Balance) (statements : List Statement) (s : Statement) (new : Balance) → new.node ≡ s.node → new.amount ≡ s.pot → Each (λ row. statement_rank row < statement_rank s) statements → GoByStatements pots statements
    → GoByStatements (with_row balance_rank pots new) (with_row statement_rank statements s)
statement-pots pots statements s new whose is below go_by =
    subst (λ (rows : List Statement). GoByStatements (with_row balance_rank pots new) rows) (sym (put-behind statement_rank statements s below)) (pots-behind pots statements s new whose is go_by)

-- ---- a row more among few

pub length-more : {R : Type 0} (rank : R → ℕ) (rows : List R) (row : R) → length (with_row rank rows row) ≤ suc (length rows)
length-more rank [] row = omega arith
length-more rank (first ∷ rest) row = grind (arith, nat_tests, length-more rank rest row)
