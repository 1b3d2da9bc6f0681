-- The tables, and what goes by them, where segments, settled orders and what pay goes by change.
use Rattle.std.proofs.Common.{◌≡◌, List, ap, ◌∙◌}
use Rattle.std.specs.Prelude.{◌||◌}
use Rattle.sat_base.specs.declared.ids.NodeId.{NodeId}
use Rattle.segment_core.specs.Record.{SegmentRecord}
use Rattle.segment_index.specs.Indexed.{Indexed}
use Rattle.segment_index.specs.Segments.{is_gone}
use Rattle.settlement.specs.declared.row.SettledRow.{SettledRow}
use Rattle.settlement.specs.Rows.{Kept}
use Rattle.tally_payout.specs.declared.amounts.Statement.{Statement}
use Rattle.tally_payout.specs.declared.amounts.Tally.{Tally}
use Rattle.machine_step.specs.Tables.{setup_of}
use Rattle.pay_tables.specs.declared.tables.PayTables.{PayTables}
use Rattle.pay_tables.specs.InStep.{IsInStep}
use Rattle.machine_store.specs.declared.store.Store.{Store}
use Rattle.machine_store.specs.Store.{tables_of, GoesByTables}

module _ (s : Store) (pay : PayTables) (index : Indexed) (settled : Kept) where
  -- the tables are those of the new rows
  pub tables_with : (segments : List SegmentRecord) (orders : List SettledRow) (tallies : List Tally) (statements : List Statement)
      → index.rows ≡ segments → settled.rows ≡ orders → pay.tallies.rows ≡ tallies → pay.statements.rows ≡ statements
      → tables_of (record s { pay = pay; segments = index; settled = settled }) ≡ record (tables_of s) { segments = segments; settled = orders; tallies = tallies; statements = statements }
  tables_with segments orders tallies statements a b c d =
      ap (λ (rows : List SegmentRecord). record (tables_of s) { segments = rows; settled = settled.rows; tallies = pay.tallies.rows; statements = pay.statements.rows }) a
      ∙ (ap (λ (rows : List SettledRow). record (tables_of s) { segments = segments; settled = rows; tallies = pay.tallies.rows; statements = pay.statements.rows }) b
      ∙ (ap (λ (rows : List Tally). record (tables_of s) { segments = segments; settled = orders; tallies = rows; statements = pay.statements.rows }) c
      ∙ ap (λ (rows : List Statement). record (tables_of s) { segments = segments; settled = orders; tallies = tallies; statements = rows }) d))

  -- and what is in step with them goes by them
  pub own_with : GoesByTables s → settled.cap ≡ s.settled.cap → index.limits ≡ s.segments.limits → index.gone ≡ s.segments.gone → index.pending ≡ s.segments.pending
      → IsInStep (setup_of s.settings) index.rows settled.rows pay → GoesByTables (record s { pay = pay; segments = index; settled = settled })
  own_with own cap limits gone pending step = record {
    setup = own.setup;
    keys = own.keys;
    cap = cap ∙ own.cap;
    limits = limits ∙ own.limits;
    lost = λ id.
        ap (λ (ids : List NodeId). is_gone ids id || is_gone index.pending id) gone
        ∙ (ap (λ (ids : List NodeId). is_gone s.segments.gone id || is_gone ids id) pending ∙ own.lost id);
    pay = step;
  }
