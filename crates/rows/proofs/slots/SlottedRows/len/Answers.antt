use Rattle.rows.proofs.EntryLemmas.{rows_rise}
use Rattle.rows.proofs.slots.SlottedRows.len.Goals as goal

pub returns-clause-rising : goal.returns-clause-rising
returns-clause-rising g c = rw (← c.self.view_is) (rows_rise g.R.Ranked.rank _ c.self.invariant.is_kept)
