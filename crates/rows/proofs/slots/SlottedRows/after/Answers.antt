use Rattle.std.proofs.Common.{sym}
use Rattle.rows.proofs.EntryLemmas.{next_kept, rows_rise}
use Rattle.rows.proofs.slots.SlottedRows.after.Goals as goal

pub returns-clause-row : goal.returns-clause-row
returns-clause-row g c = rw (c.first_row.ensures, c.range.ensures.between tt, ← c.self.view_is) (sym (next_kept g.R.Ranked.rank _ c.args.rank c.self.invariant.is_kept))

pub returns-clause-rising : goal.returns-clause-rising
returns-clause-rising g c = rw (← c.self.view_is) (rows_rise g.R.Ranked.rank _ c.self.invariant.is_kept)
