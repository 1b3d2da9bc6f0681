use Rattle.std.proofs.Common.{refl}
use Rattle.rows.proofs.EntryLemmas.{all_between, rows_rise}
use Rattle.rows.proofs.slots.SlottedRows.first.Goals as goal

pub returns-clause-row : goal.returns-clause-row
returns-clause-row g c = rw (c.first_row.ensures, c.range.ensures.between tt, ← c.self.view_is, all_between c.self.inside.map.entries) refl

pub returns-clause-rising : goal.returns-clause-rising
returns-clause-rising g c = rw (← c.self.view_is) (rows_rise g.R.Ranked.rank _ c.self.invariant.is_kept)
