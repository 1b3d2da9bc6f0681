use Rattle.std.proofs.Common.{sym}
use Rattle.rows.proofs.EntryLemmas.{looked_up}
use Rattle.rows.proofs.slots.SlottedRows.get.Goals as goal

pub returns : goal.returns
returns g c = rw (c.row_of.ensures, c.get.ensures.value, ← c.self.view_is) (sym (looked_up g.R.Ranked.rank _ c.args.rank c.self.invariant.is_kept))
