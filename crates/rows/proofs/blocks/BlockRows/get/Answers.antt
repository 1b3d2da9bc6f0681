use Rattle.std.proofs.Common.{sym, ◌∙◌}
use Rattle.rows.proofs.BlockLemmas.{row_held}
use Rattle.rows.proofs.blocks.BlockRows.get.Goals as goal

pub returns-clause-row : goal.returns-clause-row
returns-clause-row g c =
    rw (← c.self.view_is)
    (c.get.ensures.row ∙ sym (row_held g.R.Ranked.rank c.args.k c.self.inside.blocks.items c.holder.result c.index.result.now
    (rw (← c.deref.ensures.value) c.holder.ensures.within) c.index.ensures (rw (← c.deref.ensures.value) c.holder.ensures.holds)))
