use Rattle.rows.proofs.BlockLemmas.{held}
use Rattle.rows.proofs.finding.holder.Goals as goal

pub returns-clause-holds : goal.returns-clause-holds
returns-clause-holds g c =
    held g.R.Ranked.rank c.args.k c.args.blocks.now c.count_until.result c.saturating_sub.result c.saturating_sub.ensures c.requires.rising c.count_until.ensures.by c.count_until.ensures.above
