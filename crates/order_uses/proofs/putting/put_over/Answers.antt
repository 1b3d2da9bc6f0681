use Rattle.order_uses.proofs.PutLemmas.{put_absent, put_again}
use Rattle.order_uses.proofs.putting.put_over.Goals as goal

pub add-requires-clause-absent : goal.add-requires-clause-absent
add-requires-clause-absent g c = rw (c.remove.ensures.rows, c.rank.ensures) (put_absent g.R.Ranked.rank c.args.row c.args.rows.now.rows)

pub returns-clause-rows : goal.returns-clause-rows
returns-clause-rows g c = rw (c.add.ensures.rows, c.remove.ensures.rows, c.rank.ensures) (put_again g.R.Ranked.rank c.args.row c.args.rows.now.rows c.len-count.ensures.rising)
