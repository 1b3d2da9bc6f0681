use Rattle.pay_tables.proofs.Freed.{no-slot-more}
use Rattle.machine_store.proofs.FreedLemmas.{tight}
use Rattle.machine_store.proofs.steps.release_row.Goals as goal

pub returns-clause-freed : goal.returns-clause-freed
returns-clause-freed g c = tight g.R.Ranked.rank c.args.table.now c.release.new.self c.args.rank c.release.ensures.rows c.release.ensures.gone

pub returns-clause-fewer : goal.returns-clause-fewer
returns-clause-fewer g c = no-slot-more g.R.Ranked.rank c.args.table.now c.release.new.self c.args.rank c.release.ensures.released c.release.ensures.kept
