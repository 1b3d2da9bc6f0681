use Rattle.std.proofs.Common.{refl}
use Rattle.machine_step.specs.Tables.{setup_of}
use Rattle.machine_store.proofs.KeptLemmas.{own_with}
use Rattle.machine_store.proofs.paying.put_statement.Goals as goal

pub returns-clause-own : goal.returns-clause-own
returns-clause-own c =
    own_with c.args.store.now c.put_statement.new.self c.args.store.now.segments c.args.store.now.settled c.requires.own refl refl refl refl
    (c.put_statement.ensures.keeps (setup_of c.args.store.now.settings) c.args.store.now.segments.rows c.args.store.now.settled.rows c.requires.own.pay)
