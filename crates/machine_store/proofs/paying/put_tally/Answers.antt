use Rattle.std.proofs.Common.{refl}
use Rattle.month_pay.specs.Months.{month_of_hour}
use Rattle.machine_step.specs.Tables.{setup_of}
use Rattle.machine_store.proofs.KeptLemmas.{own_with}
use Rattle.machine_store.proofs.paying.put_tally.Goals as goal

pub put_tally-requires-clause-room : goal.put_tally-requires-clause-room
put_tally-requires-clause-room c low =
    c.open_sums_are_small.ensures (setup_of c.args.store.now.settings) c.args.store.now.segments.rows c.args.store.now.settled.rows c.args.store.now.pay c.args.tally.node (month_of_hour c.args.tally.hour.0) c.requires.own.pay low c.requires.placed.able.unstated

pub returns-clause-own : goal.returns-clause-own
returns-clause-own c =
    own_with c.args.store.now c.put_tally.new.self c.args.store.now.segments c.args.store.now.settled c.requires.own refl refl refl refl
    (c.put_tally.ensures.keeps (setup_of c.args.store.now.settings) c.args.store.now.segments.rows c.args.store.now.settled.rows c.requires.own.pay)
