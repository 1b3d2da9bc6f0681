use Rattle.std.proofs.Common.{List, ◌<◌, length, refl, sym, subst, arith}
use Rattle.sat_base.specs.declared.limits.TheConstants as limits
use Rattle.settlement.specs.declared.row.SettledRow.{SettledRow}
use Rattle.month_pay.specs.Months.{month_at}
use Rattle.machine_step.specs.Tables.{setup_of}
use Rattle.pay_tables.specs.InStep.{IsInStep}
use Rattle.machine_store.proofs.KeptLemmas.{own_with}
use Rattle.machine_store.proofs.paying.put_settled.Goals as goal

pub count_order-requires-clause-room : goal.count_order-requires-clause-room
count_order-requires-clause-room c low =
    c.open_sums_are_small.ensures (setup_of c.args.store.now.settings) c.args.store.now.segments.rows c.args.store.now.settled.rows c.args.store.now.pay c.args.row.node (month_at c.args.row.at) c.requires.own.pay low c.requires.placed.order.able

pub returns-clause-own : goal.returns-clause-own
returns-clause-own c =
    let few : length c.args.store.now.settled.rows < limits.SETTLED = omega (arith, c.requires.placed.row.below, c.requires.own.cap, c.requires.own.setup.caps.settled.1) in
    let counted = c.count_order.ensures.keeps (setup_of c.args.store.now.settings) c.args.store.now.segments.rows c.args.store.now.settled.rows c.requires.placed.row.absent few c.requires.own.pay in
    own_with c.args.store.now c.count_order.new.self c.args.store.now.segments c.put_row.new.settled c.requires.own c.put_row.ensures.cap refl refl refl
    (subst (λ (rows : List SettledRow). IsInStep (setup_of c.args.store.now.settings) c.args.store.now.segments.rows rows c.count_order.new.self) (sym c.put_row.ensures.rows) counted)
