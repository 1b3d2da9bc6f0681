use Rattle.std.proofs.Common.{◌≡◌, ◌≤◌, length, subst, sym, ap, ◌/◌, arith}
use Rattle.machine_store.specs.Store.{tables_of}
use Rattle.machine_upkeep.proofs.HourLemmas.{few_rows}
use Rattle.machine_upkeep.proofs.tally_hour.hour_tallied.Goals as goal

pub overflow_cast-nodes : goal.overflow_cast-nodes
overflow_cast-nodes c =
    let few = few_rows (tables_of c.args.store.now) (c.args.time / 3600) c.requires.valid in
    let same = ap length c.requires.rows in
    let count = c.len-nodes.ensures in
    omega (arith, few, same, count)
