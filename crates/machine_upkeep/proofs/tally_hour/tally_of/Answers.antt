use Rattle.std.proofs.Common.{◌≡◌, ◌≤◌, ◌^◌, subst, sym, arith}
use Rattle.machine_step.proofs.StoredMost.{stored-most}
use Rattle.machine_store.specs.Store.{tables_of}
use Rattle.machine_upkeep.proofs.tally_hour.tally_of.Goals as goal

pub overflow_cast-result : goal.overflow_cast-result
overflow_cast-result c =
    let most = stored-most (tables_of c.args.store.now) c.requires.valid c.args.node.now in
    let is = c.stored_at.ensures in
    omega (arith, is, most)
