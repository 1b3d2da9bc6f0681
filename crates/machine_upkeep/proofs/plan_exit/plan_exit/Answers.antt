use Rattle.std.proofs.Common.{sym}
use Rattle.machine_store.specs.Store.{tables_of}
use Rattle.machine_upkeep.proofs.SizeLemmas.{movable-sized}
use Rattle.machine_upkeep.proofs.plan_exit.plan_exit.Goals as goal

pub exit_from-requires-clause-len : goal.exit_from-requires-clause-len
exit_from-requires-clause-len c =
    (movable-sized (tables_of c.args.store.now) c.requires.valid c.in-Some.node.now.id c.in-Some-first_movable.segment.now (sym c.in-Some-first_movable.ensures)).few
