use Rattle.std.proofs.Common.{option_copied}
use Rattle.machine_store.specs.Store.{tables_of}
use Rattle.machine_store.proofs.WalkLemmas.{IsAlong, ids_left}
use Rattle.machine_store.proofs.queries.first_movable.Given as goal

abbrev pub invariant-loop-found : goal.invariant-loop-found
invariant-loop-found l = IsAlong (tables_of l.store) l.node (option_copied l.found)

abbrev pub decreases-loop-found : goal.decreases-loop-found
decreases-loop-found l = ids_left (tables_of l.store) l.node (option_copied l.found)
