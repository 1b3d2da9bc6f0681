use Rattle.std.proofs.Common.{◌≡◌, ◌++◌, drop, filter, map, not, ◌==◌}
use Rattle.machine_step.specs.Calls.TallyHour.{tally_of}
use Rattle.machine_store.specs.Store.{tables_of}
use Rattle.machine_upkeep.proofs.tally_hour.hour_rows.Given as goal

-- the rows so far, and those of the nodes that are left
abbrev pub invariant-loop-node : goal.invariant-loop-node
invariant-loop-node l =
    l.rows.items ++ filter (λ tally. not (tally.bytes == 0)) (map (tally_of (tables_of l.store) l.hour.0) (drop l.node-index l.node-items))
    ≡ filter (λ tally. not (tally.bytes == 0)) (map (tally_of (tables_of l.store) l.hour.0) l.node-items)
