use Rattle.std.proofs.Common.{◌≡◌, drop, filter, slice_get}
use Rattle.machine_step.specs.Calls.PlanExit.{is_exiting}
use Rattle.machine_store.proofs.queries.exiting_nth.Given as goal

-- so many nodes of those that are left are ahead
abbrev pub invariant-loop-node : goal.invariant-loop-node
invariant-loop-node l =
    slice_get (filter (λ node. is_exiting node.status) (drop l.node-index l.nodes)) l.ahead ≡ slice_get (filter (λ node. is_exiting node.status) l.fn.nodes) l.place
