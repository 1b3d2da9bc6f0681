use Rattle.std.proofs.Common.{◌≤◌, ◌+◌, length, arith}
use Rattle.machine_step.specs.Tables.{setup_of}
use Rattle.machine_store.proofs.OpeningLemmas.{none_mapped, numbered_unbroken, few_unbroken}
use Rattle.machine_store.proofs.untested.untested_of.Goals as goal

pub node_table-requires-clause-numbered : goal.node_table-requires-clause-numbered
node_table-requires-clause-numbered c = numbered_unbroken (setup_of c.args.settings) c.args.marks 0 c.args.parts.nodes.items (none_mapped _ _ c.requires.nodes)

pub node_table-requires-clause-within : goal.node_table-requires-clause-within
node_table-requires-clause-within c =
    let few : 0 + length c.args.parts.nodes.items ≤ c.args.settings.caps.nodes =
    few_unbroken (setup_of c.args.settings) c.args.marks 0 c.args.parts.nodes.items (none_mapped _ _ c.requires.nodes) (omega arith) in
    omega (arith, few, c.requires.setup.caps.nodes.1)
