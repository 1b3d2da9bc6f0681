use Rattle.std.proofs.Common.{List, ap, ◌∙◌}
use Rattle.node_registry.specs.declared.node.Node.{Node}
use Rattle.machine_store.specs.Store.{lost_ids}
use Rattle.machine_store.proofs.LostLemmas.{knows-opened}
use Rattle.machine_store.proofs.tables.index_of.Goals as goal

pub returns-clause-lost : goal.returns-clause-lost
returns-clause-lost c =
    knows-opened c.args.nodes.now.nodes c.in_ok-index.index c.as_slice.result.now c.nodes.ensures.numbered
    (c.as_slice.ensures.value ∙ c.in_ok-gone.ensures ∙ ap (λ (ns : List Node). lost_ids ns) c.nodes.ensures.nodes) c.in_ok-index.ensures.gone c.in_ok-index.ensures.pending
