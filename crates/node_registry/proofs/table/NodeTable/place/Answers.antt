use Rattle.std.proofs.Common.{arith}
use Rattle.node_registry.proofs.Numbered.{place_in_range}
use Rattle.node_registry.proofs.table.NodeTable.place.Goals as goal

pub overflow_sub-result : goal.overflow_sub-result
overflow_sub-result c = let place = place_in_range c.args.self.now.nodes 1 c.args.id.0 c.nodes-nodes.ensures.numbered c.requires in omega arith

pub returns-clause-place : goal.returns-clause-place
returns-clause-place c = let place = place_in_range c.args.self.now.nodes 1 c.args.id.0 c.nodes-nodes.ensures.numbered c.requires in omega arith

pub returns-clause-within : goal.returns-clause-within
returns-clause-within c = let place = place_in_range c.args.self.now.nodes 1 c.args.id.0 c.nodes-nodes.ensures.numbered c.requires in omega arith
