use Rattle.node_rounds.specs.Asked.{nodes_view}
use Rattle.node_rounds.specs.Parts.{kit_view}
use Rattle.node_rounds.specs.declared.upkeep.Upkeep.TheVariants as kinds
use Rattle.node_rounds.proofs.KitLemmas.{by_opening, does_round}
use Rattle.node_rounds.proofs.kits.RepairKitRoundKit.round.Goals as goal

pub returns-clause-does : goal.returns-clause-does
returns-clause-does g c =
    let view = kit_view (nodes_view g.N.Nodes.held g.N.Nodes.asks g.N.Nodes.faults) g.T.Clock.coming g.W.Words.left g.W.Words.faults g.I.Ticks.about in
    let kit = c.args.self.now in
    let keys = kit.store.keys in
    let own = by_opening c.args.pass.base keys kit.store.scheme c.requires.fits.0 in
    does_round keys kit.store.scheme kinds.Repair kinds.Exit (view kit.kit) c.args.pass c.repair_round.result.1 (view c.repair_round.new.kit) c.repair_round.result.0 c.repair_round.ensures.rounds own
