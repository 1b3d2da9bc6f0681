use Rattle.node_rounds.proofs.AskingLemmas.{not_wanting, rechecked, unasked}
use Rattle.node_rounds.specs.Asked.{nodes_view}
use Rattle.node_rounds.proofs.asking.check_again.Goals as goal

pub returns-in-NoMemory-clause-err : goal.returns-in-NoMemory-clause-err
returns-in-NoMemory-clause-err g c =
    let view = nodes_view g.N.Nodes.held g.N.Nodes.asks g.N.Nodes.faults in
    let h = c.hear_one.ensures in
    unasked _ c.hear_one.result (view c.args.nodes.now) (view c.hear_one.new.nodes) c.in-NoMemory.is h.held h.asks h.faults

pub returns-in_default-clause-found : goal.returns-in_default-clause-found
returns-in_default-clause-found g c =
    let view = nodes_view g.N.Nodes.held g.N.Nodes.asks g.N.Nodes.faults in
    let h = c.hear_one.ensures in
    rechecked c.args.store.now.keys c.args.store.now.scheme c.args.plan.now c.args.place.now (view c.args.nodes.now) c.hear_one.result (view c.hear_one.new.nodes) c.recheck.result c.requires.recheckable h.told h.within h.asks h.faults h.held
    (not_wanting c.hear_one.result c.in_default.not-NoMemory) c.recheck.ensures
