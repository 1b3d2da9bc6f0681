use Rattle.std.proofs.Common.{Some, inr, refl}
use Rattle.node_rounds.proofs.AskingLemmas.{are_sources, can_spread, if_err, if_ok, repaired, repaired_none}
use Rattle.node_rounds.specs.Asked.{nodes_view}
use Rattle.node_rounds.proofs.asking.repair.Goals as goal

pub mend-requires : goal.mend-requires
mend-requires g c =
    let view = nodes_view g.N.Nodes.held g.N.Nodes.asks g.N.Nodes.faults in
    record {
      can = can_spread c.args.store.now.keys c.args.store.now.scheme c.args.plan c.args.sources.now c.args.targets.now (view c.args.nodes.now) (view c.remake.new.nodes) c.in_ok-heeded.heeded c.in-Some.remade c.requires.repairable
          c.in_ok-heeded.ensures.remade c.in-Some.is;
    }

pub returns-in-Some-clause-found : goal.returns-in-Some-clause-found
returns-in-Some-clause-found g c =
    let view = nodes_view g.N.Nodes.held g.N.Nodes.asks g.N.Nodes.faults in
    let h = c.in_ok-heeded.ensures in
    if_ok _ _ c.mend.result c.mend.ensures.found
    (λ outcome. λ out. repaired c.args.store.now.keys c.args.store.now.scheme c.args.plan c.args.sources.now c.args.targets.now (view c.args.nodes.now) (view c.remake.new.nodes) c.in_ok-heeded.heeded (Some c.in-Some.remade) outcome
    (view c.mend.new.nodes) c.in-Some.is c.requires.repairable (record { remade = h.remade; held = h.held; never = record { counts = h.counts; last = h.last } })
    (record { placed = out.placed; spread = out.spread; left_out = out.left_out; asks = out.asks; concluded = out.concluded }))

pub returns-in-Some-clause-err : goal.returns-in-Some-clause-err
returns-in-Some-clause-err g c =
    let view = nodes_view g.N.Nodes.held g.N.Nodes.asks g.N.Nodes.faults in
    let h = c.in_ok-heeded.ensures in
    if_err _ _ c.mend.result c.mend.ensures.err
    (λ asks. inr (record { heeded = c.in_ok-heeded.heeded; between = view c.remake.new.nodes; gathered = record { remade = h.remade; held = h.held; never = record { counts = h.counts; last = h.last } }; asks = asks }))

pub invariant_of-result : goal.invariant_of-result
invariant_of-result g c =
    let view = nodes_view g.N.Nodes.held g.N.Nodes.asks g.N.Nodes.faults in
    let are = are_sources c.args.store.now.keys c.args.store.now.scheme c.args.plan c.args.sources.now c.args.targets.now (view c.args.nodes.now) (view c.remake.new.nodes) c.in_ok-heeded.heeded c.requires.repairable
    c.in_ok-heeded.ensures.remade in
    record { missing_rise = are.missing_rise; missing_of_sources = are.missing_of_sources }

pub returns-in-None-clause-found : goal.returns-in-None-clause-found
returns-in-None-clause-found g c =
    let view = nodes_view g.N.Nodes.held g.N.Nodes.asks g.N.Nodes.faults in
    let h = c.in_ok-heeded.ensures in
    repaired_none c.args.store.now.keys c.args.store.now.scheme c.args.plan c.args.sources.now c.args.targets.now (view c.args.nodes.now) (view c.remake.new.nodes) c.in_ok-heeded.heeded _ c.in-None.is c.requires.repairable
    (record { remade = h.remade; held = h.held; never = record { counts = h.counts; last = h.last } }) refl refl
