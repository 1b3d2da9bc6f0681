use Rattle.std.proofs.Common.{Option, ◌∙◌, subst}
use Rattle.sat_sessions.specs.declared.rounds.RoundEnd.{RoundEnd}
use Rattle.node_rounds.specs.Asked.{nodes_view}
use Rattle.node_rounds.specs.Parts.{kit_view}
use Rattle.node_rounds.specs.Works.{Does}
use Rattle.node_rounds.proofs.Rounding.{rounds_both, rounds_first, rounds_none}
use Rattle.node_rounds.proofs.rounds.round.Goals as goal

pub returns-then-is_err-clause-rounds : goal.returns-then-is_err-clause-rounds
returns-then-is_err-clause-rounds g c = rounds_none _ _ _ _ _ c.args.pass c.requires.base _ (c.reserve.ensures.items ∙ c.new-places.ensures.items)

pub returns-in-Some-clause-rounds : goal.returns-in-Some-clause-rounds
returns-in-Some-clause-rounds g c =
    let view = kit_view (nodes_view g.N.Nodes.held g.N.Nodes.asks g.N.Nodes.faults) g.T.Clock.coming g.W.Words.left g.W.Words.faults g.I.Ticks.about in
    let keys = c.args.context.now.store.now.keys in
    let scheme = c.args.context.now.store.now.scheme in
    let first = subst (λ (w : Option RoundEnd). Does keys scheme c.args.first (view c.args.kit.now) c.args.pass w (view c.part-pass.new.kit) c.part-pass.result.0 c.reserve.new.self c.part-pass.new.places) c.in-Some.is c.part-pass.ensures.does in
    rounds_first keys scheme c.args.first c.args.second (view c.args.kit.now) c.args.pass c.requires.base c.in-Some.end (view c.part-pass.new.kit) c.part-pass.result.0 c.reserve.new.self c.part-pass.new.places
    (c.reserve.ensures.items ∙ c.new-places.ensures.items) first

pub returns-clause-rounds : goal.returns-clause-rounds
returns-clause-rounds g c =
    let view = kit_view (nodes_view g.N.Nodes.held g.N.Nodes.asks g.N.Nodes.faults) g.T.Clock.coming g.W.Words.left g.W.Words.faults g.I.Ticks.about in
    let keys = c.args.context.now.store.now.keys in
    let scheme = c.args.context.now.store.now.scheme in
    let first = subst (λ (w : Option RoundEnd). Does keys scheme c.args.first (view c.args.kit.now) c.args.pass w (view c.part-pass.new.kit) c.part-pass.result.0 c.reserve.new.self c.part-pass.new.places) c.in_default.is c.part-pass.ensures.does in
    rounds_both keys scheme c.args.first c.args.second (view c.args.kit.now) c.args.pass c.requires.base (view c.part-pass.new.kit) c.part-pass.result.0 c.part-pass-2.result.1 (view c.part-pass-2.new.kit) c.part-pass-2.result.0
    c.reserve.new.self c.part-pass.new.places c.part-pass-2.new.places c.end_of-end.result (c.reserve.ensures.items ∙ c.new-places.ensures.items) first c.part-pass-2.ensures.does c.end_of-end.ensures
