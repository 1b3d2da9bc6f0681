use Rattle.std.proofs.Common.{Result, Option, Some, refl, sym, ◌∙◌, subst}
use Rattle.sat_base.specs.declared.no_memory.NoMemory.{NoMemory}
use Rattle.machine_calls.specs.declared.reply.Reply.{Reply}
use Rattle.sat_sessions.specs.declared.rounds.RoundEnd.{RoundEnd}
use Rattle.node_rounds.specs.Asked.{Finds, nodes_view}
use Rattle.node_rounds.specs.Entering.{Opens}
use Rattle.node_rounds.specs.Parts.{kit_view}
use Rattle.node_rounds.specs.Works.{Does}
use Rattle.node_rounds.specs.declared.upkeep.Found.{Found}
use Rattle.node_rounds.proofs.Parting.{does_ended, does_passed, does_stopped, does_unplanned, plan_askable}
use Rattle.node_rounds.proofs.parts.part.Goals as goal

pub returns-in-Err-clause-does : goal.returns-in-Err-clause-does
returns-in-Err-clause-does g c =
    let view = kit_view (nodes_view g.N.Nodes.held g.N.Nodes.asks g.N.Nodes.faults) g.T.Clock.coming g.W.Words.left g.W.Words.faults g.I.Ticks.about in
    let opens = subst (λ (r : Result Reply RoundEnd). Opens c.args.kind (view c.args.kit.now) c.args.pass r (view c.plan-pass.new.kit) c.plan-pass.result.0 c.args.places.now c.plan-pass.new.places) c.in-Err.is c.plan-pass.ensures in
    does_unplanned c.args.context.now.store.now.keys c.args.context.now.store.now.scheme c.args.kind (view c.args.kit.now) c.args.pass c.in-Err.end (view c.plan-pass.new.kit) c.plan-pass.result.0 c.args.places.now c.plan-pass.new.places opens

pub returns-then-not-is_plan_of-clause-does : goal.returns-then-not-is_plan_of-clause-does
returns-then-not-is_plan_of-clause-does g c =
    let view = kit_view (nodes_view g.N.Nodes.held g.N.Nodes.asks g.N.Nodes.faults) g.T.Clock.coming g.W.Words.left g.W.Words.faults g.I.Ticks.about in
    let opens = subst (λ (r : Result Reply RoundEnd). Opens c.args.kind (view c.args.kit.now) c.args.pass r (view c.plan-pass.new.kit) c.plan-pass.result.0 c.args.places.now c.plan-pass.new.places) c.in-Ok.is c.plan-pass.ensures in
    subst (λ (w : Option RoundEnd). Does c.args.context.now.store.now.keys c.args.context.now.store.now.scheme c.args.kind (view c.args.kit.now) c.args.pass w (view c.plan-pass.new.kit) c.plan-pass.result.0 c.args.places.now c.plan-pass.new.places) (sym c.went_at.ensures)
    (does_passed c.args.context.now.store.now.keys c.args.context.now.store.now.scheme c.args.kind (view c.args.kit.now) c.args.pass c.in-Ok.reply (view c.plan-pass.new.kit) c.plan-pass.result.0 c.args.places.now c.plan-pass.new.places opens
    (sym c.is_plan_of.ensures ∙ c.if-not-is_plan_of.true))

pub ask-requires-clause-askable : goal.ask-requires-clause-askable
ask-requires-clause-askable g c =
    let view = kit_view (nodes_view g.N.Nodes.held g.N.Nodes.asks g.N.Nodes.faults) g.T.Clock.coming g.W.Words.left g.W.Words.faults g.I.Ticks.about in
    let opens = subst (λ (r : Result Reply RoundEnd). Opens c.args.kind (view c.args.kit.now) c.args.pass r (view c.plan-pass.new.kit) c.plan-pass.result.0 c.args.places.now c.plan-pass.new.places) c.in-Ok.is c.plan-pass.ensures in
    plan_askable c.args.kind c.args.context.now.store.now.keys c.args.context.now.store.now.scheme (view c.args.kit.now) c.args.pass c.in-Ok.reply (view c.plan-pass.new.kit) c.plan-pass.result.0 c.args.places.now c.plan-pass.new.places opens c.requires.base
    (sym c.is_plan_of.ensures ∙ c.if-not-is_plan_of.false)

pub returns-in-Err-ask-clause-does : goal.returns-in-Err-ask-clause-does
returns-in-Err-ask-clause-does g c =
    let view = kit_view (nodes_view g.N.Nodes.held g.N.Nodes.asks g.N.Nodes.faults) g.T.Clock.coming g.W.Words.left g.W.Words.faults g.I.Ticks.about in
    let opens = subst (λ (r : Result Reply RoundEnd). Opens c.args.kind (view c.args.kit.now) c.args.pass r (view c.plan-pass.new.kit) c.plan-pass.result.0 c.args.places.now c.plan-pass.new.places) c.in-Ok.is c.plan-pass.ensures in
    let kit = c.plan-pass.new.kit in
    let asked = view (record { nodes = c.ask.new.nodes; clock = kit.clock; words = kit.words; ticks = kit.ticks }) in
    let finds = subst (λ (r : Result Found NoMemory). Finds c.args.context.now.store.now.keys c.args.context.now.store.now.scheme c.in-Ok.reply (view kit).nodes r asked.nodes) c.in-Err-ask.is c.ask.ensures.finds in
    does_stopped c.args.context.now.store.now.keys c.args.context.now.store.now.scheme c.args.kind (view c.args.kit.now) c.args.pass c.in-Ok.reply (view kit) c.plan-pass.result.0 c.args.places.now c.plan-pass.new.places _ asked opens
    (sym c.is_plan_of.ensures ∙ c.if-not-is_plan_of.false) (record { finds = finds; never = c.ask.ensures.never; rest = refl })

pub returns-clause-does : goal.returns-clause-does
returns-clause-does g c =
    let view = kit_view (nodes_view g.N.Nodes.held g.N.Nodes.asks g.N.Nodes.faults) g.T.Clock.coming g.W.Words.left g.W.Words.faults g.I.Ticks.about in
    let opens = subst (λ (r : Result Reply RoundEnd). Opens c.args.kind (view c.args.kit.now) c.args.pass r (view c.plan-pass.new.kit) c.plan-pass.result.0 c.args.places.now c.plan-pass.new.places) c.in-Ok.is c.plan-pass.ensures in
    let kit = c.plan-pass.new.kit in
    let asked = view (record { nodes = c.ask.new.nodes; clock = kit.clock; words = kit.words; ticks = kit.ticks }) in
    let finds = subst (λ (r : Result Found NoMemory). Finds c.args.context.now.store.now.keys c.args.context.now.store.now.scheme c.in-Ok.reply (view kit).nodes r asked.nodes) c.in-Ok-ask.is c.ask.ensures.finds in
    let done = view (record { nodes = c.ask.new.nodes; clock = c.finish.new.clock; words = kit.words; ticks = kit.ticks }) in
    does_ended c.args.context.now.store.now.keys c.args.context.now.store.now.scheme c.args.kind (view c.args.kit.now) c.args.pass c.in-Ok.reply (view kit) c.plan-pass.result.0 c.args.places.now c.plan-pass.new.places c.finish.new.places c.in-Ok-ask.found asked
    c.finish.result.1 done c.finish.result.0 opens (sym c.is_plan_of.ensures ∙ c.if-not-is_plan_of.false) (record { finds = finds; never = c.ask.ensures.never; rest = refl }) c.finish.ensures refl
