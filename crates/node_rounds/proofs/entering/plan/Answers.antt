use Rattle.std.proofs.Common.{ℕ, Result, refl, ap, ◌∙◌, subst}
use Rattle.machine_calls.specs.declared.reply.Reply.{Reply}
use Rattle.node_rounds.specs.Asked.{nodes_view}
use Rattle.node_rounds.specs.Calls.{Turns}
use Rattle.node_rounds.specs.Parts.{Readied, kit_view}
use Rattle.node_rounds.specs.Upkeep.{plan_call}
use Rattle.node_rounds.proofs.Opening.{opened, opened_full, readied_by}
use Rattle.node_rounds.proofs.entering.plan.Goals as goal

pub returns-in-Ok-answered : goal.returns-in-Ok-answered
returns-in-Ok-answered g c =
    let view = kit_view (nodes_view g.N.Nodes.held g.N.Nodes.asks g.N.Nodes.faults) g.T.Clock.coming g.W.Words.left g.W.Words.faults g.I.Ticks.about in
    let kit = c.args.kit.now in
    let drew = view (record { nodes = kit.nodes; clock = kit.clock; words = c.draw_words.new.words; ticks = kit.ticks }) in
    let ready = view (record { nodes = kit.nodes; clock = c.now.new.self; words = c.draw_words.new.words; ticks = kit.ticks }) in
    let words = c.in-Ok.ensures in
    let readied : Readied c.args.kind (view kit) c.in-Ok.words c.now.result ready
    = readied_by c.args.kind (view kit) drew ready c.in-Ok.words c.now.result (words.number ∙ c.words_of.ensures) words.drawn words.faults refl c.now.ensures refl in
    opened c.args.kind (view kit) c.args.pass c.in-Ok-answered.reply ready c.enter-pass.result.0 c.args.places.now c.enter-pass.new.places c.in-Ok.words c.now.result c.plan_call.result readied
    (c.plan_call.ensures ∙ ap (λ (now : ℕ). plan_call c.args.kind now c.in-Ok.words) c.of-now.ensures)
    (subst (λ (r : Result Reply ℕ). Turns c.args.pass c.plan_call.result r c.enter-pass.result.0 c.args.places.now c.enter-pass.new.places) c.in-Ok-answered.is c.enter-pass.ensures)

pub returns-in-Err-answered : goal.returns-in-Err-answered
returns-in-Err-answered g c =
    let view = kit_view (nodes_view g.N.Nodes.held g.N.Nodes.asks g.N.Nodes.faults) g.T.Clock.coming g.W.Words.left g.W.Words.faults g.I.Ticks.about in
    let kit = c.args.kit.now in
    let drew = view (record { nodes = kit.nodes; clock = kit.clock; words = c.draw_words.new.words; ticks = kit.ticks }) in
    let ready = view (record { nodes = kit.nodes; clock = c.now.new.self; words = c.draw_words.new.words; ticks = kit.ticks }) in
    let words = c.in-Ok.ensures in
    let readied : Readied c.args.kind (view kit) c.in-Ok.words c.now.result ready
    = readied_by c.args.kind (view kit) drew ready c.in-Ok.words c.now.result (words.number ∙ c.words_of.ensures) words.drawn words.faults refl c.now.ensures refl in
    opened_full c.args.kind (view kit) c.args.pass c.in-Err-answered.ticket ready c.enter-pass.result.0 c.args.places.now c.enter-pass.new.places c.in-Ok.words c.now.result c.plan_call.result readied
    (c.plan_call.ensures ∙ ap (λ (now : ℕ). plan_call c.args.kind now c.in-Ok.words) c.of-now.ensures)
    (subst (λ (r : Result Reply ℕ). Turns c.args.pass c.plan_call.result r c.enter-pass.result.0 c.args.places.now c.enter-pass.new.places) c.in-Err-answered.is c.enter-pass.ensures)
