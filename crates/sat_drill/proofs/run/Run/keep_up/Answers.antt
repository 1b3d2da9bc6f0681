use Rattle.std.proofs.Common.{sym, ap, ◌∙◌, subst}
use Rattle.machine_step.specs.Step.{IsSchemeOf}
use Rattle.sat_book.specs.Book.{start_of}
use Rattle.sat_drill.proofs.RunLemmas.{plan_askable}
use Rattle.sat_drill.proofs.run.Run.keep_up.Goals as goal

pub ask-requires-clause-askable : goal.ask-requires-clause-askable
ask-requires-clause-askable g c =
    let scheme = c.self.inside.store.scheme in
    let opening = ap (λ b. b.opening) c.self.view_is ∙ c.in_ok-reply.ensures.opening in
    let own = subst (λ o. IsSchemeOf (start_of o).setup scheme) opening c.self.invariant.own.scheme_is in
    plan_askable (start_of c.args.self.now.opening) scheme c.args.kind c.args.now c.args.words c.plan_call.result c.in_ok-reply.reply c.plan_call.ensures c.requires.timely own c.in_ok-reply.ensures.replies
    (sym c.is_plan_of.ensures ∙ c.if-not-is_plan_of.false)
