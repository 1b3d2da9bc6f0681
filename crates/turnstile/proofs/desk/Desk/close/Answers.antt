use Rattle.std.proofs.Common.{ap, sym, ◌∙◌}
use Rattle.turnstile.proofs.Passes.{ends}
use Rattle.turnstile.proofs.desk.Desk.close.Goals as goal

pub close_with-closed-requires : goal.close_with-closed-requires
close_with-closed-requires g c = c.reseat.ensures.0 ∙ (ap (λ k. k.desk.table) c.pass.view_is ∙ (ap (λ d. d.table) c.requires.desk ∙ sym (ap (λ d. d.table) c.self.view_is)))

pub returns-clause-base : goal.returns-clause-base
returns-clause-base g c =
    let out = ends g.V.Turn.base g.V.Turn.entries g.V.Turn.room g.V.Turn.lawful _ _ _ _ _ c.pass.inside c.args.pass _ c.pass.view_is (λ i. (c.reseat.ensures.2 i).0) c.pass.invariant c.requires.all c.close_with-closed.ensures.values.2 _ c.take-value.ensures.value in
    out.base_is

pub returns-clause-entries : goal.returns-clause-entries
returns-clause-entries g c =
    let out = ends g.V.Turn.base g.V.Turn.entries g.V.Turn.room g.V.Turn.lawful _ _ _ _ _ c.pass.inside c.args.pass _ c.pass.view_is (λ i. (c.reseat.ensures.2 i).0) c.pass.invariant c.requires.all c.close_with-closed.ensures.values.2 _ c.take-value.ensures.value in
    out.entries_are

pub returns-clause-lawful : goal.returns-clause-lawful
returns-clause-lawful g c =
    let out = ends g.V.Turn.base g.V.Turn.entries g.V.Turn.room g.V.Turn.lawful _ _ _ _ _ c.pass.inside c.args.pass _ c.pass.view_is (λ i. (c.reseat.ensures.2 i).0) c.pass.invariant c.requires.all c.close_with-closed.ensures.values.2 _ c.take-value.ensures.value in
    out.just

pub returns-clause-own : goal.returns-clause-own
returns-clause-own g c =
    let out = ends g.V.Turn.base g.V.Turn.entries g.V.Turn.room g.V.Turn.lawful _ _ _ _ _ c.pass.inside c.args.pass _ c.pass.view_is (λ i. (c.reseat.ensures.2 i).0) c.pass.invariant c.requires.all c.close_with-closed.ensures.values.2 _ c.take-value.ensures.value in
    out.all_own

pub returns-clause-full : goal.returns-clause-full
returns-clause-full g c =
    let out = ends g.V.Turn.base g.V.Turn.entries g.V.Turn.room g.V.Turn.lawful _ _ _ _ _ c.pass.inside c.args.pass _ c.pass.view_is (λ i. (c.reseat.ensures.2 i).0) c.pass.invariant c.requires.all c.close_with-closed.ensures.values.2 _ c.take-value.ensures.value in
    out.full
