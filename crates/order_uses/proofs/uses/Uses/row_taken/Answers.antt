use Rattle.std.proofs.Common.{IfOk, subst}
use Rattle.order_uses.specs.Uses.{IsUnderKey}
use Rattle.order_uses.proofs.TakeLemmas.{if_under}
use Rattle.order_uses.proofs.uses.Uses.row_taken.Goals as goal

pub returns-clause-under : goal.returns-clause-under
returns-clause-under g c =
    let u = c.self.inside in
    subst (λ v. IfOk c.take_case.result (IsUnderKey v.key)) c.self.view_is
    (if_under u.node u.table.key u.cap u.table.rows c.args.now c.args.wanted.now c.take_case.result c.self.invariant.are (rw (c.key.ensures, c.rows.ensures) at c.take_case.ensures.case))
