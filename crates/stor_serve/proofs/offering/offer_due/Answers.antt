use Rattle.std.proofs.Common.{◌≡◌, Some}
use Rattle.order_uses.specs.Due.{due_of}
use Rattle.stor_serve.proofs.DueLemmas.{due_kept}
use Rattle.stor_serve.proofs.offering.offer_due.Goals as goal

pub settle-requires : goal.settle-requires
settle-requires g c =
    let due : due_of c.args.uses.now.key c.args.uses.now.rows c.args.now ≡ Some c.in-Some.order = cc (c.due.ensures, c.in-Some.is) in
    due_kept c.args.uses.now.key c.args.uses.now.rows c.args.now c.in-Some.order c.are_uses.ensures due
