use Rattle.std.proofs.Common.{◌≡◌, ◌+◌, ◌-◌, length, drop, arith}
use Rattle.std.proofs.lemmas.List.{length-take, length-drop}
use borrow.Rule.Slice.PartMut.{drop_put}
use Rattle.order_limits.proofs.bytes.write_at.Goals as goal

pub returns-clause-rest : goal.returns-clause-rest
returns-clause-rest c =
    let at = c.args.at in
    let end = c.args.at + length c.args.piece.now in
    let long : length c.copy_from_slice.new.self ≡ end - at = omega (arith, c.copy_from_slice.ensures.len, length-take (end - at) (drop at c.args.out.now), length-drop at c.args.out.now) in
    drop_put at end c.args.out.now c.copy_from_slice.new.self (omega arith) (omega arith) long
