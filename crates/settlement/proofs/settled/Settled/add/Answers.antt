use Rattle.std.proofs.Common.{◌≡◌, ap, length, arith}
use Rattle.rows.proofs.Lengths.{length-added}
use Rattle.settlement.specs.Rows.{Kept, key}
use Rattle.settlement.proofs.settled.Settled.add.Goals as goal

pub invariant_of-self : goal.invariant_of-self
invariant_of-self c =
    let rows = c.self.inside.rows.rows in
    let rows_is : length rows ≡ length c.args.self.now.rows = ap (λ (v : Kept). length v.rows) c.self.view_is in
    let cap_is : c.self.inside.cap ≡ c.args.self.now.cap = ap (λ (v : Kept). v.cap) c.self.view_is in
    record {
      count = rw c.add.ensures.rows (omega (arith, length-added key c.args.row rows));
      below = omega arith;
      rise = c.add.ensures.rising;
    }
