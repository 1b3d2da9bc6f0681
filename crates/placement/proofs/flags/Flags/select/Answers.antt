use Rattle.std.proofs.Common.{◌*◌, ◌<◌, ◌≤◌, ◌^◌, length, arith}
use Rattle.placement.proofs.Ranks.{rank_past, within-count}
use Rattle.placement.proofs.flags.Flags.select.Goals as goal

pub overflow_mul-block : goal.overflow_mul-block
overflow_mul-block c =
    let kept = c.loop-block.invariant in
    let within = within-count (256 * c.loop-block.block) c.args.self.now (omega arith) in
    let long : length c.args.self.now < 2 ^ 64 = rw (← c.self.view_is) (omega arith) in
    omega arith

pub returns-clause-set : goal.returns-clause-set
returns-clause-set c =
    let kept = c.loop-block.invariant in
    let covered : length c.args.self.now ≤ 256 * length c.deref-count-items.result.now = rw (← c.self.view_is, c.deref-count-items.ensures.value) c.self.invariant.covered in
    let all = rank_past (256 * c.loop-block.block) c.args.self.now (omega arith) in absurd (omega arith)

pub returns-clause-before : goal.returns-clause-before
returns-clause-before c =
    let kept = c.loop-block.invariant in
    let covered : length c.args.self.now ≤ 256 * length c.deref-count-items.result.now = rw (← c.self.view_is, c.deref-count-items.ensures.value) c.self.invariant.covered in
    let all = rank_past (256 * c.loop-block.block) c.args.self.now (omega arith) in absurd (omega arith)
