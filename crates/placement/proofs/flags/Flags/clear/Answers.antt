use Rattle.std.proofs.Common.{◌<◌, length}
use Rattle.placement.proofs.Ranks.{counted-cleared}
use Rattle.placement.proofs.flags.Flags.clear.Goals as goal

pub overflow_sub-index_mut : goal.overflow_sub-index_mut
overflow_sub-index_mut c =
    let lt : c.args.at < length c.self.inside.flags.items = rw c.self.view_is c.requires in
    (counted-cleared c.self.inside.flags.items c.self.inside.counts.items c.self.inside.total c.args.at c.index_mut-then-index.result.now c.index.result.now c.self.invariant lt c.index.ensures c.if-index.true c.index_mut-then-index.ensures.value).some

pub overflow_sub-self : goal.overflow_sub-self
overflow_sub-self c =
    let lt : c.args.at < length c.self.inside.flags.items = rw c.self.view_is c.requires in
    (counted-cleared c.self.inside.flags.items c.self.inside.counts.items c.self.inside.total c.args.at c.index_mut-then-index.result.now c.index.result.now c.self.invariant lt c.index.ensures c.if-index.true c.index_mut-then-index.ensures.value).one

pub invariant_of-self : goal.invariant_of-self
invariant_of-self c =
    let lt : c.args.at < length c.self.inside.flags.items = rw c.self.view_is c.requires in
    (counted-cleared c.self.inside.flags.items c.self.inside.counts.items c.self.inside.total c.args.at c.index_mut-then-index.result.now c.index.result.now c.self.invariant lt c.index.ensures c.if-index.true c.index_mut-then-index.ensures.value).counted
