use Rattle.std.proofs.Common.{◌%◌, ap, arith}
use Rattle.placement.proofs.ChainLemmas.{more-chained}
use Rattle.placement.proofs.chains.Chains.push.Goals as goal

pub invariant_of-self : goal.invariant_of-self
invariant_of-self c = rw c.push_reserved.ensures.items (more-chained c.self.inside.links.items c.self.inside.last.items (record { subnet = c.args.subnet; before = c.index-before.result.now }) _ c.len-2.result c.self.invariant (ap (λ n. c.args.subnet % n) (omega arith)) c.index-before.ensures (omega (arith, c.push_reserved.ensures.len)))
