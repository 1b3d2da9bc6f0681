use Rattle.std.proofs.Common.{◌≡◌, ◌+◌, ◌-◌, length, ap, ◌∙◌, arith}
use Rattle.placement.specs.Chains.{Chained}
use Rattle.placement.proofs.ChainLemmas.{IsStruckFrom, first-read, node-read, last-next, none-struck, skipped, cleared, passed, all-struck}
use Rattle.placement.proofs.chains.Chains.strike.Goals as goal
use Rattle.placement.proofs.chains.Chains.strike.Goals.{then-link-subnet, else-link-subnet}

pub loop-left-init : goal.loop-left-init
loop-left-init c =
    let subnets = c.args.self.now.subnets in
    let buckets = c.len-buckets.result in
    let first = first-read c.self.inside.links.items subnets c.self.inside.last.items buckets c.args.subnet c.index.result.now c.self.invariant (ap (λ (chains : Chained). chains.subnets) c.self.view_is) (omega arith) c.index.ensures in
    record {
      next = last-next subnets buckets c.args.subnet (length subnets) c.index.result.now (omega arith) first;
      vetted = rw first (skipped subnets buckets c.args.subnet (length subnets) _ _ (none-struck subnets c.args.subnet c.args.vetted.now c.requires.vetted_long));
      unvetted = rw first (skipped subnets buckets c.args.subnet (length subnets) _ _ (none-struck subnets c.args.subnet c.args.unvetted.now c.requires.unvetted_long));
    }

pub loop-left-smaller : goal.loop-left-smaller
loop-left-smaller c =
    let read = node-read c.self.inside.links.items c.args.self.now.subnets c.self.inside.last.items c.len-buckets.result c.args.subnet c.loop-left.left (c.loop-left.left - 1) _ c.self.invariant (ap (λ (chains : Chained). chains.subnets) c.self.view_is) (omega arith) c.loop-left.invariant.next (omega arith) c.index-link.ensures in
    let falls = read.falls in
    omega arith

pub loop-left-preserved : goal.loop-left-preserved
loop-left-preserved c =
    let subnets = c.args.self.now.subnets in
    let buckets = c.len-buckets.result in
    let subnet = c.args.subnet in
    let at = c.loop-left.left - 1 in
    let before = c.loop-left.invariant in
    let above : c.loop-left.left ≡ at + 1 = omega arith in
    let read = node-read c.self.inside.links.items subnets c.self.inside.last.items buckets subnet c.loop-left.left at _ c.self.invariant (ap (λ (chains : Chained). chains.subnets) c.self.view_is) (omega arith) before.next above c.index-link.ensures in
    let vetted : IsStruckFrom subnets subnet at c.args.vetted.now c.if-link-subnet.vetted = elim c.if-link-subnet.branch [
      | then-link-subnet w ↦ rw (w.vetted-is, w.clear.ensures) (cleared subnets subnet c.loop-left.left at _ _ before.vetted above (read.subnet_is ∙ w.if-link-subnet.true))
      | else-link-subnet w ↦ rw w.vetted-is (passed subnets subnet c.loop-left.left at _ _ before.vetted above (rw read.subnet_is w.if-link-subnet.false))
    ] in
    let unvetted : IsStruckFrom subnets subnet at c.args.unvetted.now c.if-link-subnet.unvetted = elim c.if-link-subnet.branch [
      | then-link-subnet w ↦ rw (w.unvetted-is, w.clear-then-link-subnet.ensures) (cleared subnets subnet c.loop-left.left at _ _ before.unvetted above (read.subnet_is ∙ w.if-link-subnet.true))
      | else-link-subnet w ↦ rw w.unvetted-is (passed subnets subnet c.loop-left.left at _ _ before.unvetted above (rw read.subnet_is w.if-link-subnet.false))
    ] in
    record {
      next = read.goes_on;
      vetted = rw read.next_is (skipped subnets buckets subnet at _ _ vetted);
      unvetted = rw read.next_is (skipped subnets buckets subnet at _ _ unvetted);
    }

pub returns-clause-vetted : goal.returns-clause-vetted
returns-clause-vetted c =
    let done : c.loop-left.left ≡ 0 = omega arith in
    all-struck c.args.self.now.subnets c.args.subnet c.args.vetted.now c.loop-left.vetted c.requires.vetted_long (rw done at c.loop-left.invariant.vetted)

pub returns-clause-unvetted : goal.returns-clause-unvetted
returns-clause-unvetted c =
    let done : c.loop-left.left ≡ 0 = omega arith in
    all-struck c.args.self.now.subnets c.args.subnet c.args.unvetted.now c.loop-left.unvetted c.requires.unvetted_long (rw done at c.loop-left.invariant.unvetted)
