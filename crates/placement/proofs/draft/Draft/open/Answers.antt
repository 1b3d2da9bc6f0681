use Rattle.std.proofs.Common.{◌≡◌, [], ◌∙◌, arith}
use Rattle.placement.specs.declared.request.Class.TheVariants.{Vetted, Unvetted}
use Rattle.placement.specs.Eligible.{subnet_of}
use Rattle.placement.specs.Draft.{terms_of}
use Rattle.placement.proofs.DraftLemmas.{test_of, mapped-more, open-flag}
use Rattle.placement.proofs.draft.Draft.open.Goals as goal
use Rattle.placement.proofs.draft.Draft.open.Goals.{then-is_of, else-is_of, then-is_of-2, else-is_of-2}

pub loop-node-preserved : goal.loop-node-preserved
loop-node-preserved c =
    let terms = terms_of c.args.request.now in
    let node = c.node-item.result in
    let nodes = c.nodes-node-items.result.now in
    let before = c.loop-node.invariant in
    let lt = c.loop-node-test.true in
    let vetted : c.if-is_of.push_reserved ≡ test_of terms Vetted [] node = open-flag terms Vetted node _ (elim c.if-is_of.branch [
      | then-is_of w ↦ rw (← c.is_of.ensures, w.if-is_of.true) (w.push_reserved-is ∙ c.is_open-is_open.ensures)
      | else-is_of w ↦ rw (← c.is_of.ensures, w.if-is_of.false) (w.push_reserved-is ∙ w.if-is_of.false)
    ]) in
    let unvetted : c.if-is_of-2.push_reserved ≡ test_of terms Unvetted [] node = open-flag terms Unvetted node _ (elim c.if-is_of-2.branch [
      | then-is_of-2 w ↦ rw (← c.is_of-in-loop-node.ensures, w.if-is_of-2.true) (w.push_reserved-is ∙ c.is_open-is_open.ensures)
      | else-is_of-2 w ↦ rw (← c.is_of-in-loop-node.ensures, w.if-is_of-2.false) (w.push_reserved-is ∙ w.if-is_of-2.false)
    ]) in
    record {
      chains = mapped-more subnet_of nodes c.loop-node.chains.subnets c.push.new.self.subnets c.loop-node.node-index node c.subnet.result lt c.node-item.is before.chains c.push.ensures.subnets c.subnet.ensures;
      vetted = mapped-more (test_of terms Vetted []) nodes c.loop-node.vetted.items c.push_reserved.new.self.items c.loop-node.node-index node c.if-is_of.push_reserved lt c.node-item.is before.vetted c.push_reserved.ensures.items vetted;
      unvetted = mapped-more (test_of terms Unvetted []) nodes c.loop-node.unvetted.items c.push_reserved-in-loop-node.new.self.items c.loop-node.node-index node c.if-is_of-2.push_reserved lt c.node-item.is before.unvetted c.push_reserved-in-loop-node.ensures.items unvetted;
      chains_room = omega (arith, before.chains_room, c.push.ensures.spare);
      vetted_room = c.push_reserved.ensures.capacity ∙ before.vetted_room;
      unvetted_room = c.push_reserved-in-loop-node.ensures.capacity ∙ before.unvetted_room;
    }
