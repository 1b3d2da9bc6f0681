use Rattle.std.proofs.Common.{◌≡◌, true, false, ap, sym, ◌∙◌}
use Rattle.segment_index.specs.declared.pairs.Pair.{Pair}
use Rattle.segment_index.specs.Pairs.{has}
use Rattle.segment_index.proofs.Asked.{first_some, first_none}
use Rattle.segment_index.proofs.index.SegmentIndex.first_at.Goals as goal

pub returns-then-contains : goal.returns-then-contains
returns-then-contains c =
    let pairs = c.self.inside.by_node.rows in
    let there : has pairs (record { high = c.args.node.0; low = 0 }) ≡ true = ap (λ (pair : Pair). has pairs pair) (sym c.pair_at.ensures) ∙ sym c.contains.ensures ∙ c.if-contains.true in
    rw (← c.self.view_is) (c.get.ensures ∙ first_some c.self.inside.segments.rows c.self.invariant.rising c.args.node pairs c.self.invariant.by_node there)

pub returns : goal.returns
returns c =
    let pairs = c.self.inside.by_node.rows in
    let absent : has pairs (record { high = c.args.node.0; low = 0 }) ≡ false = ap (λ (pair : Pair). has pairs pair) (sym c.pair_at.ensures) ∙ sym c.contains.ensures ∙ c.if-contains.false in
    c.next_at.ensures ∙ (rw (← c.self.view_is) (first_none c.self.inside.segments.rows c.self.invariant.rising c.args.node pairs c.self.invariant.by_node absent))
