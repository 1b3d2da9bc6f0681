use Rattle.std.proofs.Common.{ap, sym}
use Rattle.std.proofs.lemmas.List.{drop_all}
use Rattle.http_edge.specs.Fields.{needed}
use Rattle.http_edge.proofs.FieldLemmas.{bytes_first, bytes_more, bytes_wrong, bytes_all}
use Rattle.http_edge.proofs.pieces.bytes.Goals as goal

pub loop-item-init : goal.loop-item-init
loop-item-init c = bytes_first c.new-indexes.result.items _ c.new-indexes.ensures.items

pub loop-item-preserved : goal.loop-item-preserved
loop-item-preserved c =
    rw c.in-Ok.ensures.items
    (bytes_more c.args.items.now c.loop-item.item-index c.item-item.result c.loop-item.indexes.items c.in-Some.index _ c.loop-item-test.true c.item-item.is (sym c.in-Some.ensures) c.loop-item.invariant)

pub returns-in_default : goal.returns-in_default
returns-in_default c = λ n.
    ap (needed 3) (bytes_wrong c.args.items.now c.loop-item.item-index c.item-item.result c.loop-item.indexes.items _ c.loop-item-test.true c.item-item.is (sym c.in_default.ensures) c.loop-item.invariant)

pub returns : goal.returns
returns c =
    rw c.of.ensures
    (ap (needed 3) (bytes_all c.args.items.now c.loop-item.item-index c.loop-item.indexes.items _ (drop_all c.loop-item.item-index c.args.items.now c.loop-item-test.false) c.loop-item.invariant))
