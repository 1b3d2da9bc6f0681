use Rattle.std.proofs.Common.{◌∙◌, ap, subst}
use Rattle.repair_core.specs.Indexes.{place_indexes}
use Rattle.repair_core.specs.Rebuilt.{IsRebuilt}
use Rattle.repair_core.specs.Room.{marked_of}
use Rattle.repair_core.proofs.Whole.{rebuilt}
use Rattle.repair_core.proofs.Marks.{unmarked}
use Rattle.repair_core.proofs.rebuilding.rebuild_stripes.Goals as goal

pub returns-clause-ok : goal.returns-clause-ok
returns-clause-ok c =
    let scheme = c.args.scheme.now in
    let start = c.in-Ok-new.made in
    let new = c.mend_whole.new.made in
    let whole : IsRebuilt scheme.k scheme.share start.whole (place_indexes c.args.plan.now.targets) c.args.pieces.now c.of.result c.finish-remade.result.blamed c.finish-remade.result.fresh
    = rw (c.of.ensures, c.finish-remade.ensures.fresh)
    (rebuilt scheme.k scheme.share start.whole scheme.rebuilds scheme.some_bytes (place_indexes c.args.plan.now.targets) c.args.pieces.now
    start.marks.items new.marks.items start.fresh.items new.fresh.items c.in_ok-bytes.bytes.items c.finish-remade.result.blamed
    c.requires.rising c.in_ok-bytes.ensures.kept (unmarked 256 start.marks.items c.in-Ok-new.ensures.marks) c.in-Ok-new.ensures.indexes
    c.in_ok-bytes.ensures.made.long
    (c.finish-remade.ensures.blamed ∙ ap (marked_of new.marks.items) c.in-Ok-indexes_in.ensures)) in
    subst (λ n. IsRebuilt scheme.k scheme.share n (place_indexes c.args.plan.now.targets) c.args.pieces.now c.of.result c.finish-remade.result.blamed c.finish-remade.result.fresh)
    c.in-Ok-new.ensures.whole whole
