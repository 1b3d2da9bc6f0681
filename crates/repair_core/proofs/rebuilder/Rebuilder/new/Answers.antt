use Rattle.std.proofs.Common.{◌∙◌, ap}
use Rattle.repair_core.specs.Indexes.{place_indexes}
use Rattle.repair_core.proofs.Progressing.{starts}
use Rattle.repair_core.proofs.rebuilder.Rebuilder.new.Goals as goal

pub returns : goal.returns
returns c =
    let scheme = c.args.scheme.now in
    let made = c.in_ok-made.made in
    let are = c.in_ok-made.ensures in
    starts scheme.k scheme.share scheme.n c.args.window _ (place_indexes c.args.plan.now.targets) made.whole made.done c.in_ok-sources.sources.items (place_indexes c.args.plan.now.sources) made.marks.items made.fresh.items
    are.whole are.done (c.in_ok-sources.ensures ∙ ap place_indexes c.as_slice.ensures) are.marks are.indexes
