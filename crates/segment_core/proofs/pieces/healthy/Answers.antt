use Rattle.std.proofs.Common.{◌≡◌, rules}
use Rattle.std.specs.Prelude.{filter}
use Rattle.segment_core.specs.Health.{is_healthy}
use Rattle.segment_core.proofs.ByIndex.{filtered_by_index}
use Rattle.segment_core.proofs.pieces.healthy.Goals as goal

pub returns-clause-by_index : goal.returns-clause-by_index
returns-clause-by_index c =
    let kept : c.of.result ≡ filter (is_healthy c.args.table.now.nodes) c.segment.inside.pieces = search rules in
    rw kept (filtered_by_index _ _ c.segment.invariant)
