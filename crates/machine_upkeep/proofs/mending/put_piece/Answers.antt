use Rattle.std.proofs.Common.{◌≡◌, ◌<◌, length, get_or, rules}
use Rattle.machine_upkeep.proofs.PutLemmas.{replaced}
use Rattle.machine_upkeep.proofs.mending.put_piece.Goals as goal

pub returns-then-index-piece-2 : goal.returns-then-index-piece-2
returns-then-index-piece-2 c =
    let within : c.loop-i.i < length c.args.pieces.now.items = search rules in
    let same : (get_or c.args.pieces.now.items c.loop-i.i c.index-then-i-len.result.now).index ≡ c.args.piece.index = search rules in
    replaced c.args.pieces.now.items c.args.piece c.loop-i.i c.index-then-i-len.result.now within same c.loop-i.invariant.goes_on
