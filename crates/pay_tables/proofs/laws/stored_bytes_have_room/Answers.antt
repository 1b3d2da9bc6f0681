use Rattle.std.proofs.Common.{◌+◌, ◌^◌, ◌<◌}
use Rattle.pay_tables.specs.Amounts.{amount_at, live_bytes}
use Rattle.pay_tables.proofs.Pieces.{each-lies}
use Rattle.pay_tables.proofs.Segments.{amount-room}
use Rattle.pay_tables.proofs.laws.stored_bytes_have_room.Goals as goal

pub returns : goal.returns
returns c setup segments settled p segment within step few short =
    each-lies (λ piece. amount_at p.stored.rows piece.node + live_bytes setup segment < 2 ^ 128) segment.pieces
    (λ piece lies. amount-room setup within.scheme p.stored.rows segments segment piece.node step.stored step.short few short)
