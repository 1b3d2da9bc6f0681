use Rattle.std.proofs.Common.{◌≡◌, length}
use Rattle.std.specs.Prelude.{All}
use Rattle.rs_stripe.proofs.pieces.blank_pieces.Given as goal

abbrev pub invariant-pieces : goal.invariant-pieces
invariant-pieces l = record {
  count : length l.pieces.items ≡ l.counter;
  long : All (λ piece. length piece ≡ l.len) l.pieces.items;
}
