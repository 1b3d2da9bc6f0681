use Rattle.std.proofs.Common.{◌≡◌, ℕ, true, take}
use Rattle.rows.specs.Rows.{Each}
use Rattle.rows.specs.Slots.{has_slot}
use Rattle.pay_tables.proofs.balance.Balances.place_all.Given as goal

abbrev pub invariant-loop-piece : goal.invariant-loop-piece
invariant-loop-piece l = record {
  rows : l.self.rows ≡ l.fn.self.rows;
  placed : Each (λ piece. has_slot l.self piece.node.0 ≡ true) (take l.piece-index l.pieces);
  others : (k : ℕ) → has_slot l.fn.self k ≡ true → has_slot l.self k ≡ true;
}
