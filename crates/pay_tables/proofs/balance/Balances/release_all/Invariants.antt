use Rattle.std.proofs.Common.{◌≡◌, take}
use Rattle.rows.specs.Rows.{Each}
use Rattle.pay_tables.specs.Amounts.{balance_rank}
use Rattle.pay_tables.specs.Placed.{IsFreed, HasNoMore}
use Rattle.pay_tables.proofs.balance.Balances.release_all.Given as goal

-- the slots of the pieces so far are gone, and none came
abbrev pub invariant-loop-piece : goal.invariant-loop-piece
invariant-loop-piece l = record {
  rows : l.self.rows ≡ l.fn.self.rows;
  freed : Each (λ piece. IsFreed balance_rank l.fn.self l.self piece.node.0) (take l.piece-index l.pieces);
  fewer : HasNoMore l.fn.self l.self;
}
