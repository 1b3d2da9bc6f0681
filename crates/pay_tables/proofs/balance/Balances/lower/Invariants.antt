use Rattle.std.proofs.Common.{◌≡◌, ◌+◌, take}
use Rattle.sat_base.specs.declared.ids.NodeId.{NodeId}
use Rattle.pay_tables.specs.Amounts.{amount_at, bytes_at}
use Rattle.pay_tables.proofs.balance.Balances.lower.Given as goal

-- the nodes of the pieces before i lost their bytes
abbrev pub invariant-loop-i : goal.invariant-loop-i
invariant-loop-i l = record {
  amounts : (node : NodeId) → amount_at l.self.rows node + bytes_at node (take l.i l.pieces) l.bytes ≡ amount_at l.fn.self.rows node;
  slots : l.self.slots ≡ l.fn.self.slots;
}
