use Rattle.std.proofs.Common.{◌≡◌, ℕ, None}
use Rattle.sat_base.specs.declared.ids.NodeId.{NodeId}
use Rattle.rows.specs.Rows.{row_at}
use Rattle.tally_payout.specs.Ranks.{month_place, statement_rank}
use Rattle.month_sums.specs.Open.{sums_at}
use Rattle.pay_tables.proofs.opening.drop_stated.Given as goal

-- what was counted for a place without a statement stays
abbrev pub invariant-loop-statement : goal.invariant-loop-statement
invariant-loop-statement l = (node : NodeId) (month : ℕ) → row_at statement_rank l.statements (month_place month node.0) ≡ None → sums_at l.counted.rows month node ≡ sums_at l.fn.counted.rows month node
