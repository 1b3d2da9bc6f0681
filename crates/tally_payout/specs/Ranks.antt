-- The ranks of tallies and statements.
use Rattle.std.specs.Prelude.{ℕ, ◌+◌, ◌*◌, ◌^◌}
use Rattle.tally_payout.specs.declared.amounts.Tally.{Tally}
use Rattle.tally_payout.specs.declared.amounts.Statement.{Statement}

-- a tally stands by its hour, and then by its node
abbrev pub tally_rank : Tally → ℕ
tally_rank tally = tally.hour.0 * 2 ^ 32 + tally.node.0

-- a month and a node as one number
abbrev pub month_place : ℕ → ℕ → ℕ
month_place month node = month * 2 ^ 32 + node

-- a statement by its month, and then by its node
abbrev pub statement_rank : Statement → ℕ
statement_rank statement = month_place statement.month.0 statement.node.0
