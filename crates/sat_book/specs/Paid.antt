-- Operators are paid by the tariff, and a month that is closed stays as it is.
use Rattle.std.specs.Prelude.{◌≡◌, ◌+◌, List, ◌++◌, map}
use Rattle.std.specs.List.{sum_by}
use Rattle.sat_base.specs.declared.ids.NodeId.{NodeId}
use Rattle.rows.specs.Rows.{Each}
use Rattle.tally_payout.specs.Statement.{last_pot}
use Rattle.month_pay.specs.Keeping.{IsWhole, of_node}
use Rattle.machine_step.specs.Closed.{StaysClosed}
use Rattle.machine_step.specs.Tables.{Tables, ledger_of}
use Rattle.machine_history.specs.History.{replay}
use Rattle.sat_book.specs.Legal.{E, said_of}

-- of each statement, what was paid and what was held back make its gross, which is what the month's settled orders and tallies earn at the month's rates. All that was paid and returned to a node, with the pot that its statements left, is what it earned
pub record IsPaidByTariff (t : Tables) : Type 0 where
  pub whole : Each (IsWhole (ledger_of t)) t.statements
  pub node : (node : NodeId) → sum_by (λ s. s.paid) (of_node node t.statements) + sum_by (λ s. s.returned) (of_node node t.statements) + last_pot 0 (of_node node t.statements)
      ≡ sum_by (λ s. s.parts.gross) (of_node node t.statements)

-- so it is at each moment of a history
abbrev pub PaysByTariff : Tables → List E → Type 0
PaysByTariff start history = (before more : List E) → before ++ more ≡ history → IsPaidByTariff (replay start (map said_of before))

-- from any moment of a history on, the sums of the months that are closed then stay, and their statements
abbrev pub ClosedMonthsStay : Tables → List E → Type 0
ClosedMonthsStay start history = (before more : List E) → before ++ more ≡ history → StaysClosed (replay start (map said_of before)) (replay start (map said_of history))
