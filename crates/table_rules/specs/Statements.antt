-- What is known of the rows of a store where its statements are tested: those of earlier rules keep them.
use Rattle.std.specs.Prelude.{◌≡◌, List, []}
use Rattle.rows.specs.Rows.{IsRising}
use Rattle.sat_base.specs.declared.settings.Settings.{Settings}
use Rattle.sat_base.specs.declared.settings.Marks.{Marks}
use Rattle.sat_base.specs.declared.rates.Tariff.{Tariff}
use Rattle.node_registry.specs.declared.node.Node.{Node}
use Rattle.node_registry.specs.declared.node.Left.{Left}
use Rattle.tally_payout.specs.declared.amounts.Statement.{Statement}
use Rattle.tally_payout.specs.Ranks.{statement_rank}
use Rattle.month_pay.specs.Ledger.{Ledger}
use Rattle.month_pay.specs.Keeping.{AreFit, AreNodes}
use Rattle.month_sums.specs.declared.sums.OpenSums.{OpenSums}
use Rattle.month_sums.specs.Open.{GoByRows}

-- the ledger is that of these rows, which are within bounds and in order, and the sums are those of its rows
pub record IsLedgerOf (l : Ledger) (settings : Settings) (marks : Marks) (nodes : List Node) (rows : List Statement) (open_sums : List OpenSums) (left : List Left) (tariffs : List Tariff) : Type 0 where
  pub first : settings.first_month.0 ≡ l.first
  pub next : marks.month.0 ≡ l.next
  pub nodes_are : nodes ≡ l.nodes
  pub rows_are : rows ≡ l.statements
  pub left_is : left ≡ l.left
  pub tariffs_are : tariffs ≡ l.tariffs
  pub sums : GoByRows open_sums l.settled l.tallies []
  pub fit : AreFit l
  pub numbered : AreNodes l.nodes
  pub rising : IsRising statement_rank l.statements
