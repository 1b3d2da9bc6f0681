-- How a ledger may change between two closes: what is paid of the closed months stays.
use Rattle.std.specs.Prelude.{◌≡◌, ℕ, ◌+◌, ◌^◌, ◌<◌, ◌≤◌, ◌==◌, true, filter, List, [], ◌∷◌, length, Option, Some, None, is_some}
use Rattle.std.specs.List.{list_all}
use Rattle.sat_base.specs.declared.ids.NodeId.{NodeId}
use Rattle.rows.specs.Rows.{Each, row_at, AllAbove, IsRising}
use Rattle.node_registry.specs.declared.node.Node.{Node}
use Rattle.node_registry.specs.Registry.{node_rank, node_at}
use Rattle.tally_payout.specs.declared.amounts.Statement.{Statement}
use Rattle.tally_payout.specs.Tariff.{tariff_in, rates_of, parts_of, IsRates}
use Rattle.tally_payout.specs.Ranks.{month_place, statement_rank}
use Rattle.node_registry.specs.Standing.{is_disqualified}
use Rattle.month_pay.specs.Ledger.{Ledger, settled_in, tallied_in, has_joined, has_left, stated, sums_of}
use Rattle.month_pay.specs.Rule.{is_sound_statement}
use Rattle.sat_base.specs.declared.limits.TheConstants as limits

-- each node that has joined by a month has a statement of it
abbrev pub Covers : List Statement → ℕ → List Node → Type 0
Covers rows month nodes = Each (λ node. has_joined month node ≡ true → is_some (row_at statement_rank rows (month_place month node.id.0)) ≡ true) nodes

-- the rule of statements: so many at most; each follows from the rows; and none is missing
pub record RuleHolds (cap : ℕ) (l : Ledger) : Type 0 where
  pub few : length l.statements ≤ cap
  pub all : list_all (is_sound_statement l) l.statements ≡ true
  pub due : (month : ℕ) → l.first ≤ month → month < l.next → Covers l.statements month l.nodes

-- a node keeps its id and the moment of its joining, and stays disqualified where it is
pub record IsSameNode (old new : Node) : Type 0 where
  pub id : new.id ≡ old.id
  pub joined : new.joined ≡ old.joined
  pub gone : is_disqualified old.status ≡ true → is_disqualified new.status ≡ true

abbrev pub StaysAs : Node → Option Node → Type 0
StaysAs old None = ⊥
StaysAs old (Some new) = IsSameNode old new

-- what the closed months were paid by is the same: their rows, their tariffs, who had left and who had joined
pub record SamePay (old new : Ledger) : Type 0 where
  pub first : new.first ≡ old.first
  pub next : new.next ≡ old.next
  pub statements : new.statements ≡ old.statements
  pub settled : (node : NodeId) (month : ℕ) → month < old.next → settled_in new.settled node month ≡ settled_in old.settled node month
  pub tallied : (node : NodeId) (month : ℕ) → month < old.next → tallied_in new.tallies node month ≡ tallied_in old.tallies node month
  pub rates : (month : ℕ) → month < old.next → tariff_in month new.tariffs ≡ tariff_in month old.tariffs
  pub left : (node : NodeId) (month : ℕ) → month < old.next → has_left new.left node month ≡ has_left old.left node month
  pub nodes : (id : NodeId) (node : Node) → node_at old.nodes id ≡ Some node → StaysAs node (node_at new.nodes id)
  pub joins : (rows : List Statement) (month : ℕ) → month < old.next → Covers rows month old.nodes → Covers rows month new.nodes

-- the ids of nodes rise from 1 and fit four bytes
pub record AreNodes (nodes : List Node) : Type 0 where
  pub rising : IsRising node_rank nodes
  pub some : AllAbove node_rank 0 nodes
  pub low : Each (λ node. node.id.0 < 2 ^ 32) nodes

-- the statement is that of a known node, as it follows from the rows
pub record IsStated (l : Ledger) (s : Statement) : Type 0 where
  pub node : Node
  pub known : node_at l.nodes s.node ≡ Some node
  pub states : s ≡ stated l s.month.0 node (s.percent == 100)

-- what was paid of a statement and what was held back make its gross, which is what the month's rows earn at the month's rates
pub record IsWhole (l : Ledger) (s : Statement) : Type 0 where
  pub gross : s.paid + s.held ≡ s.parts.gross
  pub tariff : s.parts ≡ parts_of (rates_of (tariff_in s.month.0 l.tariffs)) (sums_of l.settled l.tallies s.node s.month.0)

-- the statements of a node
abbrev pub of_node : NodeId → List Statement → List Statement
of_node node rows = filter (λ s. s.node.0 == node.0) rows

-- the bounds of the rows, and of the months: those of their records, and of the caps
pub record AreFit (l : Ledger) : Type 0 where
  pub amounts : Each (λ row. row.amount < 2 ^ 64) l.settled
  pub orders : length l.settled ≤ 4194304
  pub bytes : Each (λ row. row.bytes ≤ 2 ^ 44) l.tallies
  pub hours : length l.tallies ≤ 4194304
  pub rates : Each (λ tariff. IsRates tariff.rates) l.tariffs
  pub last : l.next ≤ limits.LAST_MONTH
  pub begins : 23640 ≤ l.first
