-- A month's statements, as they are made of what is kept beside the rows.
use Rattle.std.specs.Prelude.{◌≡◌, ℕ, ◌+◌, ◌-◌, ◌^◌, ◌<◌, ◌≤◌, ◌&&◌, false, List, [], ◌∷◌, ◌++◌, length, if◌then◌else◌, Some, slice_get}
use Rattle.sat_base.specs.declared.limits.TheConstants as limits
use Rattle.sat_base.specs.declared.rates.Rates.{Rates}
use Rattle.node_registry.specs.declared.node.Node.{Node}
use Rattle.tally_payout.specs.declared.amounts.Statement.{Statement}
use Rattle.tally_payout.specs.Statement.{statement_of}
use Rattle.tally_payout.specs.Tariff.{IsSums, IsRates, tariff_in, rates_of}
use Rattle.node_registry.specs.declared.node.Left.{Left}
use Rattle.month_pay.specs.Months.{month_at}
use Rattle.node_registry.specs.Standing.{is_disqualified}
use Rattle.month_pay.specs.Ledger.{Ledger, has_joined, has_left, pot_before, sums_of}
use Rattle.rows.specs.Rows.{Each}
use Rattle.month_sums.specs.declared.sums.OpenSums.{OpenSums}
use Rattle.month_sums.specs.Open.{sums_at}

-- the statement of a node
abbrev pub closed_by : ℕ → Node → ℕ → List OpenSums → List Left → Rates → Statement
closed_by month node pot sums left rates = statement_of
    node.id
    (record { 0 = month })
    (month + 1 - month_at node.joined)
    (is_disqualified node.status)
    (has_left left node.id month)
    (sums_at sums month node.id)
    pot
    rates

-- none, where it hasn't joined yet
abbrev pub row_by : ℕ → Node → ℕ → List OpenSums → List Left → Rates → List Statement
row_by month node pot sums left rates = if has_joined month node then closed_by month node pot sums left rates ∷ [] else []

-- of nodes and their pots
abbrev pub rows_by : ℕ → List OpenSums → List Left → Rates → List Node → List ℕ → List Statement
rows_by month sums left rates (node ∷ nodes) (pot ∷ pots) = row_by month node pot sums left rates ++ rows_by month sums left rates nodes pots
rows_by month sums left rates _ _ = []

-- the bounds are kept, and no node is both disqualified and gone in good order
pub record CanClose (month : ℕ) (nodes : List Node) (pots : List ℕ) (sums : List OpenSums) (left : List Left) (rates : Rates) : Type 0 where
  pub early : month ≤ limits.LAST_MONTH
  pub long : length pots ≡ length nodes
  pub small : (i pot : ℕ) → slice_get pots i ≡ Some pot → pot < 2 ^ 100
  pub fit : (i : ℕ) (node : Node) → slice_get nodes i ≡ Some node → IsSums (sums_at sums month node.id)
  pub rated : IsRates rates
  pub apart : (i : ℕ) (node : Node) → slice_get nodes i ≡ Some node → is_disqualified node.status && has_left left node.id month ≡ false

-- what is kept goes by the ledger
pub record GoByLedger (l : Ledger) (pots : List ℕ) (sums : List OpenSums) (left : List Left) (rates : Rates) : Type 0 where
  pub left_is : left ≡ l.left
  pub rates_are : rates ≡ rates_of (tariff_in l.next l.tariffs)
  pub sums_are : Each (λ node. sums_at sums l.next node.id ≡ sums_of l.settled l.tallies node.id l.next) l.nodes
  pub pots_are : (i : ℕ) (node : Node) → slice_get l.nodes i ≡ Some node → slice_get pots i ≡ Some (pot_before l.statements node.id l.next)

-- a pot is kept for each node: what its statements left
pub record GoByPots (l : Ledger) (pots : List ℕ) : Type 0 where
  pub long : length pots ≡ length l.nodes
  pub each : (i : ℕ) (node : Node) → slice_get l.nodes i ≡ Some node → slice_get pots i ≡ Some (pot_before l.statements node.id l.next)

-- a node that has left in good order isn't disqualified
abbrev pub AreApart : Ledger → Type 0
AreApart l = (i : ℕ) (node : Node) → slice_get l.nodes i ≡ Some node → is_disqualified node.status && has_left l.left node.id l.next ≡ false
