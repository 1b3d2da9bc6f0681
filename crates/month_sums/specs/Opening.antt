-- One step of the pass over the statements.
use Rattle.std.specs.Prelude.{◌≡◌, ℕ, ◌+◌, ◌-◌, ◌^◌, ◌≤◌, ◌<◌, Bool, true, false, List, [], ◌∷◌, take, drop, slice_get, slice_set, min, nat_lt, if◌then◌else◌, Option, Some, None, ◌==◌}
use Rattle.sat_base.specs.declared.rates.Rates.{Rates}
use Rattle.sat_base.specs.declared.rates.Tariff.{Tariff}
use Rattle.node_registry.specs.declared.node.Node.{Node}
use Rattle.node_registry.specs.Registry.{node_at}
use Rattle.tally_payout.specs.declared.amounts.Sums.{Sums}
use Rattle.tally_payout.specs.declared.amounts.Statement.{Statement}
use Rattle.month_pay.specs.Months.{month_at}
use Rattle.tally_payout.specs.Statement.{statement_of, last_pot}
use Rattle.tally_payout.specs.Tariff.{tariff_in, rates_of}
use Rattle.node_registry.specs.declared.node.Left.{Left}
use Rattle.tally_payout.specs.Ranks.{month_place, statement_rank}
use Rattle.month_pay.specs.Ledger.{Ledger, has_joined, has_left, pot_before, sums_of}
use Rattle.rows.specs.Rows.{IsRising, Each}
use Rattle.month_pay.specs.Rule.{is_sound_statement}
use Rattle.month_pay.specs.Keeping.{AreFit, AreNodes, of_node}
use Rattle.month_pay.specs.Walk.{walk}
use Rattle.month_sums.specs.declared.opening.Found.{Found}
use Rattle.month_sums.specs.declared.opening.Found.TheVariants as found

-- what comes of a pass after a step: the broken place, or what the rest of the pass tells
abbrev pub pass_after : (ℕ → Statement → Bool) → List ℕ → List Statement → Found → Option ℕ
pass_after good keys rows (found.Broken place) = Some place
pass_after good keys rows (found.Next i) = walk good i keys (drop i rows)

-- what is known of a node, a closed month and the statement that is looked at
pub record GoByNode (l : Ledger) (month : ℕ) (node : Node) (sums : Sums) (pot : ℕ) (left : List Left) (rates : Rates) : Type 0 where
  pub first : l.first ≤ month
  pub closed : month < l.next
  pub known : node_at l.nodes node.id ≡ Some node
  pub joined : has_joined month node ≡ true
  pub sums_are : sums ≡ sums_of l.settled l.tallies node.id month
  pub pot_is : pot ≡ pot_before l.statements node.id month
  pub left_is : left ≡ l.left
  pub rates_are : rates ≡ rates_of (tariff_in month l.tariffs)

-- the statement of a node's month that holds back all or not, as another does
abbrev pub stated_as : Statement → ℕ → Node → Sums → ℕ → List Left → Rates → Statement
stated_as s month node sums pot left rates = statement_of
    node.id
    (record { 0 = month })
    (month + 1 - month_at node.joined)
    (s.percent == 100)
    (has_left left node.id month)
    sums
    pot
    rates

-- a good statement stands at the due place, and the next one is looked at then
pub record IsNext (l : Ledger) (rows : List Statement) (due i n : ℕ) : Type 0 where
  pub one_more : n ≡ i + 1
  pub row : Statement
  pub got : slice_get rows i ≡ Some row
  pub is_due : statement_rank row ≡ due
  pub sound : is_sound_statement l row ≡ true

-- where the node has joined; else the same one is looked at again
abbrev pub LooksOn : Bool → Ledger → List Statement → ℕ → ℕ → ℕ → Type 0
LooksOn true l rows due i n = IsNext l rows due i n
LooksOn false l rows due i n = n ≡ i

-- the place of a node's statement, where it is due
abbrev pub due_of : ℕ → Node → List ℕ
due_of month node = if has_joined month node then month_place month node.id.0 ∷ [] else []

-- what is known of a closed month and all statements
pub record GoByMonth (l : Ledger) (month : ℕ) (nodes : List Node) (rows : List Statement) (sums : List Sums) (left : List Left) (rates : Rates) : Type 0 where
  pub first : l.first ≤ month
  pub closed : month < l.next
  pub nodes_are : nodes ≡ l.nodes
  pub rows_are : rows ≡ l.statements
  pub sums_are : (i : ℕ) (s : Statement) → slice_get rows i ≡ Some s → slice_get sums i ≡ Some (sums_of l.settled l.tallies s.node s.month.0)
  pub left_is : left ≡ l.left
  pub rates_are : rates ≡ rates_of (tariff_in month l.tariffs)
  pub fit : AreFit l
  pub numbered : AreNodes l.nodes
  pub rising : IsRising statement_rank l.statements
  pub low : Each (λ s. s.node.0 < 2 ^ 32) rows

-- the statements before i follow from the rows, and the pots are those that they left
pub record Front (l : Ledger) (nodes : List Node) (rows : List Statement) (i : ℕ) (pots : List ℕ) : Type 0 where
  pub sound : Each (λ s. is_sound_statement l s ≡ true) (take i rows)
  pub left_by : (j : ℕ) (node : Node) → slice_get nodes j ≡ Some node → slice_get pots j ≡ Some (last_pot 0 (of_node node.id (take i rows)))

-- a pot that isn't small has no place among those that follow from the rows
abbrev pub noted : List ℕ → ℕ → Option Statement → List ℕ
noted pots j None = pots
noted pots j (Some s) = slice_set pots j (min s.pot (2 ^ 99))

-- the pots after a node was looked at
abbrev pub pots_after : List ℕ → ℕ → List Statement → ℕ → ℕ → List ℕ
pots_after pots j rows i n = if nat_lt i n then noted pots j (slice_get rows i) else pots

abbrev pub AreSmall : List ℕ → Type 0
AreSmall pots = (k x : ℕ) → slice_get pots k ≡ Some x → x < 2 ^ 100

-- what is known of all statements, as a pass over them begins
pub record GoByAll (l : Ledger) (first next : ℕ) (nodes : List Node) (rows : List Statement) (sums : List Sums) (left : List Left) (tariffs : List Tariff) : Type 0 where
  pub first_is : first ≡ l.first
  pub next_is : next ≡ l.next
  pub nodes_are : nodes ≡ l.nodes
  pub rows_are : rows ≡ l.statements
  pub sums_are : (i : ℕ) (s : Statement) → slice_get rows i ≡ Some s → slice_get sums i ≡ Some (sums_of l.settled l.tallies s.node s.month.0)
  pub left_is : left ≡ l.left
  pub tariffs_are : tariffs ≡ l.tariffs
  pub fit : AreFit l
  pub numbered : AreNodes l.nodes
  pub rising : IsRising statement_rank l.statements
  pub low : Each (λ s. s.node.0 < 2 ^ 32) rows
