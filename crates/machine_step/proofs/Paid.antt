-- What a step makes of the pay of months: the statements keep their rule, and closed months stay.
use Rattle.std.proofs.Common.{◌≡◌, ℕ, ◌<◌, List, [], ◌∷◌, ◌++◌, Some, None, refl, sym, ap, subst, ◌∙◌}
use Rattle.std.specs.Prelude.{map}
use Rattle.rows.specs.Rows.{row_at}
use Rattle.rows.specs.Slots.{with_row}
use Rattle.node_registry.specs.declared.node.Node.{Node}
use Rattle.node_registry.specs.Registry.{node_rank, node_at}
use Rattle.sat_base.specs.declared.records.Containment.{Containment}
use Rattle.sat_base.specs.Ranks.{containment_rank}
use Rattle.tally_payout.specs.declared.amounts.Statement.{Statement}
use Rattle.tally_payout.specs.Ranks.{statement_rank}
use Rattle.month_pay.specs.Ledger.{Ledger}
use Rattle.month_pay.specs.Rule.{broken_places}
use Rattle.month_pay.specs.Keeping.{IsSameNode, SamePay}
use Rattle.month_pay.proofs.RuleForms.{rule_holds}
use Rattle.month_pay.proofs.Unchanged.{same_keeps}
use Rattle.month_pay.proofs.Steps.{same_self, same_put}
use Rattle.machine_calls.specs.declared.change.RecChange.{RecChange}
use Rattle.machine_calls.specs.declared.change.RecChange.TheVariants as changes
use Rattle.machine_step.specs.Tables.{Tables, ledger_of, all_changed}
use Rattle.machine_step.specs.Bounds.{Each, IsValid}
use Rattle.machine_step.specs.Closed.{StaysClosed}
use Rattle.machine_step.proofs.Hold.{StatementsHold}
use Rattle.machine_step.proofs.LeftLemmas.{least-none}
use Rattle.machine_step.proofs.Batches.{puts_of, nodes-put}

pub record IsPaid (t t' : Tables) : Type 0 where
  pub holds : StatementsHold t.setup.caps.statements (ledger_of t')
  pub closed : StaysClosed t t'

pub statements_of : (t : Tables) → IsValid t → StatementsHold t.setup.caps.statements (ledger_of t)
statements_of t v = record {
  rule = rule_holds t.setup.caps.statements (ledger_of t) (least-none (broken_places t.setup.caps.statements (ledger_of t)) v.rules.statements);
  rising = v.order.statements;
}

pub closed_self : (t : Tables) → StaysClosed t t
closed_self t = record { sums = λ node month lt. refl; statements = λ place s at. at }

-- what the closed months were paid by is the same
pub paid_same : (t : Tables) (v : IsValid t) (t' : Tables) → SamePay (ledger_of t) (ledger_of t') → IsPaid t t'
paid_same t v t' pay =
    let hold = statements_of t v in
    let same = pay.statements in
    record {
      holds = record { rule = same_keeps (ledger_of t) (ledger_of t') pay t.setup.caps.statements hold.rule; rising = rw same hold.rising };
      closed = record {
        sums = λ node month lt. let settled = pay.settled node month lt in let tallied = pay.tallied node month lt in rw (settled, tallied) refl;
        statements = λ place s at. ap (λ (rows : List Statement). row_at statement_rank rows place) same ∙ at;
      };
    }

-- ---- nodes that are put in place of others

pub record IsStill (nodes : List Node) (node : Node) : Type 0 where
  pub found : Node
  pub at : node_at nodes node.id ≡ Some found
  pub same : IsSameNode found node

pub same_puts : (l : Ledger) (ns nodes : List Node) → SamePay l (record l { nodes = nodes }) → Each (IsStill l.nodes) ns → SamePay l (record l { nodes = puts_of nodes ns })
same_puts l [] nodes before each = before
same_puts l (n ∷ ns) nodes before each = same_puts l ns (with_row node_rank nodes n) (same_put l nodes n each.0.found before each.0.at each.0.same) each.1

pub nodes-then : (ns : List Node) (more : List RecChange) (t : Tables) → all_changed t (map changes.Node ns ++ more) ≡ all_changed (record t { nodes = puts_of t.nodes ns }) more
nodes-then [] more t = refl
nodes-then (n ∷ ns) more t = nodes-then ns more (record t { nodes = with_row node_rank t.nodes n })

pub ledger-containments : (cs : List Containment) (t : Tables) → ledger_of (all_changed t (map changes.Containment cs)) ≡ ledger_of t
ledger-containments [] t = refl
ledger-containments (c ∷ cs) t = ledger-containments cs (record t { containments = with_row containment_rank t.containments c })

-- nodes are put in tables that differ from others in what no pay goes by
module _ (t here : Tables) (ns : List Node) (same : ledger_of here ≡ ledger_of t) (each : Each (IsStill t.nodes) ns) where
  puts_pay : SamePay (ledger_of t) (ledger_of (record here { nodes = puts_of here.nodes ns }))
  puts_pay =
      let nodes : here.nodes ≡ t.nodes = ap (λ (l : Ledger). l.nodes) same in
      let is : ledger_of (record here { nodes = puts_of here.nodes ns }) ≡ record (ledger_of t) { nodes = puts_of t.nodes ns }
      = ap (λ (l : Ledger). record l { nodes = puts_of here.nodes ns }) same ∙ ap (λ (xs : List Node). record (ledger_of t) { nodes = puts_of xs ns }) nodes in
      subst (λ (l : Ledger). SamePay (ledger_of t) l) (sym is) (same_puts (ledger_of t) ns t.nodes (same_self (ledger_of t)) each)

  pub paid_nodes : SamePay (ledger_of t) (ledger_of (all_changed here (map changes.Node ns)))
  paid_nodes = subst (λ (x : Tables). SamePay (ledger_of t) (ledger_of x)) (sym (nodes-put ns here)) puts_pay

  -- and then other records that no pay goes by
  pub paid_puts : (more : List RecChange) → ((x : Tables) → ledger_of (all_changed x more) ≡ ledger_of x) → SamePay (ledger_of t) (ledger_of (all_changed here (map changes.Node ns ++ more)))
  paid_puts more leaves =
      let is : ledger_of (all_changed here (map changes.Node ns ++ more)) ≡ ledger_of (record here { nodes = puts_of here.nodes ns })
      = ap (λ (x : Tables). ledger_of x) (nodes-then ns more here) ∙ leaves (record here { nodes = puts_of here.nodes ns }) in
      subst (λ (l : Ledger). SamePay (ledger_of t) l) (sym is) puts_pay
