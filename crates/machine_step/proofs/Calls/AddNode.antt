-- What adding a node changes fits.
use Rattle.std.proofs.Common.{◌≡◌, ℕ, ◌+◌, ◌<◌, ◌≤◌, ◌^◌, true, false, length, None, refl, arith}
use Rattle.std.specs.Prelude.{nat_le, ◌==◌}
use Rattle.std.proofs.lemmas.Bool.Decides.{nat_tests}
use Rattle.std.proofs.lemmas.Bool.{and_from}
use Rattle.sat_base.specs.declared.requests.Asked.TheVariants as asks
use Rattle.rows.specs.Slots.{with_row}
use Rattle.node_registry.specs.Registry.{joining, node_rank, node_at}
use Rattle.month_pay.proofs.Steps.{same_joined}
use Rattle.machine_calls.specs.declared.asking.Asking.{Asking}
use Rattle.machine_calls.specs.declared.refusal.Refusal.TheVariants as refusals
use Rattle.machine_calls.specs.declared.refusal.TableName.TheVariants as names
use Rattle.machine_step.specs.Tables.{Tables, ledger_of}
use Rattle.machine_step.specs.Rules.{is_known}
use Rattle.machine_step.specs.Bounds.{IsValid}
use Rattle.machine_step.proofs.Outcomes.{unless-P, of_caller-P}
use Rattle.machine_step.proofs.RowLemmas.{row_at-with_row}
use Rattle.machine_step.proofs.GrowthLemmas.{none_next}
use Rattle.machine_step.proofs.MarkLemmas.{month-open}
use Rattle.machine_step.proofs.Steady.NodeFits.{next_node}
use Rattle.machine_step.proofs.Fits.{After, still, fitting, timed_fit}
use Rattle.machine_step.specs.Calls.AddNode.{node_added, add_node}

module _ (t : Tables) (v : IsValid t) (asking : Asking) (le : t.marks.time ≤ asking.time) (lt : asking.time < 2 ^ 36) (own : (asking.caller.0 == 0) ≡ true) where
  fit_node_added : (addr port free : ℕ) → nat_le t.setup.caps.nodes (length t.nodes) ≡ false → After t (node_added t asking addr port free)
  fit_node_added addr port free room =
      let node = joining (record { 0 = length t.nodes + 1 }) addr port free asking.time in
      let below : length t.nodes < t.setup.caps.nodes = grind (arith, nat_tests, room) in
      let known : is_known (with_row node_rank t.nodes node) node.id ≡ true = grind (arith, nat_tests, row_at-with_row node_rank t.nodes node node.id.0) in
      let none : node_at t.nodes node.id ≡ None = none_next t.setup t.marks t.nodes 0 node.id.0 v.rules.nodes (omega arith) in
      let pay = same_joined (ledger_of t) node none (month-open t.setup t.marks asking.time le v.rules.marks) in
      fitting t v (node_added t asking addr port free) pay
      (timed_fit t v asking.time le lt, (next_node (omega arith) below refl (omega arith) refl, (record { sound = and_from _ _ own known; within = (tt, tt) }, tt)))

  pub fit_add_node : (addr port free : ℕ) → After t (add_node t asking addr port free)
  fit_add_node addr port free =
      of_caller-P (After t) (still t v) t asking (asks.Node addr port free) _
      (unless-P (After t) (still t v) (nat_le t.setup.caps.nodes (length t.nodes)) (refusals.TableFull names.Nodes) _ (λ room.
      fit_node_added addr port free room))
