-- What a node that leaves changes fits.
use Rattle.std.proofs.Common.{◌≡◌, ℕ, ◌<◌, ◌≤◌, ◌^◌, true, Some, refl, ap, ◌∙◌, arith}
use Rattle.sat_base.specs.declared.ids.NodeId.{NodeId}
use Rattle.rows.specs.Rows.{row_at}
use Rattle.node_registry.specs.declared.node.Node.{Node}
use Rattle.node_registry.specs.declared.node.Status.{Status}
use Rattle.node_registry.specs.declared.node.Status.TheVariants.{Active, Disqualified, Exiting, Exited}
use Rattle.node_registry.specs.Standing.{byte_of, is_disqualified}
use Rattle.node_registry.specs.Registry.{node_rank, node_at}
use Rattle.machine_calls.specs.declared.reply.Reply.TheVariants as replies
use Rattle.machine_calls.specs.declared.refusal.Refusal.TheVariants as refusals
use Rattle.month_pay.proofs.Steps.{same_set}
use Rattle.machine_step.specs.Tables.{Tables, ledger_of}
use Rattle.machine_step.specs.Calls.Exit.{exit_as, exit}
use Rattle.machine_step.specs.Bounds.{IsValid}
use Rattle.machine_step.proofs.Outcomes.{with_record-P}
use Rattle.machine_step.proofs.RowLemmas.{rank-found}
use Rattle.machine_step.proofs.Steady.NodeFits.{update}
use Rattle.machine_step.proofs.Fits.{After, still, fitting, timed_fit}

module _ (t : Tables) (v : IsValid t) (time : ℕ) (le : t.marks.time ≤ time) (lt : time < 2 ^ 36) where
  active-serves : (status : Status) → status ≡ Active → is_disqualified status ≡ true → ⊥
  active-serves Active is gone = cc
  active-serves Disqualified is gone = cc
  active-serves Exiting is gone = cc
  active-serves Exited is gone = cc

  fit_exit_as : (id : NodeId) (found : Node) → node_at t.nodes id ≡ Some found → (status : Status) → found.status ≡ status → After t (exit_as t time found status)
  fit_exit_as id found at Active is =
      let same : found.id.0 ≡ id.0 = rank-found node_rank t.nodes id.0 found at in
      let there : node_at t.nodes found.id ≡ Some found = ap (λ (k : ℕ). row_at node_rank t.nodes k) same ∙ at in
      let pay = same_set (ledger_of t) (record found { status = Exiting }) found there (record { id = refl; joined = refl; gone = λ gone. absurd (active-serves found.status is gone) }) in
      fitting t v (exit_as t time found Active) pay
      (timed_fit t v time le lt, (update found there (record { addr = refl; joined = refl; rated = refl; exited = grind (arith, is) }), tt))
  fit_exit_as id found at Exiting is = still t v (replies.Exiting found.id)
  fit_exit_as id found at Disqualified is = still t v (replies.Refused (refusals.NotServing (byte_of Disqualified)))
  fit_exit_as id found at Exited is = still t v (replies.Refused (refusals.NotServing (byte_of Exited)))

  pub fit_exit : (id : NodeId) → After t (exit t time id)
  fit_exit id = with_record-P (After t) (still t v) (node_at t.nodes id) (refusals.NoNode id) (λ found. exit_as t time found found.status) (λ found at. fit_exit_as id found at found.status refl)
