-- What noting free bytes changes fits.
use Rattle.std.proofs.Common.{◌≡◌, ℕ, ◌<◌, ◌≤◌, ◌^◌, Some, refl, ap, ◌∙◌}
use Rattle.std.specs.Prelude.{◌==◌}
use Rattle.sat_base.specs.declared.ids.NodeId.{NodeId}
use Rattle.rows.specs.Rows.{row_at}
use Rattle.node_registry.specs.declared.node.Node.{Node}
use Rattle.node_registry.specs.Registry.{node_rank, node_at}
use Rattle.machine_calls.specs.declared.reply.Reply.TheVariants as replies
use Rattle.machine_calls.specs.declared.refusal.Refusal.TheVariants as refusals
use Rattle.month_pay.proofs.Steps.{same_set}
use Rattle.machine_step.specs.Tables.{Tables, ledger_of}
use Rattle.machine_step.specs.Outcome.{unchanged}
use Rattle.machine_step.specs.Bounds.{IsValid}
use Rattle.machine_step.proofs.Outcomes.{with_record-P, if-P}
use Rattle.machine_step.proofs.RowLemmas.{rank-found}
use Rattle.machine_step.proofs.Steady.NodeFits.{update}
use Rattle.machine_step.proofs.Fits.{After, still, fitting, timed_fit}
use Rattle.machine_step.specs.Calls.SetFree.{free_set, set_free}

module _ (t : Tables) (v : IsValid t) (time : ℕ) (le : t.marks.time ≤ time) (lt : time < 2 ^ 36) where
  fit_free_set : (id : NodeId) (found : Node) (free : ℕ) → node_at t.nodes id ≡ Some found → After t (free_set t time found free)
  fit_free_set id found free at =
      let same : found.id.0 ≡ id.0 = rank-found node_rank t.nodes id.0 found at in
      let there : node_at t.nodes found.id ≡ Some found = ap (λ (k : ℕ). row_at node_rank t.nodes k) same ∙ at in
      let pay = same_set (ledger_of t) (record found { free = free }) found there (record { id = refl; joined = refl; gone = λ h. h }) in
      fitting t v (free_set t time found free) pay
      (timed_fit t v time le lt, (update found there (record { addr = refl; joined = refl; rated = refl; exited = refl }), tt))

  pub fit_set_free : (node : NodeId) (free : ℕ) → After t (set_free t time node free)
  fit_set_free node free =
      with_record-P (After t) (still t v) (node_at t.nodes node) (refusals.NoNode node) _ (λ found at.
      if-P (After t) (still t v) (found.free == free) (unchanged replies.FreeSet) (free_set t time found free) (still t v replies.FreeSet) (fit_free_set node found free at))
