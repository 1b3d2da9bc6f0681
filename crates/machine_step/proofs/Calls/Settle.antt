-- What a settled order changes fits.
use Rattle.std.proofs.Common.{◌≡◌, ℕ, ◌<◌, ◌≤◌, ◌^◌, true, List, is_some, Result, Ok, Err, refl, sym, ap, subst, ◌∙◌, arith}
use Rattle.std.specs.Prelude.{nat_le}
use Rattle.std.proofs.lemmas.Bool.Decides.{nat_tests}
use Rattle.std.proofs.lemmas.Bool.{and_from}
use Rattle.sat_base.specs.declared.ids.NodeId.{NodeId}
use Rattle.rows.specs.Rows.{row_at}
use Rattle.node_registry.specs.Registry.{node_rank, node_at}
use Rattle.settlement.specs.declared.answer.Settlable.{Settlable}
use Rattle.settlement.specs.declared.answer.Settlable.TheVariants as may
use Rattle.settlement.specs.declared.answer.SettleErr.{SettleErr}
use Rattle.settlement.specs.declared.answer.SettleErr.TheVariants as no
use Rattle.settlement.specs.Rows.{key}
use Rattle.machine_calls.specs.declared.reply.Reply.TheVariants as replies
use Rattle.machine_calls.specs.declared.refusal.Refusal.TheVariants as refusals
use Rattle.month_pay.specs.Months.{month_at}
use Rattle.month_pay.proofs.Steps.{same_settled}
use Rattle.machine_step.specs.Tables.{Tables, ledger_of}
use Rattle.machine_step.specs.Rules.{is_known, is_sound_settled}
use Rattle.machine_step.specs.Bounds.{IsValid}
use Rattle.machine_step.proofs.Outcomes.{with_record-P}
use Rattle.machine_step.proofs.RowLemmas.{length-with_row}
use Rattle.machine_step.proofs.MarkLemmas.{month-open}
use Rattle.order_limits.proofs.Fields.{IsBytes}
use Rattle.machine_step.proofs.SettleLemmas.{settles-new}
use Rattle.settlement.specs.Settle.{settlable}
use Rattle.machine_step.proofs.Validity.{steady_of}
use Rattle.machine_step.specs.Plans.{timed}
use Rattle.machine_step.proofs.Fits.{After, still, fitting, node_known, timed_fit}
use Rattle.machine_step.specs.Calls.Settle.{settle_as, settle}

module _ (t : Tables) (v : IsValid t) (time : ℕ) (le : t.marks.time ≤ time) (lt : time < 2 ^ 36) where
  fit_settle_as : (node : NodeId) (bytes : List ℕ) (r : Result Settlable SettleErr) → IsBytes bytes → is_known t.nodes node ≡ true → settlable t.settled t.setup.caps.settled t.setup.secret node time bytes ≡ r → After t (settle_as t time r)
  fit_settle_as node bytes (Ok (may.New row)) small known is =
      let new = settles-new t.settled t.setup.caps.settled t.setup.secret node time bytes row small is in
      let sound : is_sound_settled (timed t.marks time) t.nodes row ≡ true = let early : nat_le row.at time ≡ true = let at = new.at in grind (arith, nat_tests, at) in and_from _ _ (ap (λ (k : ℕ). is_some (row_at node_rank t.nodes k)) new.node ∙ known) early in
      let few = (steady_of t v).settled.few in
      let pay = same_settled (ledger_of t) row new.absent (subst (λ (at : ℕ). t.marks.month.0 ≤ month_at at) (sym new.at) (month-open t.setup t.marks time le v.rules.marks)) in
      fitting t v (settle_as t time (Ok (may.New row))) pay
      (timed_fit t v time le lt, (record { sound = sound; few = omega (arith, length-with_row key t.settled row, few, new.room); within = new.amount }, tt))
  fit_settle_as node bytes (Ok (may.Again amount)) small known is = still t v (replies.Again amount)
  fit_settle_as node bytes (Err (no.Length got)) small known is = still t v (replies.Refused (refusals.Length got))
  fit_settle_as node bytes (Err (no.Version got)) small known is = still t v (replies.Refused (refusals.Version got))
  fit_settle_as node bytes (Err (no.Action got)) small known is = still t v (replies.Refused (refusals.Action got))
  fit_settle_as node bytes (Err no.LimitTag) small known is = still t v (replies.Refused refusals.LimitTag)
  fit_settle_as node bytes (Err no.OrderTag) small known is = still t v (replies.Refused refusals.OrderTag)
  fit_settle_as node bytes (Err (no.OtherNode limit_node)) small known is = still t v (replies.Refused (refusals.OtherNode limit_node))
  fit_settle_as node bytes (Err (no.Differs kept)) small known is = still t v (replies.Refused (refusals.Differs kept))
  fit_settle_as node bytes (Err (no.Late until)) small known is = still t v (replies.Refused (refusals.Late until))
  fit_settle_as node bytes (Err (no.OverLimit limit)) small known is = still t v (replies.Refused (refusals.OverLimit limit))
  fit_settle_as node bytes (Err (no.SettledFull cap)) small known is = still t v (replies.Refused (refusals.SettledFull cap))
  fit_settle_as node bytes (Err no.NoMemory) small known is = still t v replies.NoMemory

  pub fit_settle : (node : NodeId) (bytes : List ℕ) → IsBytes bytes → After t (settle t time node bytes)
  fit_settle node bytes small =
      with_record-P (After t) (still t v) (node_at t.nodes node) (refusals.NoNode node) _ (λ found at.
      fit_settle_as node bytes (settlable t.settled t.setup.caps.settled t.setup.secret node time bytes) small (node_known t v node found at) refl)
