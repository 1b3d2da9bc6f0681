-- Where a part of the tables came from that only an answer can set: it was there at the beginning, or an answer of the history opened it.
use Rattle.std.proofs.Common.{◌≡◌, ◌⊎◌, inl, inr, ℕ, zero, suc, Bool, true, false, List, [], ◌∷◌, Option, Some, None, refl, sym, ap, ◌∙◌}
use Rattle.std.specs.Prelude.{if◌then◌else◌, ◌||◌, slice_get}
use Rattle.sat_base.specs.declared.records.Containment.{Containment}
use Rattle.machine_calls.specs.declared.call.Call.{Call}
use Rattle.machine_calls.specs.declared.reply.Reply.{Reply}
use Rattle.machine_calls.specs.declared.reply.Reply.TheVariants as replies
use Rattle.machine_calls.specs.declared.refusal.Refusal.TheVariants as refusals
use Rattle.machine_calls.specs.Replies.{is_lost}
use Rattle.machine_step.specs.Tables.{Tables, all_changed}
use Rattle.machine_step.specs.Outcome.{refused}
use Rattle.machine_step.specs.Containment.{with_releases, swept}
use Rattle.machine_step.specs.Step.{case_of, step, after, tables_after, is_stopping}
use Rattle.machine_step.proofs.ReleaseLemmas.{left_of, releases_are}
use Rattle.machine_history.specs.History.{Said, taken, replay, IsRight, IsLegal}
use Rattle.machine_plans.specs.Opened.{WasOpened}
use Rattle.machine_plans.proofs.Steps.{reply_of}

module _ {P : Type 0} (held : Tables → Option P) (opened : Reply → Option P)
    (aside : (x : Tables) (rows : List Containment) (stopped : Bool) → held (record x { containments = rows; stopped = stopped }) ≡ held x)
    (opens : (t : Tables) (call : Call) (plan : P) → held (all_changed t (case_of t call).changes) ≡ Some plan → (held t ≡ Some plan) ⊎ (opened (case_of t call).reply ≡ Some plan)) where
  held_after : (t : Tables) (call : Call) → held (after t call) ≡ (if t.stopped then held t else held (all_changed t (case_of t call).changes))
  held_after t call = go t.stopped
    where
      go : (b : Bool) → held (tables_after t (if b then refused refusals.Stopped else swept t (case_of t call))) ≡ (if b then held t else held (all_changed t (case_of t call).changes))
      go true = aside t t.containments (t.stopped || false)
      go false =
          let stops = (all_changed t (with_releases t (case_of t call).changes)).stopped || is_stopping (case_of t call).reply in
          ap (λ (x : Tables). held (record x { stopped = stops })) (releases_are t (case_of t call).changes) ∙ aside (all_changed t (case_of t call).changes) (left_of t (case_of t call).changes) stops

  by_step : (t : Tables) (call : Call) (plan : P) → held (after t call) ≡ Some plan → (held t ≡ Some plan) ⊎ (opened (step t call).reply ≡ Some plan)
  by_step t call plan h = go t.stopped (sym (held_after t call) ∙ h) (reply_of t call)
    where
      go : (b : Bool) → (if b then held t else held (all_changed t (case_of t call).changes)) ≡ Some plan → (step t call).reply ≡ (if b then replies.Refused refusals.Stopped else (case_of t call).reply)
          → (held t ≡ Some plan) ⊎ (opened (step t call).reply ≡ Some plan)
      go true is reply = inl is
      go false is reply = elim (opens t call plan is) [
        | inl h ↦ inl h
        | inr h ↦ inr (ap opened reply ∙ h)
      ]

  by_said : (t : Tables) (said : Said) (plan : P) → IsRight t said → held (taken t said) ≡ Some plan → (held t ≡ Some plan) ⊎ (opened said.reply ≡ Some plan)
  by_said t said plan right h = go (is_lost said.reply) refl h
    where
      go : (b : Bool) → is_lost said.reply ≡ b → held (if b then t else after t said.call) ≡ Some plan → (held t ≡ Some plan) ⊎ (opened said.reply ≡ Some plan)
      go true is h = inl h
      go false is h = elim (by_step t said.call plan h) [
        | inl x ↦ inl x
        | inr x ↦ inr (ap opened (right.answer is) ∙ x)
      ]

  pub was_opened : (h : List Said) (t : Tables) (plan : P) → IsLegal t h → held (replay t h) ≡ Some plan → (held t ≡ Some plan) ⊎ WasOpened opened h plan
  was_opened [] t plan legal is = inl is
  was_opened (said ∷ h) t plan legal is = elim (was_opened h (taken t said) plan legal.1 is) [
    | inl first ↦ elim (by_said t said plan legal.0 first) [
      | inl x ↦ inl x
      | inr x ↦ inr (record { place = 0; said = said; there = refl; answer = x })
    ]
    | inr w ↦ inr (record { place = suc w.place; said = w.said; there = w.there; answer = w.answer })
  ]
