-- A step by its case: its reply, and the tables behind it.
use Rattle.std.proofs.Common.{◌≡◌, Bool, true, false, Option, Some, None, refl, sym, ap, ◌∙◌}
use Rattle.std.specs.Prelude.{if◌then◌else◌, ◌||◌}
use Rattle.machine_calls.specs.declared.call.Call.{Call}
use Rattle.machine_calls.specs.declared.reply.Reply.{Reply}
use Rattle.machine_calls.specs.declared.reply.Reply.TheVariants as replies
use Rattle.machine_calls.specs.declared.refusal.Refusal.TheVariants as refusals
use Rattle.machine_step.specs.Tables.{Tables}
use Rattle.machine_step.specs.Outcome.{Outcome, refused}
use Rattle.machine_step.specs.Containment.{with_releases, swept}
use Rattle.machine_step.specs.Step.{case_of, step, after, tables_after, is_stopping}
use Rattle.machine_step.proofs.ReleaseLemmas.{left_of, releases_are}
use Rattle.machine_step.specs.Tables.{all_changed}

pub reply_of : (t : Tables) (call : Call) → (step t call).reply ≡ (if t.stopped then replies.Refused refusals.Stopped else (case_of t call).reply)
reply_of t call = go t.stopped
  where
    go : (b : Bool) → (if b then refused refusals.Stopped else swept t (case_of t call)).reply ≡ (if b then replies.Refused refusals.Stopped else (case_of t call).reply)
    go true = refl
    go false = refl

-- a reply that isn't of a stopped machine is that of the case
pub running : (t : Tables) (call : Call) (test : Reply → Bool) → test (replies.Refused refusals.Stopped) ≡ false → test (step t call).reply ≡ true → (t.stopped ≡ false) × (test (case_of t call).reply ≡ true)
running t call test none h = go t.stopped refl (sym (ap test (reply_of t call)) ∙ h)
  where
    go : (b : Bool) → t.stopped ≡ b → test (if b then replies.Refused refusals.Stopped else (case_of t call).reply) ≡ true → (t.stopped ≡ false) × (test (case_of t call).reply ≡ true)
    go true is h = absurd (let bad : true ≡ false = sym h ∙ none in cc)
    go false is h = (is, h)

pub opened_in : {P : Type 0} (t : Tables) (call : Call) (opened : Reply → Option P) (plan : P) → opened (replies.Refused refusals.Stopped) ≡ None → opened (step t call).reply ≡ Some plan → opened (case_of t call).reply ≡ Some plan
opened_in {P} t call opened plan none h = go t.stopped (sym (ap opened (reply_of t call)) ∙ h)
  where
    go : (b : Bool) → opened (if b then replies.Refused refusals.Stopped else (case_of t call).reply) ≡ Some plan → opened (case_of t call).reply ≡ Some plan
    go true h = absurd (let bad : Some plan ≡ None = sym h ∙ none in cc)
    go false h = h

-- the tables behind a step that is taken
pub after_running : (t : Tables) (call : Call) → t.stopped ≡ false
    → after t call ≡ record (all_changed t (case_of t call).changes) { containments = left_of t (case_of t call).changes; stopped = (all_changed t (with_releases t (case_of t call).changes)).stopped || is_stopping (case_of t call).reply }
after_running t call running = go t.stopped running
  where
    go : (b : Bool) → b ≡ false
        → tables_after t (if b then refused refusals.Stopped else swept t (case_of t call))
        ≡ record (all_changed t (case_of t call).changes) { containments = left_of t (case_of t call).changes; stopped = (all_changed t (with_releases t (case_of t call).changes)).stopped || is_stopping (case_of t call).reply }
    go true is = cc
    go false is = ap (λ (x : Tables). record x { stopped = (all_changed t (with_releases t (case_of t call).changes)).stopped || is_stopping (case_of t call).reply }) (releases_are t (case_of t call).changes)
