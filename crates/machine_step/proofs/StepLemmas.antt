-- Each step keeps the rules of the tables, the order of their rows and the bounds of their records, and releases nothing that stands.
use Rattle.std.proofs.Common.{◌≡◌, ℕ, ◌<◌, ◌^◌, Bool, true, false, List, [], ◌∷◌, ◌++◌, refl, ap, arith}
use Rattle.std.specs.Prelude.{◌||◌, map, if◌then◌else◌}
use Rattle.machine_calls.specs.declared.call.Call.{Call}
use Rattle.machine_calls.specs.declared.call.Call.TheVariants as calls
use Rattle.machine_calls.specs.declared.task.Task.TheVariants as tasks
use Rattle.machine_calls.specs.declared.wish.Wish.TheVariants as wishes
use Rattle.machine_calls.specs.declared.refusal.Refusal.TheVariants as refusals
use Rattle.machine_calls.specs.declared.reply.Reply.TheVariants as replies
use Rattle.machine_step.specs.Tables.{Tables, all_changed}
use Rattle.machine_step.specs.Outcome.{refused}
use Rattle.sat_base.specs.declared.records.Containment.{Containment}
use Rattle.machine_calls.specs.declared.change.RecChange.{RecChange}
use Rattle.machine_step.specs.Writable.{IsWritable}
use Rattle.machine_step.specs.Containment.{release, fallen, with_releases, swept}
use Rattle.machine_step.specs.Step.{risen, asking, operator, case_of, step, after, tables_after, is_stopping, IsWellFormed}
use Rattle.machine_step.specs.Bounds.{Each, IsValid}
use Rattle.machine_step.specs.Closed.{StaysClosed}
use Rattle.machine_step.proofs.Validity.{Follows, follows}
use Rattle.machine_step.proofs.Fits.{After, still}
use Rattle.machine_step.proofs.Calls.AddNode.{fit_add_node}
use Rattle.machine_step.proofs.Calls.AddCustomer.{fit_add_customer}
use Rattle.machine_step.proofs.Calls.Begin.{fit_begin}
use Rattle.machine_step.proofs.Calls.Commit.{fit_commit}
use Rattle.machine_step.proofs.Calls.Get.{fit_get}
use Rattle.machine_step.proofs.Calls.Delete.{fit_delete}
use Rattle.machine_step.proofs.Calls.Settle.{fit_settle}
use Rattle.machine_step.proofs.Calls.SetFree.{fit_set_free}
use Rattle.machine_step.proofs.Calls.Statement.{fit_statement}
use Rattle.machine_step.proofs.Calls.PlanAudit.{fit_plan_audit}
use Rattle.machine_step.proofs.Calls.EndAudit.{fit_end_audit}
use Rattle.machine_step.proofs.Calls.PlanRecheck.{fit_plan_recheck}
use Rattle.machine_step.proofs.Calls.EndRecheck.{fit_end_recheck}
use Rattle.machine_step.proofs.Calls.PlanRepair.{fit_plan_repair}
use Rattle.machine_step.proofs.Calls.EndRepair.{fit_end_repair}
use Rattle.machine_step.proofs.Calls.TallyHour.{fit_tally_hour}
use Rattle.machine_step.proofs.Calls.CloseMonth.{fit_close_month}
use Rattle.machine_step.proofs.Calls.Exit.{fit_exit}
use Rattle.machine_step.proofs.Calls.PlanExit.{fit_plan_exit}
use Rattle.machine_step.proofs.Calls.EndExit.{fit_end_exit}
use Rattle.machine_step.proofs.Calls.SetRates.{fit_set_rates}

-- the moment of a call is one
pub risen_within : (t : Tables) (v : IsValid t) (now : ℕ) → now < 2 ^ 36 → risen t now < 2 ^ 36
risen_within t v now lt = omega (arith, v.bounds.marks.time)

pub fit_case : (t : Tables) (call : Call) → IsValid t → IsWellFormed t call → After t (case_of t call)
fit_case t (calls.Asked now words (wishes.AddNode request addr port free)) v w = fit_add_node t v (asking t operator request now) (omega arith) (risen_within t v now w.formed.timely) refl addr port free
fit_case t (calls.Asked now words (wishes.AddCustomer request)) v w = fit_add_customer t v (asking t operator request now) (omega arith) (risen_within t v now w.formed.timely) refl
fit_case t (calls.Asked now words (wishes.Begin customer request len)) v w = fit_begin t v (asking t customer request now) (omega arith) (risen_within t v now w.formed.timely) len words
fit_case t (calls.Asked now words (wishes.Commit customer request segment indexes)) v w = fit_commit t v (asking t customer request now) (omega arith) (risen_within t v now w.formed.timely) segment indexes
fit_case t (calls.Asked now words (wishes.Get customer request segment)) v w = fit_get t v (asking t customer request now) (omega arith) (risen_within t v now w.formed.timely) segment
fit_case t (calls.Asked now words (wishes.Delete customer request segment)) v w = fit_delete t v (asking t customer request now) (omega arith) (risen_within t v now w.formed.timely) segment
fit_case t (calls.Asked now words (wishes.Settle node bytes)) v w = fit_settle t v (risen t now) (omega arith) (risen_within t v now w.formed.timely) node bytes w.formed.bytes
fit_case t (calls.Asked now words (wishes.SetFree node free)) v w = fit_set_free t v (risen t now) (omega arith) (risen_within t v now w.formed.timely) node free
fit_case t (calls.Asked now words (wishes.Statement node month)) v w = fit_statement t v node month
fit_case t (calls.Own now (tasks.PlanAudit words)) v w = fit_plan_audit t v (risen t now) (omega arith) (risen_within t v now w.formed.timely) words
fit_case t (calls.Own now (tasks.EndAudit judged)) v w = fit_end_audit t v (risen t now) (omega arith) (risen_within t v now w.formed.timely) judged
fit_case t (calls.Own now tasks.PlanRecheck) v w = fit_plan_recheck t v (risen t now) (omega arith) (risen_within t v now w.formed.timely)
fit_case t (calls.Own now (tasks.EndRecheck plan checked)) v w = fit_end_recheck t v (risen t now) (omega arith) (risen_within t v now w.formed.timely) plan checked
fit_case t (calls.Own now (tasks.PlanRepair words)) v w = fit_plan_repair t v (risen t now) (omega arith) (risen_within t v now w.formed.timely) words
fit_case t (calls.Own now (tasks.EndRepair outcome)) v w = fit_end_repair t v (risen t now) (omega arith) (risen_within t v now w.formed.timely) outcome w.scheme
fit_case t (calls.Own now tasks.TallyHour) v w = fit_tally_hour t v (risen t now) (omega arith) (risen_within t v now w.formed.timely)
fit_case t (calls.Asked now words (wishes.CloseMonth month)) v w = fit_close_month t v (risen t now) (omega arith) (risen_within t v now w.formed.timely) month
fit_case t (calls.Asked now words (wishes.Exit node)) v w = fit_exit t v (risen t now) (omega arith) (risen_within t v now w.formed.timely) node
fit_case t (calls.Own now (tasks.PlanExit words)) v w = fit_plan_exit t v (risen t now) (omega arith) (risen_within t v now w.formed.timely) words
fit_case t (calls.Own now (tasks.EndExit outcome)) v w = fit_end_exit t v (risen t now) (omega arith) (risen_within t v now w.formed.timely) outcome w.scheme
fit_case t (calls.Asked now words (wishes.SetRates month rates)) v w = fit_set_rates t v (risen t now) (omega arith) (risen_within t v now w.formed.timely) month rates w.formed.tariff
fit_case t (calls.Asked now words wishes.Stop) v w = still t v replies.Stopping

pub follows_step : (t : Tables) (call : Call) → IsValid t → IsWellFormed t call → Follows t (after t call)
follows_step t call v w = go t.stopped
  where
    go : (b : Bool) → Follows t (tables_after t (if b then refused refusals.Stopped else swept t (case_of t call)))
    go true = follows t v (t.stopped || false) [] (still t v replies.Stopping).becomes (still t v replies.Stopping).paid
    go false = follows t v ((all_changed t (with_releases t (case_of t call).changes)).stopped || is_stopping (case_of t call).reply) (case_of t call).changes (fit_case t call v w).becomes (fit_case t call v w).paid

pub valid_step : (t : Tables) (call : Call) → IsValid t → IsWellFormed t call → IsValid (after t call)
valid_step t call v w = (follows_step t call v w).valid

pub closed_step : (t : Tables) (call : Call) → IsValid t → IsWellFormed t call → StaysClosed t (after t call)
closed_step t call v w = (follows_step t call v w).closed

-- ---- what a store is told

each-behind : (cs more : List RecChange) → Each IsWritable cs → Each IsWritable more → Each IsWritable (cs ++ more)
each-behind [] more each behind = behind
each-behind (c ∷ cs) more each behind = (each.0, each-behind cs more each.1 behind)

releases_writable : (all : List Containment) → Each IsWritable (map release all)
releases_writable [] = tt
releases_writable (one ∷ rest) = (tt, releases_writable rest)

with_releases_writable : (t : Tables) (cs : List RecChange) → Each IsWritable cs → Each IsWritable (with_releases t cs)
with_releases_writable t [] each = tt
with_releases_writable t (c ∷ cs) each = each-behind (c ∷ cs) (map release (fallen (all_changed t (c ∷ cs)))) each (releases_writable (fallen (all_changed t (c ∷ cs))))

pub writable_step : (t : Tables) (call : Call) → IsValid t → IsWellFormed t call → Each IsWritable (step t call).changes
writable_step t call v w = go t.stopped
  where
    go : (b : Bool) → Each IsWritable (if b then refused refusals.Stopped else swept t (case_of t call)).changes
    go true = tt
    go false = with_releases_writable t (case_of t call).changes (fit_case t call v w).written

-- where the machine isn't stopped, the step is the case of the call, and what it releases
pub step-running : (t : Tables) (call : Call) → t.stopped ≡ false → step t call ≡ swept t (case_of t call)
step-running t call running = ap (λ (b : Bool). if b then refused refusals.Stopped else swept t (case_of t call)) running

-- where it runs, a step's reply is that of its case
pub reply_of_case : (t : Tables) (call : Call) → t.stopped ≡ false → (step t call).reply ≡ (case_of t call).reply
reply_of_case t call running = ap (λ (b : Bool). (if b then refused refusals.Stopped else swept t (case_of t call)).reply) running
