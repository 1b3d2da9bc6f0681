-- Each step of a request is answered by a reply that its caller is told, and no step by one of a step that wasn't made.
use Rattle.std.proofs.Common.{◌≡◌, ℕ, Bool, true, false, List, length, Option, Some, None, Result, Ok, Err, refl, ap, arith}
use Rattle.std.specs.Prelude.{if◌then◌else◌, ◌||◌, ◌==◌, nat_lt, nat_le, find}
use Rattle.std.proofs.lemmas.Bool.Decides.{nat_tests}
use Rattle.sat_base.specs.declared.ids.NodeId.{NodeId}
use Rattle.order_limits.specs.declared.limit.Order.{Order}
use Rattle.order_limits.specs.declared.read.OrderErr.{OrderErr}
use Rattle.order_limits.specs.declared.read.OrderErr.TheVariants as reads
use Rattle.order_limits.specs.Read.{order_of}
use Rattle.segment_core.specs.Commit.{refusal, first_cause, first_repeated}
use Rattle.segment_core.specs.declared.committing.CommitErr.TheVariants as causes
use Rattle.settlement.specs.declared.row.SettledRow.{SettledRow}
use Rattle.settlement.specs.declared.answer.Settlable.{Settlable}
use Rattle.settlement.specs.declared.answer.SettleErr.{SettleErr}
use Rattle.settlement.specs.declared.answer.SettleErr.TheVariants as no
use Rattle.settlement.specs.Place.{place}
use Rattle.settlement.specs.Rows.{row_of}
use Rattle.settlement.specs.Settle.{fresh, beside, order_settlable, on_order, settlable}
use Rattle.machine_calls.specs.declared.call.Call.{Call}
use Rattle.machine_calls.specs.declared.call.Call.TheVariants as calls
use Rattle.machine_calls.specs.declared.task.Task.TheVariants as tasks
use Rattle.machine_calls.specs.declared.wish.Wish.TheVariants as wishes
use Rattle.machine_calls.specs.declared.refusal.Refusal.TheVariants as refusals
use Rattle.machine_calls.specs.declared.reply.Reply.{Reply}
use Rattle.machine_calls.specs.declared.reply.Reply.TheVariants as replies
use Rattle.machine_calls.specs.Replies.{is_request, is_lost, is_told, is_sayable}
use Rattle.machine_step.specs.Tables.{Tables}
use Rattle.machine_step.specs.Outcome.{Outcome, refused}
use Rattle.machine_step.specs.Containment.{swept}
use Rattle.machine_step.specs.Calls.Commit.{unless_caused}
use Rattle.machine_step.specs.Calls.Settle.{settle_as}
use Rattle.machine_step.specs.Step.{case_of, step}

abbrev IsAnswered : Outcome → Type 0
IsAnswered o = is_told o.reply ≡ true

-- ---- a commit

first_answered : (outside repeated : Option ℕ) (have need : ℕ) (o : Outcome) → IsAnswered o → IsAnswered (unless_caused (first_cause outside repeated have need) o)
first_answered (Some index) repeated have need o h = refl
first_answered None (Some index) have need o h = refl
first_answered None None have need o h = go (nat_lt have need)
  where
    go : (b : Bool) → IsAnswered (unless_caused (if b then Some (causes.TooFew have need) else None) o)
    go true = refl
    go false = h

caused_answered : (n wanted : ℕ) (indexes : List ℕ) (o : Outcome) → IsAnswered o → IsAnswered (unless_caused (refusal n wanted indexes) o)
caused_answered n wanted indexes o h = first_answered (find (λ index. nat_le n index) indexes) (first_repeated indexes) (length indexes) wanted o h

-- ---- an order

fresh_answered : (t : Tables) (time : ℕ) (rows : List SettledRow) (cap : ℕ) (o : Order) (now : ℕ) → IsAnswered (settle_as t time (fresh rows cap o now))
unfolding fresh
fresh_answered t time rows cap o now = grind (arith, nat_tests)

beside_answered : (t : Tables) (time : ℕ) (found : Option SettledRow) (rows : List SettledRow) (cap : ℕ) (o : Order) (now : ℕ) → IsAnswered (settle_as t time (beside found rows cap o now))
unfolding beside
beside_answered t time None rows cap o now = fresh_answered t time rows cap o now
beside_answered t time (Some row) rows cap o now = grind (arith, nat_tests)

order_answered : (t : Tables) (time : ℕ) (rows : List SettledRow) (cap : ℕ) (node : NodeId) (now : ℕ) (o : Order) → IsAnswered (settle_as t time (order_settlable rows cap node now o))
unfolding order_settlable
order_answered t time rows cap node now o = go (o.limit.node.0 == node.0)
  where
    go : (b : Bool) → IsAnswered (settle_as t time (if b then beside (row_of rows (place o.limit.serial o.limit.node)) rows cap o now else Err (no.OtherNode o.limit.node)))
    go true = beside_answered t time (row_of rows (place o.limit.serial o.limit.node)) rows cap o now
    go false = refl

on_answered : (t : Tables) (time : ℕ) (r : Result Order OrderErr) (f : Order → Result Settlable SettleErr) → ((o : Order) → IsAnswered (settle_as t time (f o))) → IsAnswered (settle_as t time (on_order r f))
on_answered t time (Ok o) f h = h o
on_answered t time (Err (reads.Length got)) f h = refl
on_answered t time (Err (reads.Version got)) f h = refl
on_answered t time (Err (reads.Action got)) f h = refl
on_answered t time (Err reads.LimitTag) f h = refl
on_answered t time (Err reads.OrderTag) f h = refl

settle_answered : (t : Tables) (time : ℕ) (rows : List SettledRow) (cap : ℕ) (secret : List ℕ) (node : NodeId) (now : ℕ) (bytes : List ℕ) → IsAnswered (settle_as t time (settlable rows cap secret node now bytes))
unfolding settlable
settle_answered t time rows cap secret node now bytes = on_answered t time (order_of secret bytes) (order_settlable rows cap node now) (order_answered t time rows cap node now)

-- ---- all calls

case_answered : (t : Tables) (call : Call) → is_request call ≡ true → IsAnswered (case_of t call)
case_answered t (calls.Asked now words (wishes.AddNode request addr port free)) asked = grind (arith, nat_tests)
case_answered t (calls.Asked now words (wishes.AddCustomer request)) asked = grind (arith, nat_tests)
case_answered t (calls.Asked now words (wishes.Begin customer request len)) asked = grind (arith, nat_tests)
case_answered t (calls.Asked now words (wishes.Commit customer request segment indexes)) asked = grind (arith, nat_tests, caused_answered t.setup.n t.setup.o indexes)
case_answered t (calls.Asked now words (wishes.Get customer request segment)) asked = grind (arith, nat_tests)
case_answered t (calls.Asked now words (wishes.Delete customer request segment)) asked = grind (arith, nat_tests)
case_answered t (calls.Asked now words (wishes.Settle node bytes)) asked = grind (arith, nat_tests, settle_answered t)
case_answered t (calls.Asked now words (wishes.SetFree node free)) asked = grind (arith, nat_tests)
case_answered t (calls.Asked now words (wishes.Statement node month)) asked = grind (arith, nat_tests)
case_answered t (calls.Asked now words (wishes.CloseMonth month)) asked = grind (arith, nat_tests)
case_answered t (calls.Asked now words (wishes.Exit node)) asked = grind (arith, nat_tests)
case_answered t (calls.Asked now words (wishes.SetRates month rates)) asked = grind (arith, nat_tests)
case_answered t (calls.Asked now words wishes.Stop) asked = refl
case_answered t _ asked = cc

pub step_answered : (t : Tables) (call : Call) → is_request call ≡ true → IsAnswered (step t call)
step_answered t call asked = go t.stopped
  where
    go : (b : Bool) → IsAnswered (if b then refused refusals.Stopped else swept t (case_of t call))
    go true = refl
    go false = case_answered t call asked

-- and so no step is lost by its reply
lost-told : (reply : Reply) → is_told reply ≡ true → is_lost reply ≡ false
lost-told (replies.Done d) h = refl
lost-told (replies.Settled a) h = refl
lost-told (replies.Again a) h = refl
lost-told replies.FreeSet h = refl
lost-told (replies.Statement s) h = refl
lost-told (replies.AuditPlanned p q) h = refl
lost-told (replies.AuditEnded a b c d e) h = refl
lost-told (replies.RecheckPlanned p q) h = refl
lost-told (replies.RecheckEnded a b) h = refl
lost-told replies.Gone h = refl
lost-told (replies.RepairPlanned p q r) h = refl
lost-told (replies.RepairEnded v) h = refl
lost-told replies.Unrepaired h = refl
lost-told (replies.Superseded a b) h = refl
lost-told (replies.Tallied a b) h = refl
lost-told (replies.Closed a b) h = refl
lost-told replies.Stopping h = refl
lost-told (replies.Exiting n) h = refl
lost-told (replies.Exited n) h = refl
lost-told (replies.ExitPlanned p q r) h = refl
lost-told (replies.RatesSet m) h = refl
lost-told (replies.Refused c) h = refl
lost-told (replies.StoreFault a b) h = cc
lost-told replies.NoMemory h = cc

case_made : (t : Tables) (call : Call) → is_lost (case_of t call).reply ≡ false
case_made t (calls.Own now (tasks.PlanAudit words)) = grind (arith, nat_tests)
case_made t (calls.Own now (tasks.EndAudit judged)) = grind (arith, nat_tests)
case_made t (calls.Own now tasks.PlanRecheck) = grind (arith, nat_tests)
case_made t (calls.Own now (tasks.EndRecheck plan checked)) = grind (arith, nat_tests)
case_made t (calls.Own now (tasks.PlanRepair words)) = grind (arith, nat_tests)
case_made t (calls.Own now (tasks.EndRepair outcome)) = grind (arith, nat_tests)
case_made t (calls.Own now tasks.TallyHour) = grind (arith, nat_tests)
case_made t (calls.Own now (tasks.PlanExit words)) = grind (arith, nat_tests)
case_made t (calls.Own now (tasks.EndExit outcome)) = grind (arith, nat_tests)
case_made t call = lost-told (case_of t call).reply (case_answered t call refl)

pub step_made : (t : Tables) (call : Call) → is_lost (step t call).reply ≡ false
step_made t call = go t.stopped
  where
    go : (b : Bool) → is_lost (if b then refused refusals.Stopped else swept t (case_of t call)).reply ≡ false
    go true = refl
    go false = case_made t call

-- and what is requested can be answered to a caller
pub step_sayable : (t : Tables) (call : Call) → is_request call ≡ true → is_sayable (step t call).reply ≡ true
step_sayable t call asked = ap (λ (b : Bool). b || is_lost (step t call).reply) (step_answered t call asked)
