-- The step of the machine: what comes of each call, and the tables after it.
use Rattle.std.specs.Prelude.{◌≡◌, ℕ, ◌<◌, Bool, true, false, ◌||◌, length, max, slice_index_or, if◌then◌else◌}
use Rattle.sat_base.specs.Moments.{IsMoment}
use Rattle.sat_base.specs.declared.limits.TheConstants as limits
use Rattle.sat_base.specs.declared.ids.CustomerId.{CustomerId}
use Rattle.sat_base.specs.declared.scheme.Scheme.{Scheme}
use Rattle.sat_base.specs.Limits.{IsTariffWithin}
use Rattle.repair_core.specs.declared.outcome.RepairOutcome.{RepairOutcome}
use Rattle.repair_core.specs.declared.outcome.RepairOutcome.TheVariants as repairs
use Rattle.machine_calls.specs.declared.asking.Asking.{Asking}
use Rattle.machine_calls.specs.Replies.{is_request}
use Rattle.machine_calls.specs.declared.call.Call.{Call}
use Rattle.machine_calls.specs.declared.call.Call.TheVariants as calls
use Rattle.machine_calls.specs.declared.task.Task.TheVariants as tasks
use Rattle.machine_calls.specs.declared.wish.Wish.{Wish}
use Rattle.machine_calls.specs.declared.wish.Wish.TheVariants as wishes
use Rattle.machine_calls.specs.declared.reply.Reply.{Reply}
use Rattle.machine_calls.specs.declared.reply.Reply.TheVariants as replies
use Rattle.machine_calls.specs.declared.refusal.Refusal.TheVariants as refusals
use Rattle.machine_step.specs.Tables.{Setup, Tables, all_changed}
use Rattle.machine_step.specs.Outcome.{Outcome, unchanged, refused}
use Rattle.machine_step.specs.Containment.{swept}
use Rattle.machine_step.specs.Calls.AddNode.{add_node}
use Rattle.machine_step.specs.Calls.AddCustomer.{add_customer}
use Rattle.machine_step.specs.Calls.Begin.{begin}
use Rattle.machine_step.specs.Calls.Commit.{commit}
use Rattle.machine_step.specs.Calls.Get.{get}
use Rattle.machine_step.specs.Calls.Delete.{delete}
use Rattle.machine_step.specs.Calls.Settle.{settle}
use Rattle.machine_step.specs.Calls.SetFree.{set_free}
use Rattle.machine_step.specs.Calls.Statement.{statement}
use Rattle.machine_step.specs.Calls.PlanAudit.{plan_audit}
use Rattle.machine_step.specs.Calls.EndAudit.{end_audit}
use Rattle.machine_step.specs.Calls.PlanRecheck.{plan_recheck}
use Rattle.machine_step.specs.Calls.EndRecheck.{end_recheck}
use Rattle.machine_step.specs.Calls.PlanRepair.{plan_repair}
use Rattle.machine_step.specs.Calls.EndRepair.{end_repair}
use Rattle.machine_step.specs.Calls.TallyHour.{tally_hour}
use Rattle.machine_step.specs.Calls.CloseMonth.{close_month}
use Rattle.machine_step.specs.Calls.Exit.{exit}
use Rattle.machine_step.specs.Calls.PlanExit.{plan_exit}
use Rattle.machine_step.specs.Calls.EndExit.{end_exit}
use Rattle.machine_step.specs.Calls.SetRates.{set_rates}

-- the moment of a call: no earlier than that of an accepted one
abbrev pub risen : Tables → ℕ → ℕ
risen t now = max t.marks.time now

-- who asks, under which number, at the moment of the call
abbrev pub asking : Tables → CustomerId → ℕ → ℕ → Asking
asking t caller number now = record { caller = caller; number = number; time = risen t now }

-- the operator is caller 0
abbrev pub operator : CustomerId
operator = record { 0 = 0 }

-- what comes of a call where the machine wasn't stopped
abbrev pub case_of : Tables → Call → Outcome
case_of t (calls.Asked now words (wishes.AddNode request addr port free)) = add_node t (asking t operator request now) addr port free
case_of t (calls.Asked now words (wishes.AddCustomer request)) = add_customer t (asking t operator request now)
case_of t (calls.Asked now words (wishes.Begin customer request len)) = begin t (asking t customer request now) len words
case_of t (calls.Asked now words (wishes.Commit customer request segment indexes)) = commit t (asking t customer request now) segment indexes
case_of t (calls.Asked now words (wishes.Get customer request segment)) = get t (asking t customer request now) segment
case_of t (calls.Asked now words (wishes.Delete customer request segment)) = delete t (asking t customer request now) segment
case_of t (calls.Asked now words (wishes.Settle node bytes)) = settle t (risen t now) node bytes
case_of t (calls.Asked now words (wishes.SetFree node free)) = set_free t (risen t now) node free
case_of t (calls.Asked now words (wishes.Statement node month)) = statement t node month
case_of t (calls.Own now (tasks.PlanAudit words)) = plan_audit t (risen t now) words
case_of t (calls.Own now (tasks.EndAudit judged)) = end_audit t (risen t now) judged
case_of t (calls.Own now tasks.PlanRecheck) = plan_recheck t (risen t now)
case_of t (calls.Own now (tasks.EndRecheck plan checked)) = end_recheck t (risen t now) plan checked
case_of t (calls.Own now (tasks.PlanRepair words)) = plan_repair t (risen t now) words
case_of t (calls.Own now (tasks.EndRepair outcome)) = end_repair t (risen t now) outcome
case_of t (calls.Own now tasks.TallyHour) = tally_hour t (risen t now)
case_of t (calls.Asked now words (wishes.CloseMonth month)) = close_month t (risen t now) month
case_of t (calls.Asked now words (wishes.Exit node)) = exit t (risen t now) node
case_of t (calls.Own now (tasks.PlanExit words)) = plan_exit t (risen t now) words
case_of t (calls.Own now (tasks.EndExit outcome)) = end_exit t (risen t now) outcome
case_of t (calls.Asked now words (wishes.SetRates month rates)) = set_rates t (risen t now) month rates
case_of t (calls.Asked now words wishes.Stop) = unchanged replies.Stopping

-- and behind each step the containments whose node doesn't serve or whose piece is gone are gone
abbrev pub step : Tables → Call → Outcome
step t call = if t.stopped then refused refusals.Stopped else swept t (case_of t call)

abbrev pub is_stopping : Reply → Bool
is_stopping replies.Stopping = true
is_stopping _ = false

-- the tables after an outcome
abbrev pub tables_after : Tables → Outcome → Tables
tables_after t outcome =
    let next = all_changed t outcome.changes in record next { stopped = next.stopped || is_stopping outcome.reply }

-- the tables after a call
abbrev pub after : Tables → Call → Tables
after t call = tables_after t (step t call)

-- the moment of a call
abbrev pub moment_of : Call → ℕ
moment_of (calls.Asked now words wish) = now
moment_of (calls.Own now task) = now

-- how many random words are drawn for what is asked
abbrev pub words_for : Wish → ℕ
words_for (wishes.Begin customer request len) = limits.WORDS
words_for _ = 0

-- a call has as many words as it takes
abbrev pub HasItsWords : Call → Type 0
HasItsWords (calls.Asked now words wish) = length words ≡ words_for wish
HasItsWords (calls.Own now (tasks.PlanAudit words)) = length words ≡ 2
HasItsWords (calls.Own now (tasks.PlanRepair words)) = length words ≡ limits.WORDS
HasItsWords (calls.Own now (tasks.PlanExit words)) = length words ≡ limits.WORDS
HasItsWords (calls.Own now _) = Unit {0}

-- an order that is presented is of bytes
abbrev pub HasBytes : Call → Type 0
HasBytes (calls.Asked now words (wishes.Settle node bytes)) = (i : ℕ) → slice_index_or bytes i 0 < 256
HasBytes _ = Unit {0}

-- rates and their month are ones that a tariff may have
abbrev pub HasTariff : Call → Type 0
HasTariff (calls.Asked now words (wishes.SetRates month rates)) = IsTariffWithin (record { from = month; rates = rates })
HasTariff _ = Unit {0}

-- what a call is to be by itself
pub record IsFormed (call : Call) : Type 0 where
  pub timely : IsMoment (moment_of call)
  pub words : HasItsWords call
  pub bytes : HasBytes call
  pub tariff : HasTariff call

-- a scheme is the one that a store is set up with
pub record IsSchemeOf (setup : Setup) (scheme : Scheme) : Type 0 where
  pub k : scheme.k ≡ setup.k
  pub m : scheme.m ≡ setup.m
  pub o : scheme.o ≡ setup.o
  pub n : scheme.n ≡ setup.n
  pub share : scheme.share ≡ setup.share

abbrev pub IsMendedBy : Setup → RepairOutcome → Type 0
IsMendedBy setup (repairs.Mended mended) = IsSchemeOf setup mended.scheme
IsMendedBy setup (repairs.Unmended unmended) = Unit {0}

-- what was judged or mended was so by the store's scheme
abbrev pub IsByScheme : Setup → Call → Type 0
IsByScheme setup (calls.Own now (tasks.EndAudit judged)) = IsSchemeOf setup judged.scheme
IsByScheme setup (calls.Own now (tasks.EndRepair outcome)) = IsMendedBy setup outcome
IsByScheme setup (calls.Own now (tasks.EndExit outcome)) = IsMendedBy setup outcome
IsByScheme setup _ = Unit {0}

-- what a call is to be where it is asked of these tables
pub record IsWellFormed (t : Tables) (call : Call) : Type 0 where
  pub formed : IsFormed call
  pub scheme : IsByScheme t.setup call

-- a request that is formed, which may be asked of any tables
pub record IsAsked (call : Call) : Type 0 where
  pub formed : IsFormed call
  pub asked : is_request call ≡ true
