-- Which plans answers open, and which of a history's answers did.
use Rattle.std.specs.Prelude.{◌≡◌, ℕ, ◌+◌, Bool, true, false, List, Option, Some, None, slice_get, take}
use Rattle.std.specs.Option.{option_map}
use Rattle.audit_core.specs.declared.plan.AuditPlan.{AuditPlan}
use Rattle.audit_core.specs.declared.rechecking.RecheckPlan.{RecheckPlan}
use Rattle.repair_core.specs.declared.plan.RepairPlan.{RepairPlan}
use Rattle.repair_core.specs.declared.plan.ExitPlan.{ExitPlan}
use Rattle.machine_calls.specs.declared.reply.Reply.{Reply}
use Rattle.machine_calls.specs.declared.reply.Reply.TheVariants as replies
use Rattle.machine_step.specs.Tables.{Tables}
use Rattle.machine_step.specs.Calls.EndExit.{move_of}
use Rattle.machine_history.specs.History.{Said, replay}

-- a call was taken: neither refused nor lost
abbrev pub is_accepted : Reply → Bool
is_accepted (replies.Refused cause) = false
is_accepted (replies.StoreFault before after) = false
is_accepted replies.NoMemory = false
is_accepted _ = true

-- the plan that an answer opens
abbrev pub opened_audit : Reply → Option AuditPlan
opened_audit (replies.AuditPlanned plan places) = Some plan
opened_audit _ = None

abbrev pub opened_recheck : Reply → Option RecheckPlan
opened_recheck (replies.RecheckPlanned plan place) = Some plan
opened_recheck _ = None

abbrev pub opened_repair : Reply → Option RepairPlan
opened_repair (replies.RepairPlanned plan sources targets) = Some plan
opened_repair _ = None

abbrev pub opened_exit : Reply → Option ExitPlan
opened_exit (replies.ExitPlanned plan sources target) = Some plan
opened_exit _ = None

-- the move of an exit plan, which is a repair
abbrev pub opened_move : Reply → Option RepairPlan
opened_move reply = option_map move_of (opened_exit reply)

-- the tables at a place of a history: after the calls before it
abbrev pub at_place : Tables → List Said → ℕ → Tables
at_place t h i = replay t (take i h)

-- one of the answers of a history opened the plan
pub record WasOpened {P : Type 0} (opened : Reply → Option P) (h : List Said) (plan : P) : Type 0 where
  pub place : ℕ
  pub said : Said
  pub there : slice_get h place ≡ Some said
  pub answer : opened said.reply ≡ Some plan
