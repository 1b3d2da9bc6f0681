-- The move of a piece of a node that leaves ends. Its target has the index of the leaving piece, and so takes its place.
use Rattle.std.specs.Prelude.{ℕ, Option}
use Rattle.std.specs.Option.{option_map}
use Rattle.sat_base.specs.declared.kinds.TheConstants as kinds
use Rattle.repair_core.specs.declared.plan.RepairPlan.{RepairPlan}
use Rattle.repair_core.specs.declared.plan.ExitPlan.{ExitPlan}
use Rattle.repair_core.specs.declared.outcome.RepairOutcome.{RepairOutcome}
use Rattle.machine_step.specs.Tables.{Tables}
use Rattle.machine_step.specs.Outcome.{Outcome}
use Rattle.machine_step.specs.Mending.{end_mending}

-- the repair of an exit plan
abbrev pub move_of : ExitPlan → RepairPlan
move_of exit = exit.plan

abbrev pub open_move : Tables → Option RepairPlan
open_move t = option_map move_of t.exit

abbrev pub end_exit : Tables → ℕ → RepairOutcome → Outcome
end_exit t time outcome = end_mending t time kinds.EXIT_PLAN (open_move t) outcome
