-- A silent node is to be asked again: the contained one with the least id.
use Rattle.std.specs.Prelude.{ℕ, [], ◌∷◌}
use Rattle.sat_base.specs.declared.records.Containment.{Containment}
use Rattle.audit_core.specs.declared.rechecking.RecheckPlan.{RecheckPlan}
use Rattle.machine_calls.specs.declared.change.RecChange.TheVariants as changes
use Rattle.machine_calls.specs.declared.reply.Reply.TheVariants as replies
use Rattle.machine_calls.specs.declared.refusal.Refusal.TheVariants as refusals
use Rattle.machine_calls.specs.declared.refusal.TableName.TheVariants as names
use Rattle.machine_step.specs.Tables.{Tables}
use Rattle.machine_step.specs.Outcome.{Outcome, accepted, unless, with_record}
use Rattle.machine_step.specs.Places.{place_at}
use Rattle.machine_step.specs.Containment.{place_of}
use Rattle.machine_step.specs.Health.{first_of}
use Rattle.machine_step.specs.Plans.{drawn, has_no_plan}

-- the share that the node of a containment owes
abbrev pub recheck_of : Tables → ℕ → Containment → RecheckPlan
recheck_of t time containment = record {
  plan = t.marks.plan;
  serial = record { 0 = t.marks.serial };
  issued = time;
  node = containment.node;
  segment = containment.segment;
  index = containment.index;
  stripe = containment.stripe;
  expect = containment.expect;
}

abbrev pub recheck_planned : Tables → ℕ → Containment → Outcome
recheck_planned t time containment =
    let plan = recheck_of t time containment in
    accepted (drawn t.marks time) (changes.RecheckPlan plan ∷ []) (replies.RecheckPlanned plan (place_at t.nodes (place_of containment)))

abbrev pub plan_recheck : Tables → ℕ → Outcome
plan_recheck t time =
    with_record (first_of t.containments) refusals.NothingToRecheck (λ containment.
    unless (has_no_plan t.marks) (refusals.TableFull names.Numbers) (recheck_planned t time containment))
