-- Which changes of records a store can be told: what a step never makes is left out, and lists are as long as a record allows.
use Rattle.std.specs.Prelude.{◌≡◌, ◌⊎◌, ℕ, ◌≤◌, length}
use Rattle.sat_base.specs.declared.limits.TheConstants as limits
use Rattle.sat_base.specs.declared.kinds.TheConstants as kinds
use Rattle.sat_base.specs.declared.records.Key.{Key}
use Rattle.sat_base.specs.declared.records.Key.TheVariants as keys
use Rattle.sat_base.specs.Limits.{IsKeptWithin}
use Rattle.repair_core.specs.declared.plan.RepairPlan.{RepairPlan}
use Rattle.machine_calls.specs.declared.change.RecChange.{RecChange}
use Rattle.machine_calls.specs.Changes.{Doing, doing}
use Rattle.machine_calls.specs.Changes.Doing.{puts, removes}
use Rattle.record_kinds.specs.declared.rec.Rec.{Rec}
use Rattle.record_kinds.specs.declared.rec.Rec.TheVariants as records

-- the kind of an open plan
abbrev pub IsPlanKind : ℕ → Type 0
IsPlanKind kind = (kind ≡ kinds.AUDIT_PLAN) ⊎ ((kind ≡ kinds.RECHECK_PLAN) ⊎ ((kind ≡ kinds.REPAIR_PLAN) ⊎ (kind ≡ kinds.EXIT_PLAN)))

abbrev pub IsRepairWritable : RepairPlan → Type 0
IsRepairWritable plan = (length plan.sources ≤ limits.PLACES) × (length plan.targets ≤ limits.PLACES)

-- what a store is set up with never changes, and lists have at most 128 items
abbrev pub IsWritableRecord : Rec → Type 0
IsWritableRecord (records.Settings settings) = ⊥
IsWritableRecord (records.Segment segment) = length segment.pieces ≤ limits.PLACES
IsWritableRecord (records.AuditPlan plan) = length plan.asked ≤ limits.PLACES
IsWritableRecord (records.RepairPlan plan) = IsRepairWritable plan
IsWritableRecord (records.Kept kept) = IsKeptWithin kept
IsWritableRecord (records.ExitPlan plan) = IsRepairWritable plan.plan
IsWritableRecord _ = Unit {0}

-- a plan that is removed is of a plan's kind
abbrev pub IsRemovable : Key → Type 0
IsRemovable (keys.Segment id) = Unit {0}
IsRemovable (keys.Plan kind) = IsPlanKind kind
IsRemovable (keys.Containment node) = Unit {0}

abbrev pub CanBeDone : Doing → Type 0
CanBeDone (puts rec) = IsWritableRecord rec
CanBeDone (removes key) = IsRemovable key

abbrev pub IsWritable : RecChange → Type 0
IsWritable change = CanBeDone (doing change)
