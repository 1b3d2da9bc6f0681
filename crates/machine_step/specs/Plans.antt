-- The open plans: their numbers, and which one a call ends.
use Rattle.std.specs.Prelude.{ℕ, ◌+◌, ◌==◌, ◌&&◌, ◌||◌, nat_le, Bool, false, List, [], ◌∷◌, Option, Some, None}
use Rattle.std.specs.Str.{bytes_eq}
use Rattle.std.specs.Cmp.Lexicographic.{pointwise}
use Rattle.sat_base.specs.declared.limits.TheConstants as limits
use Rattle.sat_base.specs.declared.records.At.{At}
use Rattle.sat_base.specs.declared.records.Key.TheVariants as keys
use Rattle.sat_base.specs.declared.settings.Marks.{Marks}
use Rattle.segment_core.specs.Record.{SegmentRecord}
use Rattle.audit_core.specs.declared.plan.AuditPlan.{AuditPlan}
use Rattle.audit_core.specs.declared.rechecking.RecheckPlan.{RecheckPlan}
use Rattle.repair_core.specs.declared.plan.RepairPlan.{RepairPlan}
use Rattle.machine_calls.specs.declared.change.RecChange.TheVariants as changes
use Rattle.machine_calls.specs.declared.reply.Reply.TheVariants as replies
use Rattle.machine_step.specs.Tables.{Tables}
use Rattle.machine_step.specs.Outcome.{Outcome, accepted}
use Rattle.machine_step.specs.Containment.{same_place}

-- ---- the marks

-- the marks at another moment
abbrev pub timed : Marks → ℕ → Marks
timed marks time = record marks { time = time }

-- a plan and a serial are drawn
abbrev pub drawn : Marks → ℕ → Marks
drawn marks time = record marks { time = time; plan = marks.plan + 1; serial = marks.serial + 1 }

-- the next number of a plan, or the next serial, is the last
abbrev pub has_no_plan : Marks → Bool
has_no_plan marks = nat_le limits.LAST_NUMBER marks.plan || nat_le limits.LAST_NUMBER marks.serial

-- ---- equal plans

abbrev pub same_places : List At → List At → Bool
same_places = pointwise same_place

abbrev pub same_audit : AuditPlan → AuditPlan → Bool
same_audit one other =
    (one.plan == other.plan) && ((one.segment.0 == other.segment.0) && ((one.version == other.version) && ((one.stripe == other.stripe)
    && ((one.serial.0 == other.serial.0) && ((one.issued == other.issued) && same_places one.asked other.asked)))))

abbrev pub same_recheck : RecheckPlan → RecheckPlan → Bool
same_recheck one other =
    (one.plan == other.plan) && ((one.serial.0 == other.serial.0) && ((one.issued == other.issued) && ((one.node.0 == other.node.0)
    && ((one.segment.0 == other.segment.0) && ((one.index == other.index) && ((one.stripe == other.stripe) && bytes_eq one.expect other.expect))))))

abbrev pub same_repair : RepairPlan → RepairPlan → Bool
same_repair one other =
    (one.plan == other.plan) && ((one.segment.0 == other.segment.0) && ((one.version == other.version) && ((one.serial.0 == other.serial.0)
    && ((one.issued == other.issued) && ((one.len == other.len) && (same_places one.sources other.sources && same_places one.targets other.targets))))))

-- the open plan is this one
abbrev pub is_open : {P : Type 0} → (P → P → Bool) → Option P → P → Bool
is_open same None plan = false
is_open same (Some opened) plan = same opened plan

-- the number of the open plan, or 0
abbrev pub open_number : {P : Type 0} → (P → ℕ) → Option P → ℕ
open_number number None = 0
open_number number (Some opened) = number opened

-- ---- superseded

-- the version of a segment, and 0 of one that is gone
abbrev pub version_of : Option SegmentRecord → ℕ
version_of None = 0
version_of (Some segment) = segment.version

-- a plan of a kind is closed, and nothing else changes
abbrev pub superseded : Tables → ℕ → ℕ → ℕ → ℕ → Outcome
superseded t time kind planned now = accepted (timed t.marks time) (changes.Remove (keys.Plan kind) ∷ []) (replies.Superseded planned now)
