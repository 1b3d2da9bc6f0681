-- What a change of a record does: a record is put, or one is removed.
use Rattle.std.specs.Prelude.{ℕ}
use Rattle.sat_base.specs.declared.kinds.TheConstants as kinds
use Rattle.sat_base.specs.declared.records.Key.{Key}
use Rattle.sat_base.specs.declared.records.Key.TheVariants as keys
use Rattle.record_kinds.specs.declared.rec.Rec.{Rec}
use Rattle.record_kinds.specs.declared.rec.Rec.TheVariants as records
use Rattle.record_kinds.specs.Kinds.{kind_of}
use Rattle.machine_calls.specs.declared.change.RecChange.{RecChange}
use Rattle.machine_calls.specs.declared.change.RecChange.TheVariants as changes

pub data Doing : Type 0 where
  puts : Rec → Doing
  removes : Key → Doing

-- the one place that takes a change apart
abbrev pub doing : RecChange → Doing
doing (changes.Settings settings) = puts (records.Settings settings)
doing (changes.Marks marks) = puts (records.Marks marks)
doing (changes.Node node) = puts (records.Node node)
doing (changes.Customer customer) = puts (records.Customer customer)
doing (changes.Segment segment) = puts (records.Segment segment)
doing (changes.SettledRow row) = puts (records.SettledRow row)
doing (changes.Tally tally) = puts (records.Tally tally)
doing (changes.Statement statement) = puts (records.Statement statement)
doing (changes.AuditPlan plan) = puts (records.AuditPlan plan)
doing (changes.RecheckPlan plan) = puts (records.RecheckPlan plan)
doing (changes.RepairPlan plan) = puts (records.RepairPlan plan)
doing (changes.Containment containment) = puts (records.Containment containment)
doing (changes.Kept kept) = puts (records.Kept kept)
doing (changes.ExitPlan plan) = puts (records.ExitPlan plan)
doing (changes.Left left) = puts (records.Left left)
doing (changes.Tariff tariff) = puts (records.Tariff tariff)
doing (changes.Remove key) = removes key

abbrev pub kind_of_key : Key → ℕ
kind_of_key (keys.Segment segment) = kinds.SEGMENT
kind_of_key (keys.Plan kind) = kind
kind_of_key (keys.Containment node) = kinds.CONTAINMENT

abbrev pub kind_done : Doing → ℕ
kind_done (puts rec) = kind_of rec
kind_done (removes key) = kind_of_key key

-- the kind of the record that a change puts or removes
abbrev pub kind_changed : RecChange → ℕ
kind_changed change = kind_done (doing change)
