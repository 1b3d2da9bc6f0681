-- Records by kind, as what a machine is made of has them.
use Rattle.std.specs.Prelude.{◌≡◌, ℕ, List, [], ◌∷◌, map, drop}
use Rattle.sat_base.specs.declared.rows.Row.{Row}
use Rattle.record_kinds.specs.declared.rec.Rec.{Rec}
use Rattle.record_kinds.specs.declared.rec.Rec.TheVariants as records
use Rattle.record_rows.specs.Fits.{Fits}
use Rattle.record_rows.specs.Spelling.{row_of}
use Rattle.machine_calls.specs.declared.parts.Parts0.{Parts0}
use Rattle.machine_step.specs.Bounds.{Each}
use Rattle.sat_book.specs.TableRows.{joined}

-- the records of each kind, in the order of the kinds: the one place that takes the lists apart
abbrev pub rec_lists : Parts0 → List (List Rec)
rec_lists parts =
    map records.Settings parts.settings.items
    ∷ map records.Marks parts.marks.items
    ∷ map records.Node parts.nodes.items
    ∷ map records.Customer parts.customers.items
    ∷ map records.Segment parts.segments.items
    ∷ map records.SettledRow parts.settled.items
    ∷ map records.Tally parts.tallies.items
    ∷ map records.Statement parts.statements.items
    ∷ map records.AuditPlan parts.audit_plans.items
    ∷ map records.RecheckPlan parts.recheck_plans.items
    ∷ map records.RepairPlan parts.repair_plans.items
    ∷ map records.Containment parts.containments.items
    ∷ map records.Kept parts.kept.items
    ∷ map records.ExitPlan parts.exit_plans.items
    ∷ map records.Left parts.left.items
    ∷ map records.Tariff parts.tariffs.items
    ∷ []

-- the records, one kind behind the other
abbrev pub listed : Parts0 → List Rec
listed parts = joined (rec_lists parts)

-- there is none of a later kind
abbrev pub HasNoneBehind : ℕ → Parts0 → Type 0
HasNoneBehind kind parts = joined (drop kind (rec_lists parts)) ≡ []

-- the records are those of the rows
pub record AreRecordsOf (rows : List Row) (parts : Parts0) : Type 0 where
  pub fit : Each Fits (listed parts)
  pub rows_are : map row_of (listed parts) ≡ rows
