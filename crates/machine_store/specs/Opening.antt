-- What comes of records of which a machine is to be made.
use Rattle.std.specs.Prelude.{◌≡◌, ℕ, ◌≤◌, false, List, [], ◌∷◌, length, min, Option, Some, None, Result, Ok, Err}
use Rattle.sat_base.specs.declared.settings.Settings.{Settings}
use Rattle.sat_base.specs.declared.settings.Marks.{Marks}
use Rattle.sat_base.specs.Ranks.{containment_rank, customer_rank, kept_rank, tariff_rank}
use Rattle.rows.specs.Rows.{IsRising}
use Rattle.segment_core.specs.Record.{segment_rank}
use Rattle.settlement.specs.Rows.{key}
use Rattle.machine_calls.specs.declared.parts.Parts0.{Parts0}
use Rattle.tally_payout.specs.Ranks.{tally_rank, statement_rank}
use Rattle.node_registry.specs.Left.{left_rank}
use Rattle.machine_step.specs.Tables.{Tables, setup_of}
use Rattle.sat_base.specs.declared.kinds.TheConstants as kinds
use Rattle.machine_calls.specs.declared.rules.TheConstants as rules
use Rattle.sat_base.specs.Limits.{AreMarksWithin, IsKeptWithin, IsTariffWithin}
use Rattle.machine_step.specs.Bounds.{Each, IsSetupWithin, IsSegmentWithin, IsAuditWithin, IsRepairWithin, IsExitWithin}
use Rattle.machine_step.specs.Health.{first_of}
use Rattle.machine_step.specs.Broken.{Broken, broken, first_broken}
use Rattle.machine_store.specs.declared.opening.CoreErr.{CoreErr}
use Rattle.machine_store.specs.declared.opening.CoreErr.TheVariants as errs

-- the lists stand in the order of their ids, none of which comes twice, and each record is within its bounds
pub record AreParts (parts : Parts0) : Type 0 where
  pub one_setup : length parts.settings.items ≤ 1
  pub one_marks : length parts.marks.items ≤ 1
  pub customers : IsRising customer_rank parts.customers.items
  pub segments : IsRising segment_rank parts.segments.items
  pub settled : IsRising key parts.settled.items
  pub tallies : IsRising tally_rank parts.tallies.items
  pub statements : IsRising statement_rank parts.statements.items
  pub one_audit : length parts.audit_plans.items ≤ 1
  pub one_recheck : length parts.recheck_plans.items ≤ 1
  pub one_repair : length parts.repair_plans.items ≤ 1
  pub containments : IsRising containment_rank parts.containments.items
  pub kept : IsRising kept_rank parts.kept.items
  pub one_exit : length parts.exit_plans.items ≤ 1
  pub left : IsRising left_rank parts.left.items
  pub tariffs : IsRising tariff_rank parts.tariffs.items
  pub setup_within : Each (λ (s : Settings). IsSetupWithin (setup_of s)) parts.settings.items
  pub marks_within : Each AreMarksWithin parts.marks.items
  pub segments_within : Each IsSegmentWithin parts.segments.items
  pub audit_within : Each IsAuditWithin parts.audit_plans.items
  pub repair_within : Each IsRepairWithin parts.repair_plans.items
  pub kept_within : Each IsKeptWithin parts.kept.items
  pub exit_within : Each IsExitWithin parts.exit_plans.items
  pub tariffs_within : Each IsTariffWithin parts.tariffs.items

-- the tables of these records
abbrev pub tables_made : Settings → Marks → Parts0 → Tables
tables_made settings marks parts = record {
  setup = setup_of settings;
  marks = marks;
  nodes = parts.nodes.items;
  customers = parts.customers.items;
  segments = parts.segments.items;
  settled = parts.settled.items;
  tallies = parts.tallies.items;
  statements = parts.statements.items;
  audit = first_of parts.audit_plans.items;
  recheck = first_of parts.recheck_plans.items;
  repair = first_of parts.repair_plans.items;
  containments = parts.containments.items;
  kept = parts.kept.items;
  exit = first_of parts.exit_plans.items;
  left = parts.left.items;
  tariffs = parts.tariffs.items;
  stopped = false;
}

-- the lesser of two numbers, of which each may be none
abbrev pub least_of : Option ℕ → Option ℕ → Option ℕ
least_of None other = other
least_of (Some one) None = Some one
least_of (Some one) (Some other) = Some (min one other)

-- the least rule that the records break: settings and marks are there, and the tables keep their rules
abbrev pub first_broken_with : List Settings → List Marks → Parts0 → Option Broken
first_broken_with [] marks parts = Some (broken rules.MARKS kinds.SETTINGS [])
first_broken_with (settings ∷ _) [] parts = Some (broken rules.MARKS kinds.MARKS [])
first_broken_with (settings ∷ _) (marks ∷ _) parts = first_broken (tables_made settings marks parts)

abbrev pub first_broken_of : Parts0 → Option Broken
first_broken_of parts = first_broken_with parts.settings.items parts.marks.items parts

-- the tables are those of the records
abbrev pub AreTablesWith : List Settings → List Marks → Parts0 → Tables → Type 0
AreTablesWith (settings ∷ _) (marks ∷ _) parts t = t ≡ tables_made settings marks parts
AreTablesWith _ _ parts t = ⊥

abbrev pub AreTablesOf : Parts0 → Tables → Type 0
AreTablesOf parts t = AreTablesWith parts.settings.items parts.marks.items parts t

-- an error names what is broken, or memory runs out
abbrev pub Names : CoreErr → Broken → Type 0
Names (errs.Rule rule kind id) b = broken rule kind id ≡ b
Names errs.NoMemory b = Unit {0}

-- a test answers Ok where nothing is broken, and otherwise names what is
abbrev pub NamesSome : CoreErr → Option Broken → Type 0
NamesSome (errs.Rule rule kind id) o = o ≡ Some (broken rule kind id)
NamesSome errs.NoMemory o = Unit {0}

abbrev pub Tests : {T : Type 0} → Result T CoreErr → Option Broken → Type 0
Tests (Ok done) o = o ≡ None
Tests (Err err) o = NamesSome err o
