-- The bounds of each record beside the rules. What isn't bounded here is bounded by its type, or by a rule: moments are at most the greatest one, and indexes of pieces are below n.
use Rattle.std.specs.Prelude.{◌≡◌, ◌<◌, ◌≤◌, ◌^◌, true, List, length, IfSome}
use Rattle.sat_base.specs.declared.limits.TheConstants as limits
pub use Rattle.rows.specs.Rows.{Each}
use Rattle.sat_base.specs.Scheme.{IsScheme}
use Rattle.sat_base.specs.Limits.{IsMonthWithin, AreCapsWithin, AreMarksWithin, IsKeptWithin, IsTariffWithin}
use Rattle.sat_base.specs.declared.records.At.{At}
use Rattle.audit_core.specs.declared.plan.AuditPlan.{AuditPlan}
use Rattle.repair_core.specs.declared.plan.RepairPlan.{RepairPlan}
use Rattle.repair_core.specs.declared.plan.ExitPlan.{ExitPlan}
use Rattle.segment_core.specs.Record.{SegmentRecord}
use Rattle.segment_core.specs.Places.{IsByIndex}
use Rattle.settlement.specs.declared.row.SettledRow.{SettledRow}
use Rattle.machine_step.specs.Tables.{Setup, Tables}
use Rattle.machine_step.specs.Rules.{are_below}
use Rattle.machine_step.specs.Sound.{IsSound, IsOrdered}

pub record IsSetupWithin (setup : Setup) : Type 0 where
  pub scheme : IsScheme setup.k setup.m setup.o setup.n setup.share
  pub vet : (1 ≤ setup.vet) × (setup.vet ≤ limits.VET)
  pub fresh : setup.fresh ≤ 100
  pub caps : AreCapsWithin setup.caps
  pub first_month : IsMonthWithin setup.first_month

-- pieces stand by index, at most 128 of them
pub record IsSegmentWithin (segment : SegmentRecord) : Type 0 where
  pub by_index : IsByIndex segment.pieces
  pub few : length segment.pieces ≤ limits.PLACES

-- the places of a plan stand by index, at most 128 of them, and their indexes are below 128
pub record ArePlacesWithin (places : List At) : Type 0 where
  pub by_index : IsByIndex places
  pub few : length places ≤ limits.PLACES
  pub below : are_below limits.PLACES places ≡ true

abbrev pub IsAuditWithin : AuditPlan → Type 0
IsAuditWithin plan = ArePlacesWithin plan.asked

pub record IsRepairWithin (plan : RepairPlan) : Type 0 where
  pub sources : ArePlacesWithin plan.sources
  pub targets : ArePlacesWithin plan.targets

abbrev pub IsExitWithin : ExitPlan → Type 0
IsExitWithin exit = IsRepairWithin exit.plan

-- an amount has eight bytes
abbrev pub IsSettledWithin : SettledRow → Type 0
IsSettledWithin row = row.amount < 2 ^ 64

pub record AreWithin (t : Tables) : Type 0 where
  pub setup : IsSetupWithin t.setup
  pub marks : AreMarksWithin t.marks
  pub segments : Each IsSegmentWithin t.segments
  pub settled : Each IsSettledWithin t.settled
  pub audit : IfSome t.audit IsAuditWithin
  pub repair : IfSome t.repair IsRepairWithin
  pub kept : Each IsKeptWithin t.kept
  pub exit : IfSome t.exit IsExitWithin
  pub tariffs : Each IsTariffWithin t.tariffs

-- what holds of the tables at every moment: their rules, the order of their rows, and the bounds of their records
pub record IsValid (t : Tables) : Type 0 where
  pub rules : IsSound t
  pub order : IsOrdered t
  pub bounds : AreWithin t
