-- What holds of each list and of each open plan at each moment within a step.
use Rattle.std.proofs.Common.{◌≡◌, ℕ, ◌<◌, ◌≤◌, true, List, length, arith}
use Rattle.std.specs.Prelude.{nat_lt}
use Rattle.std.specs.List.{list_all}
use Rattle.sat_base.specs.declared.records.Containment.{Containment}
use Rattle.sat_base.specs.declared.settings.Marks.{Marks}
use Rattle.sat_base.specs.declared.settings.Customer.{Customer}
use Rattle.sat_base.specs.declared.requests.Kept.{Kept}
use Rattle.sat_base.specs.Ranks.{containment_rank, kept_rank}
use Rattle.sat_base.specs.Limits.{IsKeptWithin}
use Rattle.rows.specs.Rows.{without, IsRising}
use Rattle.rows.proofs.Rising.{rising-without}
use Rattle.rows.specs.Slots.{with_row}
use Rattle.node_registry.specs.declared.node.Node.{Node}
use Rattle.node_registry.specs.declared.node.Left.{Left}
use Rattle.node_registry.specs.Left.{left_rank}
use Rattle.segment_core.specs.Record.{SegmentRecord, segment_rank}
use Rattle.settlement.specs.declared.row.SettledRow.{SettledRow}
use Rattle.settlement.specs.Rows.{key}
use Rattle.tally_payout.specs.declared.amounts.Tally.{Tally}
use Rattle.tally_payout.specs.Ranks.{tally_rank, statement_rank}
use Rattle.month_pay.specs.Ledger.{Ledger}
use Rattle.month_pay.specs.Keeping.{RuleHolds}
use Rattle.audit_core.specs.declared.plan.AuditPlan.{AuditPlan}
use Rattle.audit_core.specs.declared.rechecking.RecheckPlan.{RecheckPlan}
use Rattle.repair_core.specs.declared.plan.RepairPlan.{RepairPlan}
use Rattle.repair_core.specs.declared.plan.ExitPlan.{ExitPlan}
use Rattle.machine_step.specs.Tables.{Setup}
use Rattle.machine_step.specs.Rules.{is_sound_segment, is_sound_settled, is_sound_tally, is_sound_kept}
use Rattle.machine_step.specs.PlanRules.{is_sound_audit, is_sound_recheck, is_sound_repair, is_sound_exit, is_owed, is_sound_left, is_accounted}
use Rattle.machine_step.specs.Bounds.{Each, IsSegmentWithin, IsSettledWithin, IsAuditWithin, IsRepairWithin, IsExitWithin}
use Rattle.machine_step.proofs.RowLemmas.{rising-with_row, length-without-le, all-with_row, all-without, each-with_row, each-without}

pub record SegmentsHold (setup : Setup) (marks : Marks) (nodes : List Node) (customers : List Customer) (rows : List SegmentRecord) : Type 0 where
  pub all : list_all (is_sound_segment setup marks nodes customers) rows ≡ true
  pub few : length rows ≤ setup.caps.segments
  pub rising : IsRising segment_rank rows
  pub within : Each IsSegmentWithin rows

pub record SettledHold (setup : Setup) (marks : Marks) (nodes : List Node) (rows : List SettledRow) : Type 0 where
  pub all : list_all (is_sound_settled marks nodes) rows ≡ true
  pub few : length rows ≤ setup.caps.settled
  pub rising : IsRising key rows
  pub within : Each IsSettledWithin rows

pub record TalliesHold (setup : Setup) (marks : Marks) (nodes : List Node) (rows : List Tally) : Type 0 where
  pub all : list_all (is_sound_tally marks nodes) rows ≡ true
  pub few : length rows ≤ setup.caps.tallies
  pub rising : IsRising tally_rank rows

pub record StatementsHold (cap : ℕ) (ledger : Ledger) : Type 0 where
  pub rule : RuleHolds cap ledger
  pub rising : IsRising statement_rank ledger.statements

pub record KeptHold (marks : Marks) (nodes : List Node) (customers : List Customer) (rows : List Kept) : Type 0 where
  pub all : list_all (is_sound_kept marks nodes customers) rows ≡ true
  pub rising : IsRising kept_rank rows
  pub within : Each IsKeptWithin rows

pub segments_put : (setup : Setup) (marks : Marks) (nodes : List Node) (customers : List Customer) (rows : List SegmentRecord) (row : SegmentRecord) → SegmentsHold setup marks nodes customers rows
    → is_sound_segment setup marks nodes customers row ≡ true → IsSegmentWithin row → length (with_row segment_rank rows row) ≤ setup.caps.segments
    → SegmentsHold setup marks nodes customers (with_row segment_rank rows row)
segments_put setup marks nodes customers rows row hold sound within few = record {
  all = all-with_row segment_rank (is_sound_segment setup marks nodes customers) rows row hold.all sound;
  few = few;
  rising = rising-with_row segment_rank rows row hold.rising;
  within = each-with_row segment_rank IsSegmentWithin rows row hold.within within;
}

pub fewer_segments : (setup : Setup) (marks : Marks) (nodes : List Node) (customers : List Customer) (rows : List SegmentRecord) (id : ℕ) → SegmentsHold setup marks nodes customers rows
    → SegmentsHold setup marks nodes customers (without segment_rank rows id)
fewer_segments setup marks nodes customers rows id hold = record {
  all = all-without segment_rank (is_sound_segment setup marks nodes customers) rows id hold.all;
  few = omega (arith, length-without-le segment_rank rows id, hold.few);
  rising = rising-without segment_rank rows id hold.rising;
  within = each-without segment_rank IsSegmentWithin rows id hold.within;
}

pub kept_put : (marks : Marks) (nodes : List Node) (customers : List Customer) (rows : List Kept) (row : Kept) → KeptHold marks nodes customers rows → is_sound_kept marks nodes customers row ≡ true → IsKeptWithin row
    → KeptHold marks nodes customers (with_row kept_rank rows row)
kept_put marks nodes customers rows row hold sound within = record {
  all = all-with_row kept_rank (is_sound_kept marks nodes customers) rows row hold.all sound;
  rising = rising-with_row kept_rank rows row hold.rising;
  within = each-with_row kept_rank IsKeptWithin rows row hold.within within;
}

-- a plan is sound and within its bounds, and its segment is an old one
pub record AuditHolds (from : ℕ) (setup : Setup) (marks : Marks) (segments : List SegmentRecord) (plan : AuditPlan) : Type 0 where
  pub sound : is_sound_audit setup marks segments plan ≡ true
  pub below : plan.segment.0 < from
  pub within : IsAuditWithin plan

pub record RecheckHolds (marks : Marks) (nodes : List Node) (plan : RecheckPlan) : Type 0 where
  pub sound : is_sound_recheck marks nodes plan ≡ true

pub record RepairHolds (from : ℕ) (setup : Setup) (marks : Marks) (nodes : List Node) (segments : List SegmentRecord) (plan : RepairPlan) : Type 0 where
  pub sound : is_sound_repair setup marks nodes segments plan ≡ true
  pub below : plan.segment.0 < from
  pub within : IsRepairWithin plan

pub record ExitHolds (from : ℕ) (setup : Setup) (marks : Marks) (nodes : List Node) (segments : List SegmentRecord) (exit : ExitPlan) : Type 0 where
  pub sound : is_sound_exit setup marks nodes segments exit ≡ true
  pub below : exit.plan.segment.0 < from
  pub within : IsExitWithin exit

-- of the containments all but that they stand, which is seen to at the end of a step
pub record ContainmentsHold (from : ℕ) (setup : Setup) (segments : List SegmentRecord) (rows : List Containment) : Type 0 where
  pub owed : list_all (is_owed setup segments) rows ≡ true
  pub below : list_all (λ containment. nat_lt containment.segment.0 from) rows ≡ true
  pub rising : IsRising containment_rank rows

pub record LeftHold (marks : Marks) (nodes : List Node) (rows : List Left) : Type 0 where
  pub all : list_all (is_sound_left marks nodes) rows ≡ true
  pub accounted : list_all (is_accounted rows) nodes ≡ true
  pub rising : IsRising left_rank rows
