-- What holds of the tables at each moment within a step, which changes fit there, and how tables grow.
use Rattle.std.proofs.Common.{◌≡◌, ℕ, suc, ◌+◌, ◌/◌, ◌<◌, ◌≤◌, ◌^◌, true, false, List, [], ◌∷◌, length, Some, None, IfSome, refl, ◌∙◌, arith}
use Rattle.std.specs.Prelude.{nat_lt}
use Rattle.sat_base.specs.declared.limits.TheConstants as limits
use Rattle.sat_base.specs.declared.rates.Tariff.{Tariff}
use Rattle.sat_base.specs.declared.records.Containment.{Containment}
use Rattle.sat_base.specs.declared.records.Key.TheVariants as keys
use Rattle.sat_base.specs.declared.settings.Marks.{Marks}
use Rattle.sat_base.specs.declared.settings.Customer.{Customer}
use Rattle.sat_base.specs.declared.requests.Kept.{Kept}
use Rattle.sat_base.specs.Ranks.{tariff_rank}
use Rattle.sat_base.specs.Limits.{AreMarksWithin, IsKeptWithin, IsTariffWithin}
use Rattle.rows.specs.Rows.{IsRising}
use Rattle.rows.specs.Slots.{with_row}
use Rattle.node_registry.specs.declared.node.Node.{Node}
use Rattle.node_registry.specs.Registry.{node_at}
use Rattle.segment_core.specs.Record.{SegmentRecord, segment_rank}
use Rattle.settlement.specs.declared.row.SettledRow.{SettledRow}
use Rattle.settlement.specs.Rows.{key}
use Rattle.tally_payout.specs.declared.amounts.Tally.{Tally}
use Rattle.tally_payout.specs.Ranks.{tally_rank}
use Rattle.month_pay.specs.Months.{month_at}
use Rattle.machine_calls.specs.declared.change.RecChange.{RecChange}
use Rattle.machine_calls.specs.declared.change.RecChange.TheVariants as changes
use Rattle.machine_step.specs.Tables.{Tables, changed}
use Rattle.machine_step.specs.Rules.{first_bad, is_rated, are_sound_marks, breaks_node, breaks_customer, is_sound_segment, is_sound_settled, is_sound_tally, is_sound_kept, bad_tariff}
use Rattle.machine_step.specs.PlanRules.{is_owed, is_exited}
use Rattle.machine_step.specs.Bounds.{Each, IsSetupWithin, IsSegmentWithin, IsSettledWithin}
use Rattle.machine_step.specs.Writable.{IsPlanKind}
use Rattle.machine_step.proofs.GrowthLemmas.{AreLater, Extends, extends_self, StayKnown}
use Rattle.machine_step.proofs.SegmentLemmas.{SegmentsGrow, segments_self, segments_trans}
use Rattle.machine_step.proofs.Hold.{SegmentsHold, SettledHold, TalliesHold, AuditHolds, RecheckHolds, RepairHolds, ContainmentsHold, KeptHold, ExitHolds, LeftHold}

-- what holds at each moment within a step in which the numbers of segments from `from` on are new. Statements are left out: while a month is closed they come one by one
pub record IsSteady (from : ℕ) (t : Tables) : Type 0 where
  pub setup : IsSetupWithin t.setup
  pub marks : are_sound_marks t.setup t.marks ≡ true
  pub marks_within : AreMarksWithin t.marks
  pub base : from ≤ t.marks.segment
  pub nodes : first_bad (breaks_node t.setup t.marks) 0 t.nodes ≡ None
  pub customers : first_bad (breaks_customer t.setup t.marks) 0 t.customers ≡ None
  pub segments : SegmentsHold t.setup t.marks t.nodes t.customers t.segments
  pub settled : SettledHold t.setup t.marks t.nodes t.settled
  pub tallies : TalliesHold t.setup t.marks t.nodes t.tallies
  pub audit : IfSome t.audit (AuditHolds from t.setup t.marks t.segments)
  pub recheck : IfSome t.recheck (RecheckHolds t.marks t.nodes)
  pub repair : IfSome t.repair (RepairHolds from t.setup t.marks t.nodes t.segments)
  pub containments : ContainmentsHold from t.setup t.segments t.containments
  pub kept : KeptHold t.marks t.nodes t.customers t.kept
  pub exit : IfSome t.exit (ExitHolds from t.setup t.marks t.nodes t.segments)
  pub left : LeftHold t.marks t.nodes t.left
  pub tariffs : bad_tariff t.setup.first_month t.tariffs ≡ None
  pub tariffs_rising : IsRising tariff_rank t.tariffs
  pub tariffs_within : Each IsTariffWithin t.tariffs

-- ---- the changes that fit

pub record MarksFit (old new : Marks) : Type 0 where
  pub later : AreLater old new
  pub time : new.time < 2 ^ 36
  pub begun : new.month.0 ≤ month_at new.time
  pub hour : new.hour.0 ≤ new.time / 3600 + 1
  pub segment : new.segment ≤ 2 ^ 63
  pub serial : new.serial ≤ 2 ^ 63
  pub plan : new.plan ≤ 2 ^ 63

-- a node in place of another
pub record IsUpdate (found node : Node) : Type 0 where
  pub addr : node.addr ≡ found.addr
  pub joined : node.joined ≡ found.joined
  pub rated : is_rated node ≡ is_rated found
  pub exited : is_exited node.status ≡ is_exited found.status

-- the next node, or one in place of another
pub data NodeFits (t : Tables) (node : Node) : Type 0 where
  next_node : node.id.0 ≡ suc (length t.nodes) → length t.nodes < t.setup.caps.nodes → is_rated node ≡ true → node.joined ≤ t.marks.time → is_exited node.status ≡ false → NodeFits t node
  update : (found : Node) → node_at t.nodes node.id ≡ Some found → IsUpdate found node → NodeFits t node

pub record CustomerFits (t : Tables) (customer : Customer) : Type 0 where
  pub id : customer.id.0 ≡ suc (length t.customers)
  pub room : length t.customers < t.setup.caps.customers
  pub added : customer.added ≤ t.marks.time

-- a new segment, or one in place of an earlier version
pub record SegmentFits (from : ℕ) (t : Tables) (segment : SegmentRecord) : Type 0 where
  pub sound : is_sound_segment t.setup t.marks t.nodes t.customers segment ≡ true
  pub within : IsSegmentWithin segment
  pub few : length (with_row segment_rank t.segments segment) ≤ t.setup.caps.segments
  pub grows : SegmentsGrow from t.segments (with_row segment_rank t.segments segment)

pub record SettledFits (t : Tables) (row : SettledRow) : Type 0 where
  pub sound : is_sound_settled t.marks t.nodes row ≡ true
  pub few : length (with_row key t.settled row) ≤ t.setup.caps.settled
  pub within : IsSettledWithin row

pub record TallyFits (t : Tables) (tally : Tally) : Type 0 where
  pub sound : is_sound_tally t.marks t.nodes tally ≡ true
  pub few : length (with_row tally_rank t.tallies tally) ≤ t.setup.caps.tallies

pub record TariffFits (t : Tables) (tariff : Tariff) : Type 0 where
  pub late : t.setup.first_month ≤ tariff.from.0
  pub few : length (with_row tariff_rank t.tariffs tariff) ≤ limits.TARIFFS
  pub within : IsTariffWithin tariff

pub record KeptFits (t : Tables) (kept : Kept) : Type 0 where
  pub sound : is_sound_kept t.marks t.nodes t.customers kept ≡ true
  pub within : IsKeptWithin kept

pub record ContainmentFits (from : ℕ) (t : Tables) (containment : Containment) : Type 0 where
  pub owed : is_owed t.setup t.segments containment ≡ true
  pub below : nat_lt containment.segment.0 from ≡ true

-- what a change is to meet where it is made. That a node has left fits nowhere by itself: it goes with a change of the node
abbrev pub FitsIn : ℕ → Tables → RecChange → Type 0
FitsIn from t (changes.Settings settings) = ⊥
FitsIn from t (changes.Marks marks) = MarksFit t.marks marks
FitsIn from t (changes.Node node) = NodeFits t node
FitsIn from t (changes.Customer customer) = CustomerFits t customer
FitsIn from t (changes.Segment segment) = SegmentFits from t segment
FitsIn from t (changes.SettledRow row) = SettledFits t row
FitsIn from t (changes.Tally tally) = TallyFits t tally
FitsIn from t (changes.Statement statement) = Unit {0}
FitsIn from t (changes.AuditPlan plan) = AuditHolds from t.setup t.marks t.segments plan
FitsIn from t (changes.RecheckPlan plan) = RecheckHolds t.marks t.nodes plan
FitsIn from t (changes.RepairPlan plan) = RepairHolds from t.setup t.marks t.nodes t.segments plan
FitsIn from t (changes.Containment containment) = ContainmentFits from t containment
FitsIn from t (changes.Kept kept) = KeptFits t kept
FitsIn from t (changes.ExitPlan exit) = ExitHolds from t.setup t.marks t.nodes t.segments exit
FitsIn from t (changes.Left left) = ⊥
FitsIn from t (changes.Tariff tariff) = TariffFits t tariff
FitsIn from t (changes.Remove (keys.Segment id)) = Unit {0}
FitsIn from t (changes.Remove (keys.Plan kind)) = IsPlanKind kind
FitsIn from t (changes.Remove (keys.Containment node)) = Unit {0}

-- each where it is made
abbrev pub AllFit : ℕ → Tables → List RecChange → Type 0
AllFit from t [] = Unit {0}
AllFit from t (change ∷ rest) = FitsIn from t change × AllFit from (changed t change) rest

-- ---- how tables grow

pub record GrowsTo (from : ℕ) (t t' : Tables) : Type 0 where
  pub setup : t'.setup ≡ t.setup
  pub later : AreLater t.marks t'.marks
  pub extends : Extends t.nodes t'.nodes
  pub stay : StayKnown t.customers t'.customers
  pub segments : SegmentsGrow from t.segments t'.segments

pub later_self : (marks : Marks) → AreLater marks marks
later_self marks = record { time = omega arith; segment = omega arith; serial = omega arith; plan = omega arith; month = omega arith; hour = omega arith }

pub grows_self : (from : ℕ) (t : Tables) → GrowsTo from t t
grows_self from t = record { setup = refl; later = later_self t.marks; extends = extends_self t.nodes; stay = λ id h. h; segments = segments_self from t.segments }

later_trans : (a b c : Marks) → AreLater a b → AreLater b c → AreLater a c
later_trans a b c f g = record {
  time = omega (arith, f.time, g.time);
  segment = omega (arith, f.segment, g.segment);
  serial = omega (arith, f.serial, g.serial);
  plan = omega (arith, f.plan, g.plan);
  month = omega (arith, f.month, g.month);
  hour = omega (arith, f.hour, g.hour);
}

extends_trans : (a b c : List Node) → Extends a b → Extends b c → Extends a c
extends_trans a b c f g = record { known = λ id h. g.known id (f.known id h); same = λ id h. g.same id (f.known id h) ∙ f.same id h }

pub grows_trans : (from later : ℕ) (a b c : Tables) → from ≤ later → GrowsTo from a b → GrowsTo later b c → GrowsTo from a c
grows_trans from later a b c le f g = record {
  setup = g.setup ∙ f.setup;
  later = later_trans a.marks b.marks c.marks f.later g.later;
  extends = extends_trans a.nodes b.nodes c.nodes f.extends g.extends;
  stay = λ id h. g.stay id (f.stay id h);
  segments = segments_trans from later a.segments b.segments c.segments le f.segments g.segments;
}
