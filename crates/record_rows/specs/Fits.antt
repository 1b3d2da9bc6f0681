-- What is within the bounds, those of the types included: the records that rows are read as.
use Rattle.std.specs.Prelude.{ℕ, ◌<◌, ◌≤◌, List, All, length, IsSome}
use Rattle.sat_base.specs.Moments.{IsMoment}
use Rattle.sat_base.specs.Limits.{IsMonthWithin, AreCapsWithin, AreMarksWithin, IsAskedWithin, IsDoneWithin, IsKeptWithin, IsTariffWithin}
use Rattle.sat_base.specs.declared.limits.TheConstants as limits
use Rattle.sat_base.specs.declared.records.At.{At}
use Rattle.sat_base.specs.declared.records.Containment.{Containment}
use Rattle.sat_base.specs.declared.settings.Settings.{Settings}
use Rattle.sat_base.specs.declared.settings.Marks.{Marks}
use Rattle.sat_base.specs.declared.settings.Customer.{Customer}
use Rattle.sat_base.specs.declared.requests.Place.{Place}
use Rattle.sat_base.specs.declared.requests.Offer.{Offer}
use Rattle.sat_base.specs.declared.requests.Asked.{Asked}
use Rattle.sat_base.specs.declared.requests.Asked.TheVariants as asks
use Rattle.sat_base.specs.declared.requests.Done.{Done}
use Rattle.sat_base.specs.declared.requests.Done.TheVariants as dones
use Rattle.sat_base.specs.declared.requests.Kept.{Kept}
use Rattle.order_limits.specs.Order.{action_of}
use Rattle.node_registry.specs.declared.node.Node.{Node}
use Rattle.node_registry.specs.declared.node.Left.{Left}
use Rattle.segment_core.specs.Record.{SegmentRecord}
use Rattle.segment_core.specs.Places.{IsByIndex}
use Rattle.settlement.specs.declared.row.SettledRow.{SettledRow}
use Rattle.tally_payout.specs.declared.amounts.Tally.{Tally}
use Rattle.tally_payout.specs.declared.amounts.Sums.{Sums}
use Rattle.tally_payout.specs.declared.amounts.Parts.{Parts}
use Rattle.tally_payout.specs.declared.amounts.Statement.{Statement}
use Rattle.audit_core.specs.declared.plan.AuditPlan.{AuditPlan}
use Rattle.audit_core.specs.declared.rechecking.RecheckPlan.{RecheckPlan}
use Rattle.repair_core.specs.declared.plan.RepairPlan.{RepairPlan}
use Rattle.repair_core.specs.declared.plan.ExitPlan.{ExitPlan}
use Rattle.record_rows.specs.Numbers.{IsU8, IsU16, IsU32, IsU64, IsU128, IsHash}
use Rattle.record_kinds.specs.declared.rec.Rec.{Rec}
use Rattle.record_kinds.specs.declared.rec.Rec.TheVariants as rec

pub record AtFits (at : At) : Type 0 where
  pub index : IsU8 at.index
  pub node : IsU32 at.node.0

-- places of pieces: at most 128 of them, by rising index, which is below 128
pub record PlacesFit (places : List At) : Type 0 where
  pub few : length places ≤ limits.PLACES
  pub each : All AtFits places
  pub by_index : IsByIndex places
  pub low : All (λ at. at.index < limits.PLACES) places

-- from how many passed audits on a node is vetted, and the percent of places for nodes that aren't
pub record IsVetting (vet percent : ℕ) : Type 0 where
  pub some : 1 ≤ vet
  pub few : vet ≤ limits.VET
  pub fresh : percent ≤ 100

pub record SettingsFit (settings : Settings) : Type 0 where
  pub secret : IsHash settings.secret
  pub vetting : IsVetting settings.vet settings.fresh
  pub caps : AreCapsWithin settings.caps
  pub first_month : IsMonthWithin settings.first_month.0

pub record MarksFit (marks : Marks) : Type 0 where
  pub within : AreMarksWithin marks
  pub segment : IsU64 marks.segment
  pub serial : IsU64 marks.serial
  pub plan : IsU64 marks.plan

pub record NodeFits (node : Node) : Type 0 where
  pub id : IsU32 node.id.0
  pub addr : IsU32 node.addr
  pub port : IsU16 node.port
  pub free : IsU64 node.free
  pub joined : IsMoment node.joined
  pub alpha : IsU32 node.alpha
  pub beta : IsU32 node.beta
  pub passes : IsU32 node.passes

pub record CustomerFits (customer : Customer) : Type 0 where
  pub id : IsU32 customer.id.0
  pub added : IsMoment customer.added

pub record SegmentFits (segment : SegmentRecord) : Type 0 where
  pub id : IsU64 segment.id.0
  pub customer : IsU32 segment.customer.0
  pub len : IsU64 segment.len
  pub version : IsU64 segment.version
  pub pieces : PlacesFit segment.pieces

pub record SettledFits (row : SettledRow) : Type 0 where
  pub serial : IsU64 row.serial.0
  pub node : IsU32 row.node.0
  pub amount : IsU64 row.amount
  pub at : IsMoment row.at

pub record TallyFits (tally : Tally) : Type 0 where
  pub hour : tally.hour.0 ≤ limits.LAST_HOUR
  pub node : IsU32 tally.node.0
  pub bytes : IsU64 tally.bytes

pub record SumsFit (sums : Sums) : Type 0 where
  pub get : IsU128 sums.get
  pub audit : IsU128 sums.audit
  pub repair : IsU128 sums.repair
  pub byte_hours : IsU128 sums.byte_hours

pub record PartsFit (parts : Parts) : Type 0 where
  pub get : IsU128 parts.get
  pub audit : IsU128 parts.audit
  pub repair : IsU128 parts.repair
  pub storage : IsU128 parts.storage
  pub gross : IsU128 parts.gross

pub record StatementFits (statement : Statement) : Type 0 where
  pub month : IsMonthWithin statement.month.0
  pub node : IsU32 statement.node.0
  pub age : IsU32 statement.age
  pub percent : IsU8 statement.percent
  pub sums : SumsFit statement.sums
  pub parts : PartsFit statement.parts
  pub held : IsU128 statement.held
  pub paid : IsU128 statement.paid
  pub returned : IsU128 statement.returned
  pub pot : IsU128 statement.pot

pub record AuditPlanFits (plan : AuditPlan) : Type 0 where
  pub number : IsU64 plan.plan
  pub segment : IsU64 plan.segment.0
  pub version : IsU64 plan.version
  pub stripe : IsU64 plan.stripe
  pub serial : IsU64 plan.serial.0
  pub issued : IsMoment plan.issued
  pub asked : PlacesFit plan.asked

pub record RecheckPlanFits (plan : RecheckPlan) : Type 0 where
  pub number : IsU64 plan.plan
  pub serial : IsU64 plan.serial.0
  pub issued : IsMoment plan.issued
  pub node : IsU32 plan.node.0
  pub segment : IsU64 plan.segment.0
  pub index : IsU8 plan.index
  pub stripe : IsU64 plan.stripe
  pub expect : IsHash plan.expect

pub record RepairPlanFits (plan : RepairPlan) : Type 0 where
  pub number : IsU64 plan.plan
  pub segment : IsU64 plan.segment.0
  pub version : IsU64 plan.version
  pub serial : IsU64 plan.serial.0
  pub issued : IsMoment plan.issued
  pub len : IsU64 plan.len
  pub sources : PlacesFit plan.sources
  pub targets : PlacesFit plan.targets

pub record ExitPlanFits (plan : ExitPlan) : Type 0 where
  pub leaving : AtFits plan.leaving
  pub repair : RepairPlanFits plan.plan

pub record ContainmentFits (containment : Containment) : Type 0 where
  pub node : IsU32 containment.node.0
  pub segment : IsU64 containment.segment.0
  pub index : IsU8 containment.index
  pub stripe : IsU64 containment.stripe
  pub expect : IsHash containment.expect
  pub tries : IsU8 containment.tries

abbrev pub AskedFits : Asked → Type 0
AskedFits (asks.Node addr port free) = IsU32 addr × (IsU16 port × IsU64 free)
AskedFits asks.Customer = Unit {0}
AskedFits (asks.Begin len) = IsU64 len
AskedFits (asks.Commit segment indexes) = IsU64 segment.0 × All IsU8 indexes
AskedFits (asks.Get segment) = IsU64 segment.0
AskedFits (asks.Delete segment) = IsU64 segment.0

-- what was asked, its list being short too
abbrev pub IsAsked : Asked → Type 0
IsAsked asked = IsAskedWithin asked × AskedFits asked

pub record PlaceFits (place : Place) : Type 0 where
  pub index : IsU8 place.index
  pub node : IsU32 place.node.0
  pub addr : IsU32 place.addr
  pub port : IsU16 place.port

-- its action is a listed one
pub record OfferFits (offer : Offer) : Type 0 where
  pub customer : IsU32 offer.customer.0
  pub segment : IsU64 offer.segment.0
  pub serial : IsU64 offer.serial.0
  pub action : IsSome (action_of offer.action)
  pub piece_len : IsU64 offer.piece_len
  pub issued : IsMoment offer.issued
  pub places : All PlaceFits offer.places

-- it has few places, too
abbrev pub IsOfferWithin : Offer → Type 0
IsOfferWithin offer = (length offer.places ≤ limits.PLACES) × OfferFits offer

abbrev pub DoneFits : Done → Type 0
DoneFits (dones.NodeAdded node) = IsU32 node.0
DoneFits (dones.CustomerAdded customer) = IsU32 customer.0
DoneFits (dones.Offer offer) = OfferFits offer
DoneFits (dones.Committed segment) = IsU64 segment.0
DoneFits (dones.Deleted segment) = IsU64 segment.0

-- what was done, its list being short too
abbrev pub IsDone : Done → Type 0
IsDone done = IsDoneWithin done × DoneFits done

pub record KeptFits (kept : Kept) : Type 0 where
  pub within : IsKeptWithin kept
  pub caller : IsU32 kept.caller.0
  pub number : IsU64 kept.number
  pub asked : AskedFits kept.asked
  pub done : DoneFits kept.done

pub record LeftFits (left : Left) : Type 0 where
  pub node : IsU32 left.node.0
  pub at : IsMoment left.at

-- a record within the bounds
abbrev pub Fits : Rec → Type 0
Fits (rec.Settings settings) = SettingsFit settings
Fits (rec.Marks marks) = MarksFit marks
Fits (rec.Node node) = NodeFits node
Fits (rec.Customer customer) = CustomerFits customer
Fits (rec.Segment segment) = SegmentFits segment
Fits (rec.SettledRow row) = SettledFits row
Fits (rec.Tally tally) = TallyFits tally
Fits (rec.Statement statement) = StatementFits statement
Fits (rec.AuditPlan plan) = AuditPlanFits plan
Fits (rec.RecheckPlan plan) = RecheckPlanFits plan
Fits (rec.RepairPlan plan) = RepairPlanFits plan
Fits (rec.Containment containment) = ContainmentFits containment
Fits (rec.Kept kept) = KeptFits kept
Fits (rec.ExitPlan plan) = ExitPlanFits plan
Fits (rec.Left left) = LeftFits left
Fits (rec.Tariff tariff) = IsTariffWithin tariff

-- at most 128 places in each of its lists
abbrev pub IsRepairShort : RepairPlan → Type 0
IsRepairShort plan = (length plan.sources ≤ limits.PLACES) × (length plan.targets ≤ limits.PLACES)

-- at most 128 items in each of its lists
abbrev pub IsShort : Rec → Type 0
IsShort (rec.Segment segment) = length segment.pieces ≤ limits.PLACES
IsShort (rec.AuditPlan plan) = length plan.asked ≤ limits.PLACES
IsShort (rec.RepairPlan plan) = IsRepairShort plan
IsShort (rec.Kept kept) = IsKeptWithin kept
IsShort (rec.ExitPlan plan) = IsRepairShort plan.plan
IsShort _ = Unit {0}
