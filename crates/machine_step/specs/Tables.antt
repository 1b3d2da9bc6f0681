-- The tables of a satellite: the records of each kind, in the order of their ids. And how one record changes.
use Rattle.std.specs.Prelude.{ℕ, ◌*◌, ◌/◌, Bool, ◌==◌, ◌||◌, nat_lt, List, [], ◌∷◌, Option, Some, None, if◌then◌else◌}
use Rattle.sat_base.specs.declared.limits.TheConstants as limits
use Rattle.sat_base.specs.declared.ids.CustomerId.{CustomerId}
use Rattle.sat_base.specs.declared.ids.SegId.{SegId}
use Rattle.sat_base.specs.declared.settings.Settings.{Settings}
use Rattle.sat_base.specs.declared.settings.Caps.{Caps}
use Rattle.sat_base.specs.declared.settings.Marks.{Marks}
use Rattle.sat_base.specs.declared.settings.Customer.{Customer}
use Rattle.sat_base.specs.declared.requests.Kept.{Kept}
use Rattle.sat_base.specs.declared.rates.Tariff.{Tariff}
use Rattle.sat_base.specs.declared.records.Containment.{Containment}
use Rattle.sat_base.specs.declared.records.Key.{Key}
use Rattle.sat_base.specs.declared.records.Key.TheVariants as keys
use Rattle.sat_base.specs.declared.kinds.TheConstants as kinds
use Rattle.sat_base.specs.Ranks.{containment_rank, customer_rank, kept_rank, tariff_rank}
use Rattle.rows.specs.Rows.{row_at, without}
use Rattle.rows.specs.Slots.{with_row}
use Rattle.node_registry.specs.declared.node.Node.{Node}
use Rattle.node_registry.specs.declared.node.Left.{Left}
use Rattle.node_registry.specs.Registry.{node_rank}
use Rattle.segment_core.specs.Record.{SegmentRecord, segment_rank}
use Rattle.settlement.specs.declared.row.SettledRow.{SettledRow}
use Rattle.settlement.specs.Rows.{key}
use Rattle.tally_payout.specs.declared.amounts.Tally.{Tally}
use Rattle.tally_payout.specs.declared.amounts.Statement.{Statement}
use Rattle.tally_payout.specs.Ranks.{tally_rank, statement_rank}
use Rattle.node_registry.specs.Left.{left_rank}
use Rattle.month_pay.specs.Ledger.{Ledger}
use Rattle.audit_core.specs.declared.plan.AuditPlan.{AuditPlan}
use Rattle.audit_core.specs.declared.rechecking.RecheckPlan.{RecheckPlan}
use Rattle.repair_core.specs.declared.plan.RepairPlan.{RepairPlan}
use Rattle.repair_core.specs.declared.plan.ExitPlan.{ExitPlan}
use Rattle.machine_calls.specs.declared.change.RecChange.{RecChange}
use Rattle.machine_calls.specs.Changes.{Doing, doing}
use Rattle.machine_calls.specs.Changes.Doing.{puts, removes}
use Rattle.record_kinds.specs.declared.rec.Rec.{Rec}
use Rattle.record_kinds.specs.declared.rec.Rec.TheVariants as records

-- what a store is set up with
pub record Setup : Type 0 where
  pub secret : List ℕ
  pub k : ℕ
  pub m : ℕ
  pub o : ℕ
  pub n : ℕ
  pub share : ℕ
  pub vet : ℕ
  pub fresh : ℕ
  pub caps : Caps
  pub first_month : ℕ

abbrev pub setup_of : Settings → Setup
setup_of settings = record {
  secret = settings.secret;
  k = settings.scheme.k;
  m = settings.scheme.m;
  o = settings.scheme.o;
  n = settings.scheme.n;
  share = settings.scheme.share;
  vet = settings.vet;
  fresh = settings.fresh;
  caps = settings.caps;
  first_month = settings.first_month.0;
}

pub record Tables : Type 0 where
  pub setup : Setup
  pub marks : Marks
  pub nodes : List Node
  pub customers : List Customer
  pub segments : List SegmentRecord
  pub settled : List SettledRow
  pub tallies : List Tally
  pub statements : List Statement
  -- the open plans, one of each kind at most
  pub audit : Option AuditPlan
  pub recheck : Option RecheckPlan
  pub repair : Option RepairPlan
  pub containments : List Containment
  pub kept : List Kept
  pub exit : Option ExitPlan
  -- the nodes that have left
  pub left : List Left
  pub tariffs : List Tariff
  -- whether the machine was stopped, which is no record
  pub stopped : Bool

-- what the pay of months goes by
abbrev pub ledger_of : Tables → Ledger
ledger_of t = record {
  first = t.setup.first_month;
  next = t.marks.month.0;
  nodes = t.nodes;
  settled = t.settled;
  tallies = t.tallies;
  left = t.left;
  tariffs = t.tariffs;
  statements = t.statements;
}

-- the most bytes of a segment: as many whole stripes as a piece of 4 MiB has shares
abbrev pub max_len_of : Setup → ℕ
max_len_of setup = limits.PIECE / setup.share * setup.k * setup.share

-- a size that no segment has
abbrev pub is_no_size : Setup → ℕ → Bool
is_no_size setup len = (len == 0) || nat_lt (max_len_of setup) len

abbrev pub customer_at : List Customer → ℕ → Option Customer
customer_at customers id = row_at customer_rank customers id

abbrev pub segment_at : List SegmentRecord → ℕ → Option SegmentRecord
segment_at segments id = row_at segment_rank segments id

-- the kept request of a caller
abbrev pub kept_at : List Kept → ℕ → Option Kept
kept_at kept caller = row_at kept_rank kept caller

-- a segment, if it is the customer's
abbrev pub if_owned : CustomerId → Option SegmentRecord → Option SegmentRecord
if_owned customer None = None
if_owned customer (Some found) = if found.customer.0 == customer.0 then Some found else None

-- the customer's segment of that id
abbrev pub owned_at : List SegmentRecord → CustomerId → SegId → Option SegmentRecord
owned_at segments customer id = if_owned customer (segment_at segments id.0)

-- ---- changes

-- a plan of one kind, once the plan of a kind is closed
abbrev pub closed : {P : Type 0} → ℕ → ℕ → Option P → Option P
closed own kind plan = if kind == own then None else plan

-- the tables without a record
abbrev pub removed : Tables → Key → Tables
removed t (keys.Segment id) = record t { segments = without segment_rank t.segments id.0 }
removed t (keys.Plan kind) = record t {
  audit = closed kinds.AUDIT_PLAN kind t.audit;
  recheck = closed kinds.RECHECK_PLAN kind t.recheck;
  repair = closed kinds.REPAIR_PLAN kind t.repair;
  exit = closed kinds.EXIT_PLAN kind t.exit;
}
removed t (keys.Containment node) = record t { containments = without containment_rank t.containments node.0 }

-- the tables with a record
abbrev pub put : Tables → Rec → Tables
put t (records.Settings settings) = record t { setup = setup_of settings }
put t (records.Marks marks) = record t { marks = marks }
put t (records.Node node) = record t { nodes = with_row node_rank t.nodes node }
put t (records.Customer customer) = record t { customers = with_row customer_rank t.customers customer }
put t (records.Segment segment) = record t { segments = with_row segment_rank t.segments segment }
put t (records.SettledRow row) = record t { settled = with_row key t.settled row }
put t (records.Tally tally) = record t { tallies = with_row tally_rank t.tallies tally }
put t (records.Statement statement) = record t { statements = with_row statement_rank t.statements statement }
put t (records.AuditPlan plan) = record t { audit = Some plan }
put t (records.RecheckPlan plan) = record t { recheck = Some plan }
put t (records.RepairPlan plan) = record t { repair = Some plan }
put t (records.Containment containment) = record t { containments = with_row containment_rank t.containments containment }
put t (records.Kept kept) = record t { kept = with_row kept_rank t.kept kept }
put t (records.ExitPlan plan) = record t { exit = Some plan }
put t (records.Left left) = record t { left = with_row left_rank t.left left }
put t (records.Tariff tariff) = record t { tariffs = with_row tariff_rank t.tariffs tariff }

-- the tables after one change
abbrev pub changed_by : Tables → Doing → Tables
changed_by t (puts rec) = put t rec
changed_by t (removes key) = removed t key

abbrev pub changed : Tables → RecChange → Tables
changed t change = changed_by t (doing change)

-- the tables after changes, in order
abbrev pub all_changed : Tables → List RecChange → Tables
all_changed t [] = t
all_changed t (change ∷ rest) = all_changed (changed t change) rest
