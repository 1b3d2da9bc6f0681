-- The tables as they are kept, and the room that is made in them.
use Rattle.std.specs.Prelude.{◌≡◌, ℕ, ◌+◌, ◌*◌, ◌^◌, ◌<◌, ◌≤◌, Bool, true, false, not, ◌&&◌, ◌||◌, ◌==◌, nat_lt, List, [], ◌∷◌, length, map, filter, Option, Some, None}
use Rattle.std.specs.List.{list_all}
use Rattle.sat_base.specs.declared.limits.TheConstants as limits
use Rattle.sat_base.specs.Moments.{IsMoment}
use Rattle.sat_base.specs.declared.ids.NodeId.{NodeId}
use Rattle.sat_base.specs.declared.records.Key.TheVariants as keys
use Rattle.sat_base.specs.declared.settings.Settings.{Settings}
use Rattle.sat_base.specs.Ranks.{containment_rank, customer_rank, kept_rank, tariff_rank}
use Rattle.rows.specs.Rows.{Each, row_at}
use Rattle.rows.specs.Slots.{has_slot}
use Rattle.node_registry.specs.declared.node.Node.{Node}
use Rattle.node_registry.specs.Left.{left_rank}
use Rattle.node_registry.specs.Registry.{Nodes, node_at}
use Rattle.node_registry.specs.Standing.{is_counted}
use Rattle.segment_core.specs.Record.{SegmentRecord}
use Rattle.segment_index.specs.declared.health.Limits.{Limits}
use Rattle.segment_index.specs.Indexed.{Indexed, IsPlaced as IsSegmentPlaced}
use Rattle.segment_index.specs.Segments.{is_gone}
use Rattle.settlement.specs.declared.row.SettledRow.{SettledRow}
use Rattle.settlement.specs.Rows.{Kept, key, row_of}
use Rattle.tally_payout.specs.declared.amounts.Statement.{Statement}
use Rattle.tally_payout.specs.declared.amounts.Tally.{Tally}
use Rattle.tally_payout.specs.Ranks.{month_place, tally_rank, statement_rank}
use Rattle.month_pay.specs.Months.{month_at, month_of_hour}
use Rattle.machine_calls.specs.declared.change.RecChange.{RecChange}
use Rattle.machine_calls.specs.declared.change.RecChange.TheVariants as changes
use Rattle.machine_step.specs.Bounds.{IsSetupWithin, IsValid}
use Rattle.machine_step.specs.Tables.{Setup, Tables, setup_of}
use Rattle.pay_tables.specs.declared.tables.PayTables.{PayTables}
use Rattle.pay_tables.specs.InStep.{IsInStep, IsShort}
use Rattle.pay_tables.specs.Placed.{IsOrderPlaced, IsTallyPlaced, IsStatementPlaced, ArePiecesPlaced}
use Rattle.machine_store.specs.declared.store.Store.{Store}

abbrev pub tables_of : Store → Tables
tables_of s = record {
  setup = setup_of s.settings;
  marks = s.marks;
  nodes = s.nodes.nodes;
  customers = s.customers.rows;
  segments = s.segments.rows;
  settled = s.settled.rows;
  tallies = s.pay.tallies.rows;
  statements = s.pay.statements.rows;
  audit = s.plans.audit;
  recheck = s.plans.recheck;
  repair = s.plans.repair;
  containments = s.containments.rows;
  kept = s.kept.rows;
  exit = s.plans.exit;
  left = s.left.rows;
  tariffs = s.tariffs.rows;
  stopped = s.stopped;
}

-- with how many healthy pieces a segment needs repair
abbrev pub limits_of : Settings → Limits
limits_of settings = record { k = settings.scheme.k; m = settings.scheme.m }

-- the pieces on a node of the table don't count
abbrev pub is_lost : Option Node → Bool
is_lost None = false
is_lost (Some node) = not (is_counted node.status)

-- the nodes whose pieces don't count
abbrev pub lost_ids : List Node → List NodeId
lost_ids nodes = map (λ node. node.id) (filter (λ node. not (is_counted node.status)) nodes)

-- the index of segments knows the nodes whose pieces don't count, or is to count them as lost
abbrev pub KnowsLost : List Node → Indexed → Type 0
KnowsLost nodes index = (id : NodeId) → (is_gone index.gone id || is_gone index.pending id) ≡ is_lost (node_at nodes id)

-- what pay goes by is in step with these segments and some settled orders
pub record KeepsStep (setup : Setup) (segments : List SegmentRecord) (p : PayTables) : Type 0 where
  pub settled : List SettledRow
  pub step : IsInStep setup segments settled p

-- what is kept beside the tables goes by them
pub record GoesByTables (s : Store) : Type 0 where
  pub setup : IsSetupWithin (setup_of s.settings)
  pub keys : s.keys ≡ s.settings.secret
  pub cap : s.settled.cap ≡ s.settings.caps.settled
  pub limits : s.segments.limits ≡ limits_of s.settings
  pub lost : KnowsLost s.nodes.nodes s.segments
  pub pay : IsInStep (setup_of s.settings) s.segments.rows s.settled.rows s.pay

-- what is kept of every store: its tables keep every rule
pub record KeepsRules (s : Store) : Type 0 where
  pub valid : IsValid (tables_of s)
  pub own : GoesByTables s

-- ---- what can be placed

-- a node is there, or is the next one; and its pieces don't count again
pub record IsNodePlaceable (nodes : List Node) (node : Node) : Type 0 where
  pub low : 1 ≤ node.id.0
  pub high : node.id.0 ≤ length nodes + 1
  pub next : node.id.0 ≡ length nodes + 1 → length nodes < limits.NODES
  pub stays : is_lost (node_at nodes node.id) ≡ true → is_counted node.status ≡ false

-- a row is a new one, below the cap
pub record IsRowPlaceable (rows : List SettledRow) (cap : ℕ) (row : SettledRow) : Type 0 where
  pub below : length rows < cap
  pub absent : row_of rows (key row) ≡ None

-- a node has no statement of a month yet
abbrev pub IsOpenIn : Tables → ℕ → NodeId → Type 0
IsOpenIn t month node = row_at statement_rank t.statements (month_place month node.0) ≡ None

-- an order is of a month without a statement, too
pub record IsSettledPlaceable (t : Tables) (order : SettledRow) : Type 0 where
  pub row : IsRowPlaceable t.settled t.setup.caps.settled order
  pub unstated : IsOpenIn t (month_at order.at) order.node

-- a tally is a new one of a month without a statement, within its bounds
pub record IsTallyPlaceable (t : Tables) (tally : Tally) : Type 0 where
  pub absent : row_at tally_rank t.tallies (tally_rank tally) ≡ None
  pub unstated : IsOpenIn t (month_of_hour tally.hour.0) tally.node
  pub small : tally.bytes ≤ 2 ^ 44
  pub early : IsMoment (tally.hour.0 * 3600)

-- a statement comes behind all others
abbrev pub IsStatementPlaceable : Tables → Statement → Type 0
IsStatementPlaceable t s = Each (λ row. statement_rank row < statement_rank s) t.statements

-- settings can't be placed
abbrev pub IsPlaceable : Tables → RecChange → Type 0
IsPlaceable t (changes.Settings r) = ⊥
IsPlaceable t (changes.Node r) = IsNodePlaceable t.nodes r
IsPlaceable t (changes.Segment r) = IsShort r
IsPlaceable t (changes.SettledRow r) = IsSettledPlaceable t r
IsPlaceable t (changes.Tally r) = IsTallyPlaceable t r
IsPlaceable t (changes.Statement r) = IsStatementPlaceable t r
IsPlaceable t _ = Unit {0}

abbrev pub ArePlaceable : Tables → List RecChange → Type 0
ArePlaceable t [] = Unit {0}
ArePlaceable t (first ∷ rest) = IsPlaceable t first × ArePlaceable t rest

-- ---- what is placed

-- there is room for the node, if it is the next one
pub record IsNodePlaced (nodes : Nodes) (node : Node) : Type 0 where
  pub low : 1 ≤ node.id.0
  pub high : node.id.0 ≤ length nodes.nodes + 1
  pub next : node.id.0 ≡ length nodes.nodes + 1 → (0 < nodes.spare_nodes) × (length nodes.nodes < limits.NODES)

-- the pieces on a node that are counted as lost don't count again
abbrev pub StaysLost : List NodeId → Node → Type 0
StaysLost gone node = is_gone gone node.id ≡ true → is_counted node.status ≡ false

pub record IsRowPlaced (settled : Kept) (row : SettledRow) : Type 0 where
  pub room : 1 ≤ settled.spare
  pub below : length settled.rows < settled.cap
  pub absent : row_of settled.rows (key row) ≡ None

-- room in the index, and for the bytes of its pieces
pub record IsSegmentPlacedIn (s : Store) (segment : SegmentRecord) : Type 0 where
  pub index : IsSegmentPlaced s.segments segment
  pub pieces : ArePiecesPlaced s.pay segment.pieces
  pub short : IsShort segment

-- room for the row, and for what it counts
pub record IsSettledPlaced (s : Store) (one : SettledRow) : Type 0 where
  pub row : IsRowPlaced s.settled one
  pub order : IsOrderPlaced s.pay one

-- there is room for the record that the change puts
abbrev pub IsPlaced : Store → RecChange → Type 0
IsPlaced s (changes.Settings r) = ⊥
IsPlaced s (changes.Node r) = IsNodePlaced s.nodes r × StaysLost s.segments.gone r
IsPlaced s (changes.Customer r) = has_slot s.customers (customer_rank r) ≡ true
IsPlaced s (changes.Segment r) = IsSegmentPlacedIn s r
IsPlaced s (changes.SettledRow r) = IsSettledPlaced s r
IsPlaced s (changes.Tally r) = IsTallyPlaced s.pay r
IsPlaced s (changes.Statement r) = IsStatementPlaced s.pay r
IsPlaced s (changes.Containment r) = has_slot s.containments (containment_rank r) ≡ true
IsPlaced s (changes.Kept r) = has_slot s.kept (kept_rank r) ≡ true
IsPlaced s (changes.Left r) = has_slot s.left (left_rank r) ≡ true
IsPlaced s (changes.Tariff r) = has_slot s.tariffs (tariff_rank r) ≡ true
IsPlaced s _ = Unit {0}

-- for each record that the changes put
abbrev pub ArePlaced : Store → List RecChange → Type 0
ArePlaced s [] = Unit {0}
ArePlaced s (first ∷ rest) = IsPlaced s first × ArePlaced s rest

-- there is room for the records, and for as many nodes that stop serving
pub record HasRoom (s : Store) (changes : List RecChange) : Type 0 where
  pub placed : ArePlaced s changes
  pub losses : length changes ≤ s.segments.room.lost

-- ---- changes that don't take each other's room

-- a change leaves room for a later one: after the removal of a segment none is put, after that of a containment none, and one segment and one settled row are all. No tally comes twice; statements come in their order, and no order or tally behind one
abbrev pub spares : RecChange → RecChange → Bool
spares (changes.Remove (keys.Segment id)) (changes.Segment segment) = false
spares (changes.Remove (keys.Containment node)) (changes.Containment containment) = false
spares (changes.Segment segment) (changes.Segment other) = false
spares (changes.SettledRow row) (changes.SettledRow other) = false
spares (changes.Tally tally) (changes.Tally other) = not (tally_rank tally == tally_rank other)
spares (changes.Statement statement) (changes.Statement other) = nat_lt (statement_rank statement) (statement_rank other)
spares (changes.Statement statement) (changes.Tally tally) = false
spares (changes.Statement statement) (changes.SettledRow row) = false
spares _ _ = true

-- each leaves room for all the later ones
abbrev pub are_orderly : List RecChange → Bool
are_orderly [] = true
are_orderly (first ∷ rest) = list_all (spares first) rest && are_orderly rest
