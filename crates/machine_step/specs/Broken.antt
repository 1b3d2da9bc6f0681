-- The first rule that given tables break, and the first record that breaks it.
use Rattle.std.specs.Prelude.{ℕ, Bool, if◌then◌else◌, List, [], ◌∷◌, ◌++◌, Option, Some, None}
use Rattle.std.specs.Option.{option_map}
use Rattle.std.specs.Int.{w32, w64, to_be_bytes}
use Rattle.sat_base.specs.declared.records.Containment.{Containment}
use Rattle.sat_base.specs.declared.settings.Marks.{Marks}
use Rattle.sat_base.specs.declared.settings.Customer.{Customer}
use Rattle.sat_base.specs.declared.requests.Kept.{Kept}
use Rattle.sat_base.specs.declared.rates.Tariff.{Tariff}
use Rattle.sat_base.specs.declared.kinds.TheConstants as kinds
use Rattle.node_registry.specs.declared.node.Node.{Node}
use Rattle.node_registry.specs.declared.node.Left.{Left}
use Rattle.segment_core.specs.Record.{SegmentRecord}
use Rattle.settlement.specs.declared.row.SettledRow.{SettledRow}
use Rattle.tally_payout.specs.declared.amounts.Tally.{Tally}
use Rattle.month_pay.specs.Ledger.{Ledger}
use Rattle.machine_calls.specs.declared.rules.TheConstants as rules
use Rattle.machine_step.specs.Tables.{Setup, Tables, ledger_of}
use Rattle.machine_step.specs.Rules.{first_bad, are_sound_marks, breaks_node, breaks_customer, breaks_segment, breaks_settled, breaks_tally, bad_statement, breaks_kept, bad_tariff}
use Rattle.machine_step.specs.PlanRules.{is_none_or, is_sound_audit, is_sound_recheck, is_sound_repair, breaks_containment, is_sound_exit, bad_left}

-- a rule that is broken, and the first record that breaks it: its kind, and its id's bytes
pub record Broken : Type 0 where
  pub rule : ℕ
  pub kind : ℕ
  pub id : List ℕ

abbrev pub broken : ℕ → ℕ → List ℕ → Broken
broken rule kind id = record { rule = rule; kind = kind; id = id }

abbrev pub or_else : Option Broken → Option Broken → Option Broken
or_else None other = other
or_else (Some first) other = Some first

-- ---- the id of a record, in bytes

abbrev pub settled_id : SettledRow → List ℕ
settled_id row = to_be_bytes w64 row.serial.0 ++ to_be_bytes w32 row.node.0

abbrev pub tally_id : Tally → List ℕ
tally_id tally = to_be_bytes w64 tally.hour.0 ++ to_be_bytes w32 tally.node.0

-- ---- the first record that breaks each rule

abbrev pub broken_marks : Setup → Marks → Option Broken
broken_marks setup marks = if are_sound_marks setup marks then None else Some (broken rules.MARKS kinds.MARKS [])

abbrev pub broken_nodes : Setup → Marks → List Node → Option Broken
broken_nodes setup marks nodes = option_map (λ node. broken rules.NODES kinds.NODE (to_be_bytes w32 node.id.0)) (first_bad (breaks_node setup marks) 0 nodes)

abbrev pub broken_customers : Setup → Marks → List Customer → Option Broken
broken_customers setup marks customers =
    option_map (λ customer. broken rules.CUSTOMERS kinds.CUSTOMER (to_be_bytes w32 customer.id.0)) (first_bad (breaks_customer setup marks) 0 customers)

abbrev pub broken_segments : Setup → Marks → List Node → List Customer → List SegmentRecord → Option Broken
broken_segments setup marks nodes customers segments =
    option_map (λ segment. broken rules.SEGMENTS kinds.SEGMENT (to_be_bytes w64 segment.id.0)) (first_bad (breaks_segment setup marks nodes customers) 0 segments)

abbrev pub broken_settled : Setup → Marks → List Node → List SettledRow → Option Broken
broken_settled setup marks nodes rows = option_map (λ row. broken rules.SETTLED kinds.SETTLED_ROW (settled_id row)) (first_bad (breaks_settled setup marks nodes) 0 rows)

abbrev pub broken_tallies : Setup → Marks → List Node → List Tally → Option Broken
broken_tallies setup marks nodes tallies = option_map (λ tally. broken rules.TALLIES kinds.TALLY (tally_id tally)) (first_bad (breaks_tally setup marks nodes) 0 tallies)

-- the month and the node are four bytes each
abbrev pub broken_statements : Setup → Ledger → Option Broken
broken_statements setup ledger = option_map (λ place. broken rules.STATEMENTS kinds.STATEMENT (to_be_bytes w64 place)) (bad_statement setup ledger)

-- an open plan of a kind that isn't sound
abbrev pub broken_plan : {P : Type 0} → ℕ → ℕ → (P → Bool) → Option P → Option Broken
broken_plan rule kind sound plan = if is_none_or sound plan then None else Some (broken rule kind [])

abbrev pub broken_containments : Setup → List Node → List SegmentRecord → List Containment → Option Broken
broken_containments setup nodes segments rows =
    option_map (λ containment. broken rules.CONTAINMENTS kinds.CONTAINMENT (to_be_bytes w32 containment.node.0)) (first_bad (breaks_containment setup nodes segments) 0 rows)

abbrev pub broken_kept : Marks → List Node → List Customer → List Kept → Option Broken
broken_kept marks nodes customers rows = option_map (λ kept. broken rules.KEPT kinds.KEPT (to_be_bytes w32 kept.caller.0)) (first_bad (breaks_kept marks nodes customers) 0 rows)

abbrev pub broken_left : Marks → List Node → List Left → Option Broken
broken_left marks nodes rows = option_map (λ node. broken rules.LEFT kinds.LEFT (to_be_bytes w32 node)) (bad_left marks nodes rows)

abbrev pub broken_tariffs : ℕ → List Tariff → Option Broken
broken_tariffs first tariffs = option_map (λ month. broken rules.TARIFFS kinds.TARIFF (to_be_bytes w32 month)) (bad_tariff first tariffs)

-- the first of these that is there
abbrev pub first_some : List (Option Broken) → Option Broken
first_some [] = None
first_some (first ∷ rest) = or_else first (first_some rest)

-- the least rule that is broken
abbrev pub first_broken : Tables → Option Broken
first_broken t = first_some (
    broken_marks t.setup t.marks
    ∷ broken_nodes t.setup t.marks t.nodes
    ∷ broken_customers t.setup t.marks t.customers
    ∷ broken_segments t.setup t.marks t.nodes t.customers t.segments
    ∷ broken_settled t.setup t.marks t.nodes t.settled
    ∷ broken_tallies t.setup t.marks t.nodes t.tallies
    ∷ broken_statements t.setup (ledger_of t)
    ∷ broken_plan rules.PLANS kinds.AUDIT_PLAN (is_sound_audit t.setup t.marks t.segments) t.audit
    ∷ broken_plan rules.PLANS kinds.RECHECK_PLAN (is_sound_recheck t.marks t.nodes) t.recheck
    ∷ broken_plan rules.PLANS kinds.REPAIR_PLAN (is_sound_repair t.setup t.marks t.nodes t.segments) t.repair
    ∷ broken_containments t.setup t.nodes t.segments t.containments
    ∷ broken_kept t.marks t.nodes t.customers t.kept
    ∷ broken_plan rules.EXIT_PLAN kinds.EXIT_PLAN (is_sound_exit t.setup t.marks t.nodes t.segments) t.exit
    ∷ broken_left t.marks t.nodes t.left
    ∷ broken_tariffs t.setup.first_month t.tariffs
    ∷ [])
