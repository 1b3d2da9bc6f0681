-- The rules of records by parts, in the order in which they are tested, and the tables that they are tested over.
use Rattle.std.specs.Prelude.{◌≡◌, true, false, List, [], ◌∷◌, Option}
use Rattle.sat_base.specs.Moments.{IsMoment}
use Rattle.sat_base.specs.declared.kinds.TheConstants as kinds
use Rattle.sat_base.specs.Limits.{IsTariffWithin}
use Rattle.rows.specs.Rows.{IsRising}
use Rattle.segment_core.specs.Record.{SegmentRecord}
use Rattle.settlement.specs.declared.row.SettledRow.{SettledRow}
use Rattle.settlement.specs.Rows.{key}
use Rattle.tally_payout.specs.declared.amounts.Statement.{Statement}
use Rattle.tally_payout.specs.declared.amounts.Tally.{Tally}
use Rattle.tally_payout.specs.Ranks.{tally_rank, statement_rank}
use Rattle.month_pay.specs.Keeping.{AreNodes}
use Rattle.month_sums.specs.Counting.{AreOrders, AreHours, AreSmall}
use Rattle.month_sums.specs.Open.{GoByRows, AreInBounds}
use Rattle.month_sums.specs.declared.sums.OpenSums.{OpenSums}
use Rattle.machine_calls.specs.declared.rules.TheConstants as rules
use Rattle.machine_step.specs.Bounds.{Each, IsSetupWithin}
use Rattle.machine_step.specs.Broken.{Broken, broken_marks, broken_nodes, broken_customers, broken_segments, broken_settled, broken_tallies, broken_statements, broken_plan, broken_containments, broken_kept, broken_left, broken_tariffs}
use Rattle.machine_step.specs.PlanRules.{is_sound_audit, is_sound_recheck, is_sound_repair, is_sound_exit}
use Rattle.machine_step.specs.Rules.{are_sound_marks}
use Rattle.machine_step.specs.Tables.{Tables, setup_of, ledger_of}
use Rattle.machine_store.specs.declared.untested.PaidRows.{PaidRows}
use Rattle.machine_store.specs.declared.untested.Untested.{Untested}

-- those that come before any table is made
abbrev pub front_tests : Tables → List (Option Broken)
front_tests t =
    broken_marks t.setup t.marks
    ∷ broken_nodes t.setup t.marks t.nodes
    ∷ broken_customers t.setup t.marks t.customers
    ∷ []

-- those of segments and of what pay goes by
abbrev pub paid_tests : Tables → List (Option Broken)
paid_tests t =
    broken_segments t.setup t.marks t.nodes t.customers t.segments
    ∷ broken_settled t.setup t.marks t.nodes t.settled
    ∷ broken_tallies t.setup t.marks t.nodes t.tallies
    ∷ broken_statements t.setup (ledger_of t)
    ∷ []

-- the rest
abbrev pub rest_tests : Tables → List (Option Broken)
rest_tests t =
    broken_plan rules.PLANS kinds.AUDIT_PLAN (is_sound_audit t.setup t.marks t.segments) t.audit
    ∷ broken_plan rules.PLANS kinds.RECHECK_PLAN (is_sound_recheck t.marks t.nodes) t.recheck
    ∷ broken_plan rules.PLANS kinds.REPAIR_PLAN (is_sound_repair t.setup t.marks t.nodes t.segments) t.repair
    ∷ broken_containments t.setup t.nodes t.segments t.containments
    ∷ broken_kept t.marks t.nodes t.customers t.kept
    ∷ broken_plan rules.EXIT_PLAN kinds.EXIT_PLAN (is_sound_exit t.setup t.marks t.nodes t.segments) t.exit
    ∷ broken_left t.marks t.nodes t.left
    ∷ broken_tariffs t.setup.first_month t.tariffs
    ∷ []

-- ---- the tables that are tested

abbrev pub tables_with : Untested → List SegmentRecord → List SettledRow → List Tally → List Statement → Tables
tables_with t segments settled tallies statements = record {
  setup = setup_of t.settings;
  marks = t.marks;
  nodes = t.nodes.nodes;
  customers = t.customers.rows;
  segments = segments;
  settled = settled;
  tallies = tallies;
  statements = statements;
  audit = t.plans.audit;
  recheck = t.plans.recheck;
  repair = t.plans.repair;
  containments = t.containments.items;
  kept = t.kept.items;
  exit = t.plans.exit;
  left = t.left.rows;
  tariffs = t.tariffs.items;
  stopped = false;
}

-- the tables of all records that are to be tested
abbrev pub tables_in : Untested → PaidRows → Tables
tables_in t rows = tables_with t rows.segments.items rows.settled.items rows.tallies.items rows.statements.items

-- no rule of the rest speaks of settled orders, tallies or statements
abbrev pub tables_beside : Untested → List SegmentRecord → Tables
tables_beside t segments = tables_with t segments [] [] []

-- what is known of tables before the rules of what pay goes by are tested
pub record IsOpened (t : Tables) : Type 0 where
  pub setup : IsSetupWithin t.setup
  pub marks : are_sound_marks t.setup t.marks ≡ true
  pub time : IsMoment t.marks.time
  pub nodes : AreNodes t.nodes
  pub settled : IsRising key t.settled
  pub tallies : IsRising tally_rank t.tallies
  pub statements : IsRising statement_rank t.statements
  pub tariffs : Each IsTariffWithin t.tariffs

-- and of the sums of all orders and tallies, once these keep their rules
pub record AreCounted (t : Tables) (sums : List OpenSums) : Type 0 where
  pub rows : GoByRows sums t.settled t.tallies []
  pub fit : AreInBounds sums
  pub orders : AreOrders t.settled
  pub small : AreSmall t.settled
  pub hours : AreHours t.tallies
