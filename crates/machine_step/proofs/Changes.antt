-- Each change that fits keeps what holds.
use Rattle.std.proofs.Common.{◌≡◌, ℕ, ◌≤◌, Bool, true, false, List, Option, Some, None, IfSome, arith}
use Rattle.std.specs.Prelude.{if◌then◌else◌, nat_lt, ◌==◌}
use Rattle.std.proofs.lemmas.Bool.Decides.{nat_tests}
use Rattle.sat_base.specs.declared.limits.TheConstants as limits
use Rattle.sat_base.specs.declared.kinds.TheConstants as kinds
use Rattle.sat_base.specs.declared.records.Containment.{Containment}
use Rattle.sat_base.specs.declared.records.Key.TheVariants as keys
use Rattle.sat_base.specs.declared.settings.Marks.{Marks}
use Rattle.sat_base.specs.declared.settings.Customer.{Customer}
use Rattle.sat_base.specs.declared.requests.Kept.{Kept}
use Rattle.sat_base.specs.declared.rates.Tariff.{Tariff}
use Rattle.sat_base.specs.Limits.{AreMarksWithin, IsTariffWithin}
use Rattle.sat_base.specs.Ranks.{containment_rank, customer_rank, kept_rank, tariff_rank}
use Rattle.rows.specs.Rows.{Each, without, IsRising}
use Rattle.rows.proofs.Rising.{rising-without}
use Rattle.rows.specs.Slots.{with_row}
use Rattle.node_registry.specs.declared.node.Node.{Node}
use Rattle.node_registry.specs.declared.node.Left.{Left}
use Rattle.node_registry.specs.Registry.{node_rank, node_at}
use Rattle.segment_core.specs.Record.{SegmentRecord, segment_rank}
use Rattle.settlement.specs.declared.row.SettledRow.{SettledRow}
use Rattle.settlement.specs.Rows.{key}
use Rattle.tally_payout.specs.declared.amounts.Tally.{Tally}
use Rattle.tally_payout.specs.declared.amounts.Statement.{Statement}
use Rattle.tally_payout.specs.Ranks.{tally_rank, statement_rank}
use Rattle.audit_core.specs.declared.plan.AuditPlan.{AuditPlan}
use Rattle.audit_core.specs.declared.rechecking.RecheckPlan.{RecheckPlan}
use Rattle.repair_core.specs.declared.plan.RepairPlan.{RepairPlan}
use Rattle.repair_core.specs.declared.plan.ExitPlan.{ExitPlan}
use Rattle.machine_calls.specs.declared.change.RecChange.{RecChange}
use Rattle.machine_calls.specs.declared.change.RecChange.TheVariants as changes
use Rattle.machine_step.specs.Tables.{Tables, segment_at, closed, removed, changed}
use Rattle.machine_step.specs.Rules.{first_bad, are_sound_marks, breaks_node, breaks_customer, is_sound_segment, is_sound_settled, is_sound_tally, is_sound_kept, bad_tariff}
use Rattle.machine_step.specs.PlanRules.{is_owed, is_exited, is_sound_left, is_accounted}
use Rattle.machine_step.proofs.GrowthLemmas.{AreLater, marks-later, Extends, extends_self, extends_next, extends_set, customer_more, nodes-later, nodes-next, nodes-set, none_next, customers-later, customers-next, IsFine, fine, Grows, segment-later, settled-later, tally-later, kept-later}
use Rattle.machine_step.proofs.SegmentLemmas.{SegmentsGrow, segments_self, segments_less}
use Rattle.machine_step.proofs.PlanLemmas.{owed-later, audit-later, recheck-later, repair-later, exit-later}
use Rattle.machine_step.proofs.RowLemmas.{row_at-with_row, rank-found, rising-with_row, all-with_row, all-without, each-with_row, all-found}
use Rattle.month_pay.proofs.LastMonth.{month_most}
use Rattle.machine_step.specs.Bounds.{IsSettledWithin}
use Rattle.machine_step.proofs.TariffLemmas.{tariff_put}
use Rattle.machine_step.proofs.Hold.{SegmentsHold, SettledHold, TalliesHold, KeptHold, segments_put, fewer_segments, kept_put, AuditHolds, RecheckHolds, RepairHolds, ExitHolds, ContainmentsHold, LeftHold}
use Rattle.machine_step.proofs.Steady.{IsSteady, MarksFit, NodeFits, CustomerFits, SegmentFits, SettledFits, TallyFits, TariffFits, KeptFits, ContainmentFits, FitsIn, later_self}
use Rattle.machine_step.proofs.Steady.NodeFits.{next_node, update}
use Rattle.month_pay.proofs.ListFacts.{all-weaker}

pub some_map : {X : Type 0} (P Q : X → Type 0) (found : Option X) → ((x : X) → P x → Q x) → IfSome found P → IfSome found Q
some_map P Q None so h = h
some_map P Q (Some x) so h = so x h

-- a plan that is closed or stays
kept_open : {X : Type 0} (P : X → Type 0) (own kind : ℕ) (found : Option X) → IfSome found P → IfSome (closed own kind found) P
kept_open P own kind found h = go (kind == own)
  where
    go : (b : Bool) → IfSome (if b then None else found) P
    go true = tt
    go false = h

module _ (from : ℕ) (t : Tables) (s : IsSteady from t) where
  -- the facts of a segment that is found
  pub found_fine : (id : ℕ) (found : SegmentRecord) → segment_at t.segments id ≡ Some found → IsFine t.setup t.marks t.nodes t.customers found
  found_fine id found at = fine t.setup t.marks t.nodes t.customers found (all-found segment_rank (is_sound_segment t.setup t.marks t.nodes t.customers) t.segments id found s.segments.all at)

  -- other marks, nodes, customers and segments
  module _ (marks : Marks) (nodes : List Node) (customers : List Customer) (grows : Grows t.marks marks t.nodes nodes t.customers customers) where
    segments_grown : SegmentsHold t.setup marks nodes customers t.segments
    segments_grown = record {
      all = all-weaker (is_sound_segment t.setup t.marks t.nodes t.customers) (is_sound_segment t.setup marks nodes customers) (segment-later t.setup t.marks marks t.nodes nodes t.customers customers grows) t.segments s.segments.all;
      few = s.segments.few;
      rising = s.segments.rising;
      within = s.segments.within;
    }

    steady_context : (segments : List SegmentRecord) (left : List Left) → SegmentsGrow from t.segments segments → are_sound_marks t.setup marks ≡ true → AreMarksWithin marks
        → first_bad (breaks_node t.setup marks) 0 nodes ≡ None → first_bad (breaks_customer t.setup marks) 0 customers ≡ None
        → SegmentsHold t.setup marks nodes customers segments → LeftHold marks nodes left
        → IsSteady from (record t { marks = marks; nodes = nodes; customers = customers; segments = segments; left = left })
    steady_context segments left grow sound within nodes_hold customers_hold segments_hold left_hold =
        let later = grows.later in
        let extends = grows.extends in
        record {
          setup = s.setup;
          marks = sound;
          marks_within = within;
          base = omega (arith, s.base, later.segment);
          nodes = nodes_hold;
          customers = customers_hold;
          segments = segments_hold;
          settled = record {
            all = all-weaker (is_sound_settled t.marks t.nodes) (is_sound_settled marks nodes) (settled-later t.setup t.marks marks t.nodes nodes t.customers customers grows) t.settled s.settled.all;
            few = s.settled.few;
            rising = s.settled.rising;
            within = s.settled.within;
          };
          tallies = record {
            all = all-weaker (is_sound_tally t.marks t.nodes) (is_sound_tally marks nodes) (tally-later t.setup t.marks marks t.nodes nodes t.customers customers grows) t.tallies s.tallies.all;
            few = s.tallies.few;
            rising = s.tallies.rising;
          };
          kept = record {
            all = all-weaker (is_sound_kept t.marks t.nodes t.customers) (is_sound_kept marks nodes customers) (kept-later t.setup t.marks marks t.nodes nodes t.customers customers grows) t.kept s.kept.all;
            rising = s.kept.rising;
            within = s.kept.within;
          };
          audit = some_map (AuditHolds from t.setup t.marks t.segments) (AuditHolds from t.setup marks segments) t.audit (λ plan h. record { sound = audit-later from t.segments segments grow t.setup t.marks marks t.nodes nodes later extends plan h.below h.sound; below = h.below; within = h.within }) s.audit;
          recheck = some_map (RecheckHolds t.marks t.nodes) (RecheckHolds marks nodes) t.recheck (λ plan h. record { sound = recheck-later from t.segments segments grow t.setup t.marks marks t.nodes nodes later extends plan h.sound }) s.recheck;
          repair = some_map (RepairHolds from t.setup t.marks t.nodes t.segments) (RepairHolds from t.setup marks nodes segments) t.repair (λ plan h. record { sound = repair-later from t.segments segments grow t.setup t.marks marks t.nodes nodes later extends plan h.below (λ found at. (found_fine plan.segment.0 found at).known) h.sound; below = h.below; within = h.within }) s.repair;
          containments = record { owed = owed-later from t.segments segments grow t.setup t.containments s.containments.below s.containments.owed; below = s.containments.below; rising = s.containments.rising };
          exit = some_map (ExitHolds from t.setup t.marks t.nodes t.segments) (ExitHolds from t.setup marks nodes segments) t.exit (λ exit h. record { sound = exit-later from t.segments segments grow t.setup t.marks marks t.nodes nodes later extends exit h.below h.sound; below = h.below; within = h.within }) s.exit;
          left = left_hold;
          tariffs = s.tariffs;
          tariffs_rising = s.tariffs_rising;
          tariffs_within = s.tariffs_within;
        }

  -- ---- marks

  left_later : (marks : Marks) → AreLater t.marks marks → LeftHold marks t.nodes t.left
  left_later marks later = record {
    all = all-weaker (is_sound_left t.marks t.nodes) (is_sound_left marks t.nodes) (λ (row : Left) h. let le : t.marks.time ≤ marks.time = later.time in grind (arith, nat_tests, h, le)) t.left s.left.all;
    accounted = s.left.accounted;
    rising = s.left.rising;
  }

  steady_marks : (marks : Marks) → MarksFit t.marks marks → IsSteady from (record t { marks = marks })
  steady_marks marks fit =
      let later = fit.later in
      let grows : Grows t.marks marks t.nodes t.nodes t.customers t.customers = record { later = later; extends = extends_self t.nodes; stay = λ id h. h } in
      steady_context marks t.nodes t.customers grows t.segments t.left (segments_self from t.segments)
      (marks-later t.setup t.marks marks later fit.begun fit.hour fit.segment fit.serial fit.plan s.marks)
      (record { time = fit.time; month = (omega (arith, s.marks_within.month.0, later.month), omega (arith, fit.begun, month_most marks.time fit.time)); hour = omega (arith, fit.hour, fit.time) })
      (nodes-later t.setup t.marks marks later.time t.nodes 0 s.nodes) (customers-later t.setup t.marks marks later.time t.customers 0 s.customers)
      (segments_grown marks t.nodes t.customers grows) (left_later marks later)

  -- ---- nodes

  steady_nodes : (nodes : List Node) → Extends t.nodes nodes → first_bad (breaks_node t.setup t.marks) 0 nodes ≡ None → LeftHold t.marks nodes t.left → IsSteady from (record t { nodes = nodes })
  steady_nodes nodes extends hold left =
      let grows : Grows t.marks t.marks t.nodes nodes t.customers t.customers = record { later = later_self t.marks; extends = extends; stay = λ id h. h } in
      steady_context t.marks nodes t.customers grows t.segments t.left (segments_self from t.segments) s.marks s.marks_within hold s.customers
      (segments_grown t.marks nodes t.customers grows) left

  -- nodes and the rows of those that left
  pub steady_leaving : (nodes : List Node) (left : List Left) → Extends t.nodes nodes → first_bad (breaks_node t.setup t.marks) 0 nodes ≡ None → LeftHold t.marks nodes left → IsSteady from (record t { nodes = nodes; left = left })
  steady_leaving nodes left extends hold left_hold =
      let grows : Grows t.marks t.marks t.nodes nodes t.customers t.customers = record { later = later_self t.marks; extends = extends; stay = λ id h. h } in
      steady_context t.marks nodes t.customers grows t.segments left (segments_self from t.segments) s.marks s.marks_within hold s.customers
      (segments_grown t.marks nodes t.customers grows) left_hold

  left_next : (node : Node) → node_at t.nodes node.id ≡ None → is_exited node.status ≡ false → LeftHold t.marks (with_row node_rank t.nodes node) t.left
  left_next node none fresh = record {
    all = all-weaker (is_sound_left t.marks t.nodes) (is_sound_left t.marks (with_row node_rank t.nodes node)) (λ (row : Left) h. grind (arith, nat_tests, h, none, row_at-with_row node_rank t.nodes node row.node.0)) t.left s.left.all;
    accounted = all-with_row node_rank (is_accounted t.left) t.nodes node s.left.accounted (grind (arith, nat_tests, fresh));
    rising = s.left.rising;
  }

  left_set : (node found : Node) → node_at t.nodes node.id ≡ Some found → is_exited node.status ≡ is_exited found.status → LeftHold t.marks (with_row node_rank t.nodes node) t.left
  left_set node found there same =
      let account = all-found node_rank (is_accounted t.left) t.nodes node.id.0 found s.left.accounted there in
      let own : found.id.0 ≡ node.id.0 = rank-found node_rank t.nodes node.id.0 found there in
      record {
        all = all-weaker (is_sound_left t.marks t.nodes) (is_sound_left t.marks (with_row node_rank t.nodes node)) (λ (row : Left) h. grind (arith, nat_tests, h, there, same, row_at-with_row node_rank t.nodes node row.node.0)) t.left s.left.all;
        accounted = all-with_row node_rank (is_accounted t.left) t.nodes node s.left.accounted (rw (same, ← own) account);
        rising = s.left.rising;
      }

  steady_node : (node : Node) → NodeFits t node → IsSteady from (record t { nodes = with_row node_rank t.nodes node })
  steady_node node (next_node id room rated joined fresh) =
      let none : node_at t.nodes node.id ≡ None = none_next t.setup t.marks t.nodes 0 node.id.0 s.nodes (omega (arith, id)) in
      steady_nodes (with_row node_rank t.nodes node) (extends_next t.nodes node none)
      (nodes-next t.setup t.marks node t.nodes 0 s.nodes (omega (arith, id)) (omega (arith, room)) rated joined) (left_next node none fresh)
  steady_node node (update found there new) =
      steady_nodes (with_row node_rank t.nodes node) (extends_set t.nodes node found there new.addr)
      (nodes-set t.setup t.marks node found t.nodes 0 s.nodes there new.rated new.joined) (left_set node found there new.exited)

  -- ---- customers and segments

  steady_customer : (customer : Customer) → CustomerFits t customer → IsSteady from (record t { customers = with_row customer_rank t.customers customer })
  steady_customer customer fit =
      let customers = with_row customer_rank t.customers customer in
      let grows : Grows t.marks t.marks t.nodes t.nodes t.customers customers = record { later = later_self t.marks; extends = extends_self t.nodes; stay = customer_more t.customers customer } in
      steady_context t.marks t.nodes customers grows t.segments t.left (segments_self from t.segments) s.marks s.marks_within s.nodes
      (customers-next t.setup t.marks customer t.customers 0 s.customers (omega (arith, fit.id)) (omega (arith, fit.room)) fit.added)
      (segments_grown t.marks t.nodes customers grows) s.left

  steady_segments : (segments : List SegmentRecord) → SegmentsGrow from t.segments segments → SegmentsHold t.setup t.marks t.nodes t.customers segments → IsSteady from (record t { segments = segments })
  steady_segments segments grow hold =
      let grows : Grows t.marks t.marks t.nodes t.nodes t.customers t.customers = record { later = later_self t.marks; extends = extends_self t.nodes; stay = λ id h. h } in
      steady_context t.marks t.nodes t.customers grows segments t.left grow s.marks s.marks_within s.nodes s.customers hold s.left

  steady_segment : (segment : SegmentRecord) → SegmentFits from t segment → IsSteady from (record t { segments = with_row segment_rank t.segments segment })
  steady_segment segment fit = steady_segments (with_row segment_rank t.segments segment) fit.grows (segments_put t.setup t.marks t.nodes t.customers t.segments segment s.segments fit.sound fit.within fit.few)

  -- ---- records on which no other rule stands

  -- lists and plans that no other rule reads
  steady_own : (settled : List SettledRow) (audit : Option AuditPlan) (recheck : Option RecheckPlan) (repair : Option RepairPlan) (containments : List Containment) (kept : List Kept) (exit : Option ExitPlan)
      → SettledHold t.setup t.marks t.nodes settled → IfSome audit (AuditHolds from t.setup t.marks t.segments) → IfSome recheck (RecheckHolds t.marks t.nodes) → IfSome repair (RepairHolds from t.setup t.marks t.nodes t.segments)
      → ContainmentsHold from t.setup t.segments containments → KeptHold t.marks t.nodes t.customers kept → IfSome exit (ExitHolds from t.setup t.marks t.nodes t.segments)
      → IsSteady from (record t { settled = settled; audit = audit; recheck = recheck; repair = repair; containments = containments; kept = kept; exit = exit })
  steady_own settled audit recheck repair containments kept exit settled_hold audit_holds recheck_holds repair_holds containments_hold kept_hold exit_holds = record {
    setup = s.setup;
    marks = s.marks;
    marks_within = s.marks_within;
    base = s.base;
    nodes = s.nodes;
    customers = s.customers;
    segments = s.segments;
    settled = settled_hold;
    tallies = s.tallies;
    audit = audit_holds;
    recheck = recheck_holds;
    repair = repair_holds;
    containments = containments_hold;
    kept = kept_hold;
    exit = exit_holds;
    left = s.left;
    tariffs = s.tariffs;
    tariffs_rising = s.tariffs_rising;
    tariffs_within = s.tariffs_within;
  }

  steady_settled : (row : SettledRow) → SettledFits t row → IsSteady from (record t { settled = with_row key t.settled row })
  steady_settled row fit =
      steady_own (with_row key t.settled row) t.audit t.recheck t.repair t.containments t.kept t.exit
      (record { all = all-with_row key (is_sound_settled t.marks t.nodes) t.settled row s.settled.all fit.sound; few = fit.few; rising = rising-with_row key t.settled row s.settled.rising; within = each-with_row key IsSettledWithin t.settled row s.settled.within fit.within })
      s.audit s.recheck s.repair s.containments s.kept s.exit

  -- tallies, statements and tariffs
  steady_pay : (tallies : List Tally) (statements : List Statement) (tariffs : List Tariff) → TalliesHold t.setup t.marks t.nodes tallies
      → bad_tariff t.setup.first_month tariffs ≡ None → IsRising tariff_rank tariffs → Each IsTariffWithin tariffs → IsSteady from (record t { tallies = tallies; statements = statements; tariffs = tariffs })
  steady_pay tallies statements tariffs tallies_hold tariffs_hold rising within = record {
    setup = s.setup;
    marks = s.marks;
    marks_within = s.marks_within;
    base = s.base;
    nodes = s.nodes;
    customers = s.customers;
    segments = s.segments;
    settled = s.settled;
    tallies = tallies_hold;
    audit = s.audit;
    recheck = s.recheck;
    repair = s.repair;
    containments = s.containments;
    kept = s.kept;
    exit = s.exit;
    left = s.left;
    tariffs = tariffs_hold;
    tariffs_rising = rising;
    tariffs_within = within;
  }

  steady_tally : (tally : Tally) → TallyFits t tally → IsSteady from (record t { tallies = with_row tally_rank t.tallies tally })
  steady_tally tally fit =
      steady_pay (with_row tally_rank t.tallies tally) t.statements t.tariffs
      (record { all = all-with_row tally_rank (is_sound_tally t.marks t.nodes) t.tallies tally s.tallies.all fit.sound; few = fit.few; rising = rising-with_row tally_rank t.tallies tally s.tallies.rising })
      s.tariffs s.tariffs_rising s.tariffs_within

  steady_tariff : (tariff : Tariff) → TariffFits t tariff → IsSteady from (record t { tariffs = with_row tariff_rank t.tariffs tariff })
  steady_tariff tariff fit =
      steady_pay t.tallies t.statements (with_row tariff_rank t.tariffs tariff) s.tallies
      (tariff_put t.setup.first_month t.tariffs tariff fit.late fit.few s.tariffs) (rising-with_row tariff_rank t.tariffs tariff s.tariffs_rising)
      (each-with_row tariff_rank IsTariffWithin t.tariffs tariff s.tariffs_within fit.within)

  steady_kept : (row : Kept) → KeptFits t row → IsSteady from (record t { kept = with_row kept_rank t.kept row })
  steady_kept row fit =
      steady_own t.settled t.audit t.recheck t.repair t.containments (with_row kept_rank t.kept row) t.exit s.settled s.audit s.recheck s.repair s.containments
      (kept_put t.marks t.nodes t.customers t.kept row s.kept fit.sound fit.within) s.exit

  pub steady_containments : (rows : List Containment) → ContainmentsHold from t.setup t.segments rows → IsSteady from (record t { containments = rows })
  steady_containments rows hold = steady_own t.settled t.audit t.recheck t.repair rows t.kept t.exit s.settled s.audit s.recheck s.repair hold s.kept s.exit

  steady_plans : (audit : Option AuditPlan) (recheck : Option RecheckPlan) (repair : Option RepairPlan) (exit : Option ExitPlan)
      → IfSome audit (AuditHolds from t.setup t.marks t.segments) → IfSome recheck (RecheckHolds t.marks t.nodes) → IfSome repair (RepairHolds from t.setup t.marks t.nodes t.segments)
      → IfSome exit (ExitHolds from t.setup t.marks t.nodes t.segments) → IsSteady from (record t { audit = audit; recheck = recheck; repair = repair; exit = exit })
  steady_plans audit recheck repair exit audit_holds recheck_holds repair_holds exit_holds =
      steady_own t.settled audit recheck repair t.containments t.kept exit s.settled audit_holds recheck_holds repair_holds s.containments s.kept exit_holds

  steady_closed : (kind : ℕ) → IsSteady from (removed t (keys.Plan kind))
  steady_closed kind =
      steady_plans (closed kinds.AUDIT_PLAN kind t.audit) (closed kinds.RECHECK_PLAN kind t.recheck) (closed kinds.REPAIR_PLAN kind t.repair) (closed kinds.EXIT_PLAN kind t.exit)
      (kept_open (AuditHolds from t.setup t.marks t.segments) kinds.AUDIT_PLAN kind t.audit s.audit) (kept_open (RecheckHolds t.marks t.nodes) kinds.RECHECK_PLAN kind t.recheck s.recheck)
      (kept_open (RepairHolds from t.setup t.marks t.nodes t.segments) kinds.REPAIR_PLAN kind t.repair s.repair) (kept_open (ExitHolds from t.setup t.marks t.nodes t.segments) kinds.EXIT_PLAN kind t.exit s.exit)

  steady_contained : (containment : Containment) → ContainmentFits from t containment → IsSteady from (record t { containments = with_row containment_rank t.containments containment })
  steady_contained containment fit =
      steady_containments (with_row containment_rank t.containments containment) (record {
        owed = all-with_row containment_rank (is_owed t.setup t.segments) t.containments containment s.containments.owed fit.owed;
        below = all-with_row containment_rank (λ c. nat_lt c.segment.0 from) t.containments containment s.containments.below fit.below;
        rising = rising-with_row containment_rank t.containments containment s.containments.rising;
      })

  steady_released : (node : ℕ) → IsSteady from (record t { containments = without containment_rank t.containments node })
  steady_released node =
      steady_containments (without containment_rank t.containments node) (record {
        owed = all-without containment_rank (is_owed t.setup t.segments) t.containments node s.containments.owed;
        below = all-without containment_rank (λ c. nat_lt c.segment.0 from) t.containments node s.containments.below;
        rising = rising-without containment_rank t.containments node s.containments.rising;
      })

  pub steady_changed : (change : RecChange) → FitsIn from t change → IsSteady from (changed t change)
  steady_changed (changes.Settings settings) fit = absurd fit
  steady_changed (changes.Marks marks) fit = steady_marks marks fit
  steady_changed (changes.Node node) fit = steady_node node fit
  steady_changed (changes.Customer customer) fit = steady_customer customer fit
  steady_changed (changes.Segment segment) fit = steady_segment segment fit
  steady_changed (changes.SettledRow row) fit = steady_settled row fit
  steady_changed (changes.Tally tally) fit = steady_tally tally fit
  steady_changed (changes.Statement statement) fit = steady_pay t.tallies (with_row statement_rank t.statements statement) t.tariffs s.tallies s.tariffs s.tariffs_rising s.tariffs_within
  steady_changed (changes.AuditPlan plan) fit = steady_plans (Some plan) t.recheck t.repair t.exit fit s.recheck s.repair s.exit
  steady_changed (changes.RecheckPlan plan) fit = steady_plans t.audit (Some plan) t.repair t.exit s.audit fit s.repair s.exit
  steady_changed (changes.RepairPlan plan) fit = steady_plans t.audit t.recheck (Some plan) t.exit s.audit s.recheck fit s.exit
  steady_changed (changes.Containment containment) fit = steady_contained containment fit
  steady_changed (changes.Kept kept) fit = steady_kept kept fit
  steady_changed (changes.ExitPlan exit) fit = steady_plans t.audit t.recheck t.repair (Some exit) s.audit s.recheck s.repair fit
  steady_changed (changes.Left left) fit = absurd fit
  steady_changed (changes.Tariff tariff) fit = steady_tariff tariff fit
  steady_changed (changes.Remove (keys.Segment id)) fit = steady_segments (without segment_rank t.segments id.0) (segments_less from t.segments id.0) (fewer_segments t.setup t.marks t.nodes t.customers t.segments id.0 s.segments)
  steady_changed (changes.Remove (keys.Plan kind)) fit = steady_closed kind
  steady_changed (changes.Remove (keys.Containment node)) fit = steady_released node.0
