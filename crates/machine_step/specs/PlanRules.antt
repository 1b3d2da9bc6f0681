-- The rules of open plans, containments, and nodes that left.
use Rattle.std.specs.Prelude.{ℕ, Bool, true, false, ◌==◌, ◌&&◌, ◌||◌, not, nat_lt, nat_le, if◌then◌else◌, List, [], ◌∷◌, ◌++◌, length, map, filter, Option, Some, None, is_some}
use Rattle.std.specs.List.{list_any, list_all}
use Rattle.sat_base.specs.declared.limits.TheConstants as limits
use Rattle.sat_base.specs.declared.ids.Serial.{Serial}
use Rattle.sat_base.specs.declared.ids.SegId.{SegId}
use Rattle.sat_base.specs.declared.records.At.{At}
use Rattle.sat_base.specs.declared.records.Containment.{Containment}
use Rattle.sat_base.specs.declared.settings.Marks.{Marks}
use Rattle.sat_base.specs.Scheme.{stripe_count}
use Rattle.rows.specs.Rows.{row_at}
use Rattle.node_registry.specs.declared.node.Node.{Node}
use Rattle.node_registry.specs.declared.node.Left.{Left}
use Rattle.node_registry.specs.declared.node.Status.{Status}
use Rattle.node_registry.specs.declared.node.Status.TheVariants.{Active, Disqualified, Exiting, Exited}
use Rattle.node_registry.specs.Registry.{node_at}
use Rattle.node_registry.specs.Left.{left_rank}
use Rattle.node_registry.specs.Subnet.{subnet_at}
use Rattle.segment_core.specs.Record.{SegmentRecord}
use Rattle.audit_core.specs.declared.plan.AuditPlan.{AuditPlan}
use Rattle.audit_core.specs.declared.rechecking.RecheckPlan.{RecheckPlan}
use Rattle.repair_core.specs.declared.plan.RepairPlan.{RepairPlan}
use Rattle.repair_core.specs.declared.plan.ExitPlan.{ExitPlan}
use Rattle.machine_step.specs.Tables.{Setup, segment_at}
use Rattle.machine_step.specs.Places.{addr_of, subnets_of}
use Rattle.machine_step.specs.Containment.{has_piece, stands_in}
use Rattle.machine_step.specs.Health.{are_among}
use Rattle.machine_step.specs.Calls.PlanRepair.{has_index}
use Rattle.machine_step.specs.Rules.{is_known, are_known, are_apart, are_below, least}

-- ---- rule 8: the open plans of an audit, a recheck and a repair

-- a plan's number and serial were drawn, its segment was numbered, and it isn't of a later moment
abbrev pub is_drawn : Marks → ℕ → Serial → SegId → ℕ → Bool
is_drawn marks plan serial segment issued =
    nat_lt plan marks.plan && (nat_lt serial.0 marks.serial && (nat_lt segment.0 marks.segment && nat_le issued marks.time))

-- the version is of a live segment, and one that earlier plans can have made
abbrev pub is_planned_version : Marks → ℕ → Bool
is_planned_version marks version = nat_le 1 version && nat_lt version marks.plan

-- where the segment is there, it has the planned version and is as the plan says, or it has a later version
abbrev pub is_planned_of : Option SegmentRecord → ℕ → (SegmentRecord → Bool) → Bool
is_planned_of None version test = true
is_planned_of (Some segment) version test = if segment.version == version then test segment else nat_lt version segment.version

abbrev pub stripes_of : Setup → SegmentRecord → ℕ
stripes_of setup segment = stripe_count setup.k setup.share segment.len

-- the stripe is one of the segment's, and the asked pieces are its own
abbrev pub is_audit_of : Setup → AuditPlan → SegmentRecord → Bool
is_audit_of setup plan segment = nat_lt plan.stripe (stripes_of setup segment) && are_among segment.pieces plan.asked

abbrev pub is_sound_audit : Setup → Marks → List SegmentRecord → AuditPlan → Bool
is_sound_audit setup marks segments plan =
    is_drawn marks plan.plan plan.serial plan.segment plan.issued
    && (is_planned_version marks plan.version && is_planned_of (segment_at segments plan.segment.0) plan.version (is_audit_of setup plan))

abbrev pub is_sound_recheck : Marks → List Node → RecheckPlan → Bool
is_sound_recheck marks nodes plan = is_drawn marks plan.plan plan.serial plan.segment plan.issued && is_known nodes plan.node

-- none of the places has an index of these pieces
abbrev pub are_new : List At → List At → Bool
are_new pieces places = list_all (λ place. not (has_index pieces place.index)) places

-- at least one target; their indexes are below n and no source's, and no two of sources and targets lie in one subnet
abbrev pub are_targets : Setup → List Node → List At → List At → Bool
are_targets setup nodes sources targets =
    nat_le 1 (length targets) && (are_below setup.n targets && (are_new sources targets && (are_known nodes targets && are_apart (subnets_of nodes (sources ++ targets)))))

-- the length and the sources are the segment's
abbrev pub is_repair_of : RepairPlan → SegmentRecord → Bool
is_repair_of plan segment = (plan.len == segment.len) && are_among segment.pieces plan.sources

-- and sources are enough, and targets as they should be
abbrev pub is_whole_repair_of : Setup → List Node → RepairPlan → SegmentRecord → Bool
is_whole_repair_of setup nodes plan segment =
    is_repair_of plan segment && (nat_le setup.k (length plan.sources) && are_targets setup nodes plan.sources plan.targets)

abbrev pub is_sound_repair : Setup → Marks → List Node → List SegmentRecord → RepairPlan → Bool
is_sound_repair setup marks nodes segments plan =
    is_drawn marks plan.plan plan.serial plan.segment plan.issued
    && (is_planned_version marks plan.version && is_planned_of (segment_at segments plan.segment.0) plan.version (is_whole_repair_of setup nodes plan))

-- a plan is sound, where there is one
abbrev pub is_none_or : {P : Type 0} → (P → Bool) → Option P → Bool
is_none_or test None = true
is_none_or test (Some plan) = test plan

-- ---- rule 9: the containments

-- the stripe is one of the segment's
abbrev pub has_stripe : Setup → Option SegmentRecord → ℕ → Bool
has_stripe setup None stripe = true
has_stripe setup (Some segment) stripe = nat_lt stripe (stripes_of setup segment)

abbrev pub is_owed : Setup → List SegmentRecord → Containment → Bool
is_owed setup segments containment = nat_lt containment.tries limits.TRIES && has_stripe setup (segment_at segments containment.segment.0) containment.stripe

-- a containment stands, its node was silent again at most twice, and its stripe is one of the segment's
abbrev pub breaks_containment : Setup → List Node → List SegmentRecord → ℕ → Containment → Bool
breaks_containment setup nodes segments i containment = not (stands_in nodes segments containment && is_owed setup segments containment)

-- ---- rule 11: the open plan of an exit

-- the node of a place lies in the subnet of one of these
abbrev pub shares_subnet : List Node → At → List At → Bool
shares_subnet nodes place others = list_any (λ other. subnet_at (addr_of (node_at nodes place.node)) == other) (subnets_of nodes others)

-- one target, with the leaving piece's index, at a known node in a subnet that no source has
abbrev pub is_target_of : List Node → At → List At → List At → Bool
is_target_of nodes leaving sources [] = false
is_target_of nodes leaving sources (target ∷ []) =
    (target.index == leaving.index) && (is_known nodes target.node && not (shares_subnet nodes target sources))
is_target_of nodes leaving sources (target ∷ other ∷ rest) = false

-- the leaving piece is a source
abbrev pub is_move_of : ExitPlan → SegmentRecord → Bool
is_move_of exit segment = is_repair_of exit.plan segment && has_piece exit.plan.sources exit.leaving

-- the sources are enough, whatever has become of the segment, and their nodes are known, so that the subnets stay apart when nodes join
abbrev pub is_sound_exit : Setup → Marks → List Node → List SegmentRecord → ExitPlan → Bool
is_sound_exit setup marks nodes segments exit =
    is_drawn marks exit.plan.plan exit.plan.serial exit.plan.segment exit.plan.issued
    && (is_planned_version marks exit.plan.version && (is_planned_of (segment_at segments exit.plan.segment.0) exit.plan.version (is_move_of exit)
    && (nat_le setup.k (length exit.plan.sources) && (are_known nodes exit.plan.sources && is_target_of nodes exit.leaving exit.plan.sources exit.plan.targets))))

-- ---- rule 12: the nodes that left

abbrev pub is_exited : Status → Bool
is_exited Active = false
is_exited Disqualified = false
is_exited Exiting = false
is_exited Exited = true

abbrev pub has_exited : Option Node → Bool
has_exited None = false
has_exited (Some node) = is_exited node.status

-- a row is of a node that has exited, and not of a later moment
abbrev pub is_sound_left : Marks → List Node → Left → Bool
is_sound_left marks nodes left = has_exited (node_at nodes left.node) && nat_le left.at marks.time

-- a node that has exited has its row
abbrev pub is_accounted : List Left → Node → Bool
is_accounted left node = not (is_exited node.status) || is_some (row_at left_rank left node.id.0)

-- the nodes of rows that break the rule
abbrev pub bad_lefts : Marks → List Node → List Left → List ℕ
bad_lefts marks nodes rows = map (λ left. left.node.0) (filter (λ left. not (is_sound_left marks nodes left)) rows)

-- the nodes whose rows are missing
abbrev pub missing_lefts : List Left → List Node → List ℕ
missing_lefts rows nodes = map (λ node. node.id.0) (filter (λ node. not (is_accounted rows node)) nodes)

-- the first node whose row breaks the rule or is missing
abbrev pub bad_left : Marks → List Node → List Left → Option ℕ
bad_left marks nodes rows = least (bad_lefts marks nodes rows ++ missing_lefts rows nodes)
