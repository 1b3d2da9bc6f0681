-- What keeps the rules of plans and containments as the tables grow.
use Rattle.std.proofs.Common.{◌≡◌, ℕ, ◌<◌, Bool, true, not, List, [], ◌∷◌, ◌++◌, Option, Some, None, refl, sym, ap, subst, ◌∙◌, arith}
use Rattle.std.specs.Prelude.{◌==◌, nat_lt}
use Rattle.std.specs.List.{list_all, list_any}
use Rattle.std.proofs.lemmas.Bool.Decides.{nat_tests}
use Rattle.std.proofs.lemmas.Bool.{and_parts, and_from}
use Rattle.sat_base.specs.declared.limits.TheConstants as limits
use Rattle.sat_base.specs.declared.ids.Serial.{Serial}
use Rattle.sat_base.specs.declared.ids.SegId.{SegId}
use Rattle.sat_base.specs.declared.records.At.{At}
use Rattle.sat_base.specs.declared.records.Containment.{Containment}
use Rattle.sat_base.specs.declared.settings.Marks.{Marks}
use Rattle.node_registry.specs.declared.node.Node.{Node}
use Rattle.node_registry.specs.Registry.{node_at}
use Rattle.node_registry.specs.Subnet.{subnet_at}
use Rattle.segment_core.specs.Record.{SegmentRecord}
use Rattle.audit_core.specs.declared.plan.AuditPlan.{AuditPlan}
use Rattle.audit_core.specs.declared.rechecking.RecheckPlan.{RecheckPlan}
use Rattle.repair_core.specs.declared.plan.RepairPlan.{RepairPlan}
use Rattle.repair_core.specs.declared.plan.ExitPlan.{ExitPlan}
use Rattle.machine_step.specs.Tables.{Setup, segment_at}
use Rattle.machine_step.specs.Containment.{has_piece}
use Rattle.machine_step.specs.Health.{are_among}
use Rattle.machine_step.specs.Places.{addr_of, subnets_of}
use Rattle.machine_step.specs.Rules.{is_known, are_known, are_apart}
use Rattle.machine_step.specs.PlanRules.{is_drawn, is_planned_version, is_planned_of, is_audit_of, is_sound_audit, is_sound_recheck, are_targets, is_whole_repair_of, is_sound_repair, has_stripe, is_owed, is_target_of, is_move_of, is_sound_exit}
use Rattle.machine_step.proofs.GrowthLemmas.{AreLater, Extends, known-later, subnets-later}
use Rattle.machine_step.proofs.SegmentLemmas.{IsNext, SegmentsGrow}

-- a piece that is among known ones is known
known-place : (nodes : List Node) (pieces : List At) (place : At) → are_known nodes pieces ≡ true → has_piece pieces place ≡ true → is_known nodes place.node ≡ true
known-place nodes [] place known has = cc
known-place nodes (piece ∷ pieces) place known has = grind (arith, nat_tests, known, has, known-place nodes pieces place)

pub known-among : (nodes : List Node) (pieces places : List At) → are_known nodes pieces ≡ true → are_among pieces places ≡ true → are_known nodes places ≡ true
known-among nodes pieces [] known among = refl
known-among nodes pieces (place ∷ places) known among =
    let parts = and_parts _ _ among in
    and_from _ _ (known-place nodes pieces place known parts.0) (known-among nodes pieces places known parts.1)

known-append : (nodes : List Node) (xs ys : List At) → are_known nodes xs ≡ true → are_known nodes ys ≡ true → are_known nodes (xs ++ ys) ≡ true
known-append nodes [] ys h k = k
known-append nodes (x ∷ xs) ys h k = let parts = and_parts _ _ h in and_from _ _ parts.0 (known-append nodes xs ys parts.1 k)

drawn-later : (old new : Marks) → AreLater old new → (plan : ℕ) (serial : Serial) (segment : SegId) (issued : ℕ) → is_drawn old plan serial segment issued ≡ true → is_drawn new plan serial segment issued ≡ true
drawn-later old new later plan serial segment issued h =
    let a = later.plan in let b = later.serial in let c = later.segment in let d = later.time in
    grind (arith, nat_tests, h, a, b, c, d)

version-later : (old new : Marks) → AreLater old new → (version : ℕ) → is_planned_version old version ≡ true → is_planned_version new version ≡ true
version-later old new later version h = let a = later.plan in grind (arith, nat_tests, h, a)

module _ (from : ℕ) (segments segments' : List SegmentRecord) (grow : SegmentsGrow from segments segments') where
  planned-later : (id version : ℕ) (test test' : SegmentRecord → Bool) → id < from → ((s : SegmentRecord) → segment_at segments id ≡ Some s → test s ≡ true → test' s ≡ true)
      → is_planned_of (segment_at segments id) version test ≡ true → is_planned_of (segment_at segments' id) version test' ≡ true
  planned-later id version test test' lt so sound = go (segment_at segments' id) refl
    where
      at : (a b : SegmentRecord) → segment_at segments id ≡ Some a → IsNext a b → is_planned_of (Some a) version test ≡ true → is_planned_of (Some b) version test' ≡ true
      at a b is next planned =
          let le = next.version in
          let same : b.version ≡ version → a.version ≡ version → test' b ≡ true = λ e f. subst (λ (s : SegmentRecord). test' s ≡ true) (sym (next.same (e ∙ sym f))) (so a is (grind (arith, nat_tests, planned, f))) in
          grind (arith, nat_tests, planned, le, same)

      go : (found : Option SegmentRecord) → segment_at segments' id ≡ found → is_planned_of found version test' ≡ true
      go None is = refl
      go (Some b) is =
          let has = grow id b lt is in
          at has.before b has.at has.next (subst (λ (o : Option SegmentRecord). is_planned_of o version test ≡ true) has.at sound)

  stripe-later : (setup : Setup) (id stripe : ℕ) → id < from → has_stripe setup (segment_at segments id) stripe ≡ true → has_stripe setup (segment_at segments' id) stripe ≡ true
  stripe-later setup id stripe lt sound = go (segment_at segments' id) refl
    where
      go : (found : Option SegmentRecord) → segment_at segments' id ≡ found → has_stripe setup found stripe ≡ true
      go None is = refl
      go (Some b) is =
          let has = grow id b lt is in
          let below : has_stripe setup (Some has.before) stripe ≡ true = subst (λ (o : Option SegmentRecord). has_stripe setup o stripe ≡ true) has.at sound in
          rw has.next.len below

  -- ---- containments

  pub owed-later : (setup : Setup) (rows : List Containment) → list_all (λ containment. nat_lt containment.segment.0 from) rows ≡ true → list_all (is_owed setup segments) rows ≡ true → list_all (is_owed setup segments') rows ≡ true
  owed-later setup [] below owed = refl
  owed-later setup (c ∷ rows) below owed =
      let lt : c.segment.0 < from = grind (arith, nat_tests, below) in
      let lows : list_all (λ containment. nat_lt containment.segment.0 from) rows ≡ true = grind (arith, nat_tests, below) in
      let more : list_all (is_owed setup segments) rows ≡ true = grind (arith, nat_tests, owed) in
      let stripe : has_stripe setup (segment_at segments c.segment.0) c.stripe ≡ true = grind (arith, nat_tests, owed) in
      let tries : nat_lt c.tries limits.TRIES ≡ true = grind (arith, nat_tests, owed) in
      and_from _ _ (and_from _ _ tries (stripe-later setup c.segment.0 c.stripe lt stripe)) (owed-later setup rows lows more)

  -- ---- plans

  module _ (setup : Setup) (old new : Marks) (nodes nodes' : List Node) (later : AreLater old new) (extends : Extends nodes nodes') where
    pub audit-later : (plan : AuditPlan) → plan.segment.0 < from → is_sound_audit setup old segments plan ≡ true → is_sound_audit setup new segments' plan ≡ true
    audit-later plan lt sound =
        let first = and_parts _ _ sound in
        let second = and_parts _ _ first.1 in
        and_from _ _ (drawn-later old new later plan.plan plan.serial plan.segment plan.issued first.0)
        (and_from _ _ (version-later old new later plan.version second.0)
        (planned-later plan.segment.0 plan.version (is_audit_of setup plan) (is_audit_of setup plan) lt (λ s at h. h) second.1))

    pub recheck-later : (plan : RecheckPlan) → is_sound_recheck old nodes plan ≡ true → is_sound_recheck new nodes' plan ≡ true
    recheck-later plan sound =
        let first = and_parts _ _ sound in
        and_from _ _ (drawn-later old new later plan.plan plan.serial plan.segment plan.issued first.0) (extends.known plan.node first.1)

    targets-later : (sources targets : List At) → are_known nodes sources ≡ true → are_targets setup nodes sources targets ≡ true → are_targets setup nodes' sources targets ≡ true
    targets-later sources targets known sound =
        let there : are_known nodes targets ≡ true = grind (arith, nat_tests, sound) in
        let all : are_known nodes (sources ++ targets) ≡ true = known-append nodes sources targets known there in
        let later : are_known nodes' targets ≡ true = known-later nodes nodes' extends targets there in
        let same : subnets_of nodes' (sources ++ targets) ≡ subnets_of nodes (sources ++ targets) = subnets-later nodes nodes' extends (sources ++ targets) all in
        let apart : are_apart (subnets_of nodes (sources ++ targets)) ≡ true = grind (arith, nat_tests, sound) in
        let apart' : are_apart (subnets_of nodes' (sources ++ targets)) ≡ true = ap are_apart same ∙ apart in
        grind (arith, nat_tests, sound, later, apart')

    pub repair-later : (plan : RepairPlan) → plan.segment.0 < from → ((s : SegmentRecord) → segment_at segments plan.segment.0 ≡ Some s → are_known nodes s.pieces ≡ true)
        → is_sound_repair setup old nodes segments plan ≡ true → is_sound_repair setup new nodes' segments' plan ≡ true
    repair-later plan lt known sound =
        let first = and_parts _ _ sound in
        let second = and_parts _ _ first.1 in
        let so : (s : SegmentRecord) → segment_at segments plan.segment.0 ≡ Some s → is_whole_repair_of setup nodes plan s ≡ true → is_whole_repair_of setup nodes' plan s ≡ true = λ s at h.
        let one = and_parts _ _ h in
        let two = and_parts _ _ one.1 in
        let own = and_parts _ _ one.0 in
        and_from _ _ one.0 (and_from _ _ two.0 (targets-later plan.sources plan.targets (known-among nodes s.pieces plan.sources (known s at) own.1) two.1)) in
        and_from _ _ (drawn-later old new later plan.plan plan.serial plan.segment plan.issued first.0)
        (and_from _ _ (version-later old new later plan.version second.0)
        (planned-later plan.segment.0 plan.version (is_whole_repair_of setup nodes plan) (is_whole_repair_of setup nodes' plan) lt so second.1))

    target-later : (leaving : At) (sources targets : List At) → are_known nodes sources ≡ true → is_target_of nodes leaving sources targets ≡ true → is_target_of nodes' leaving sources targets ≡ true
    target-later leaving sources [] known sound = cc
    target-later leaving sources (target ∷ []) known sound =
        let first = and_parts _ _ sound in
        let second = and_parts _ _ first.1 in
        let addr : subnet_at (addr_of (node_at nodes' target.node)) ≡ subnet_at (addr_of (node_at nodes target.node)) = ap subnet_at (extends.same target.node second.0) in
        let subnets = subnets-later nodes nodes' extends sources known in
        let off : list_any (λ other. subnet_at (addr_of (node_at nodes' target.node)) == other) (subnets_of nodes' sources) ≡ list_any (λ other. subnet_at (addr_of (node_at nodes target.node)) == other) (subnets_of nodes sources)
        = ap (λ (a : ℕ). list_any (λ other. a == other) (subnets_of nodes' sources)) addr ∙ ap (λ (xs : List ℕ). list_any (λ other. subnet_at (addr_of (node_at nodes target.node)) == other) xs) subnets in
        and_from _ _ first.0 (and_from _ _ (extends.known target.node second.0) (ap not off ∙ second.1))
    target-later leaving sources (target ∷ other ∷ rest) known sound = cc

    pub exit-later : (exit : ExitPlan) → exit.plan.segment.0 < from → is_sound_exit setup old nodes segments exit ≡ true → is_sound_exit setup new nodes' segments' exit ≡ true
    exit-later exit lt sound =
        let first = and_parts _ _ sound in
        let second = and_parts _ _ first.1 in
        let third = and_parts _ _ second.1 in
        let fourth = and_parts _ _ third.1 in
        let fifth = and_parts _ _ fourth.1 in
        and_from _ _ (drawn-later old new later exit.plan.plan exit.plan.serial exit.plan.segment exit.plan.issued first.0)
        (and_from _ _ (version-later old new later exit.plan.version second.0)
        (and_from _ _ (planned-later exit.plan.segment.0 exit.plan.version (is_move_of exit) (is_move_of exit) lt (λ s at h. h) third.0)
        (and_from _ _ fourth.0 (and_from _ _ (known-later nodes nodes' extends exit.plan.sources fifth.0) (target-later exit.leaving exit.plan.sources exit.plan.targets fifth.0 fifth.1)))))
