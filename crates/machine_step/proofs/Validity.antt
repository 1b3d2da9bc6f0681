-- Valid tables are steady, and steady ones whose containments all stand are valid.
use Rattle.std.proofs.Common.{◌≡◌, ℕ, Bool, true, List, [], ◌∷◌, Option, Some, None, IfSome, is_some, refl, sym, ap, subst, ◌∙◌, arith}
use Rattle.std.specs.Prelude.{nat_lt, ◌&&◌, filter}
use Rattle.std.specs.List.{list_all}
use Rattle.std.proofs.lemmas.Bool.Decides.{nat_tests}
use Rattle.std.proofs.lemmas.Bool.{and_parts, and_from}
use Rattle.sat_base.specs.declared.records.At.{At}
use Rattle.sat_base.specs.declared.records.Containment.{Containment}
use Rattle.node_registry.specs.Registry.{node_at}
use Rattle.month_pay.proofs.RuleForms.{rule_back}
use Rattle.segment_core.specs.Record.{SegmentRecord, segment_rank}
use Rattle.machine_calls.specs.declared.change.RecChange.{RecChange}
use Rattle.machine_step.specs.Tables.{Setup, Tables, ledger_of, segment_at, all_changed}
use Rattle.machine_step.specs.Containment.{stands, place_of, has_live_piece, serves, with_releases}
use Rattle.machine_step.specs.Rules.{least, is_sound_segment, is_sound_settled, is_sound_tally, is_sound_kept}
use Rattle.machine_step.specs.PlanRules.{is_none_or, is_sound_audit, is_sound_recheck, is_sound_repair, is_sound_exit, is_owed}
use Rattle.machine_step.specs.Bounds.{IsAuditWithin, IsRepairWithin, IsExitWithin, IsValid}
use Rattle.machine_step.proofs.RowLemmas.{all-found, rank-found, capped-all, capped-length, capped-back, plain-all, plain-back}
use Rattle.machine_step.proofs.GrowthLemmas.{fine}
use Rattle.machine_step.proofs.ReleaseLemmas.{left_of, releases_are, left_standing, rising-filtered, all-kept}
use Rattle.machine_step.proofs.PieceLemmas.{all-filtered}
use Rattle.machine_step.proofs.LeftLemmas.{lefts-kept, kept-lefts}
use Rattle.machine_step.proofs.Hold.{SegmentsHold, StatementsHold, AuditHolds, RecheckHolds, RepairHolds, ExitHolds}
use Rattle.machine_step.proofs.Steady.{IsSteady, GrowsTo, grows_self}
use Rattle.machine_step.specs.Closed.{StaysClosed}
use Rattle.machine_step.proofs.Changes.{some_map, steady_containments}
use Rattle.machine_step.proofs.Becoming.{Becomes}
use Rattle.machine_step.proofs.Paid.{IsPaid, statements_of}
use Rattle.month_pay.proofs.ListFacts.{all-weaker}

-- a plan that is sound, in parts
all_some : {X : Type 0} (test : X → Bool) (P W : X → Type 0) (found : Option X) → is_none_or test found ≡ true → IfSome found W → ((x : X) → test x ≡ true → W x → P x) → IfSome found P
all_some test P W None sound within so = tt
all_some test P W (Some x) sound within so = so x sound within

always : {X : Type 0} (found : Option X) → IfSome found (λ x. Unit {0})
always None = tt
always (Some x) = tt

some_all : {X : Type 0} (test : X → Bool) (P : X → Type 0) (found : Option X) → IfSome found P → ((x : X) → P x → test x ≡ true) → is_none_or test found ≡ true
some_all test P None h so = refl
some_all test P (Some x) h so = so x h

module _ (t : Tables) (v : IsValid t) where
  pub segments_hold : SegmentsHold t.setup t.marks t.nodes t.customers t.segments
  segments_hold = record {
    all = capped-all t.setup.caps.segments (is_sound_segment t.setup t.marks t.nodes t.customers) t.segments 0 v.rules.segments;
    few = omega (arith, capped-length t.setup.caps.segments (is_sound_segment t.setup t.marks t.nodes t.customers) t.segments 0 v.rules.segments (omega arith));
    rising = v.order.segments;
    within = v.bounds.segments;
  }

  -- a segment that is found was numbered
  below-found : (id : ℕ) (found : Option SegmentRecord) → segment_at t.segments id ≡ found → is_some found ≡ true → nat_lt id t.marks.segment ≡ true
  below-found id None at some = cc
  below-found id (Some found) at some =
      let same : found.id.0 ≡ id = rank-found segment_rank t.segments id found at in
      let f = fine t.setup t.marks t.nodes t.customers found (all-found segment_rank (is_sound_segment t.setup t.marks t.nodes t.customers) t.segments id found segments_hold.all at) in
      ap (λ (k : ℕ). nat_lt k t.marks.segment) (sym same) ∙ f.below

  live-some : (found : Option SegmentRecord) (place : At) → has_live_piece found place ≡ true → is_some found ≡ true
  live-some None place h = cc
  live-some (Some found) place h = refl

  contained_parts : list_all (λ c. stands t c && is_owed t.setup t.segments c) t.containments ≡ true
  contained_parts = plain-all (λ c. stands t c && is_owed t.setup t.segments c) t.containments 0 v.rules.containments

  pub all_stand : list_all (stands t) t.containments ≡ true
  all_stand = all-weaker (λ c. stands t c && is_owed t.setup t.segments c) (stands t) (λ c h. (and_parts (stands t c) (is_owed t.setup t.segments c) h).0) t.containments contained_parts

  pub steady_of : IsSteady t.marks.segment t
  steady_of = record {
    setup = v.bounds.setup;
    marks = v.rules.marks;
    marks_within = v.bounds.marks;
    base = omega arith;
    nodes = v.rules.nodes;
    customers = v.rules.customers;
    segments = segments_hold;
    settled = record {
      all = capped-all t.setup.caps.settled (is_sound_settled t.marks t.nodes) t.settled 0 v.rules.settled;
      few = omega (arith, capped-length t.setup.caps.settled (is_sound_settled t.marks t.nodes) t.settled 0 v.rules.settled (omega arith));
      rising = v.order.settled;
      within = v.bounds.settled;
    };
    tallies = record {
      all = capped-all t.setup.caps.tallies (is_sound_tally t.marks t.nodes) t.tallies 0 v.rules.tallies;
      few = omega (arith, capped-length t.setup.caps.tallies (is_sound_tally t.marks t.nodes) t.tallies 0 v.rules.tallies (omega arith));
      rising = v.order.tallies;
    };
    kept = record { all = plain-all (is_sound_kept t.marks t.nodes t.customers) t.kept 0 v.rules.kept; rising = v.order.kept; within = v.bounds.kept };
    audit = all_some (is_sound_audit t.setup t.marks t.segments) (AuditHolds t.marks.segment t.setup t.marks t.segments) IsAuditWithin t.audit v.rules.audit v.bounds.audit
        (λ plan sound within. record { sound = sound; below = grind (arith, nat_tests, sound); within = within });
    recheck = all_some (is_sound_recheck t.marks t.nodes) (RecheckHolds t.marks t.nodes) (λ plan. Unit {0}) t.recheck v.rules.recheck (always t.recheck) (λ plan sound within. record { sound = sound });
    repair = all_some (is_sound_repair t.setup t.marks t.nodes t.segments) (RepairHolds t.marks.segment t.setup t.marks t.nodes t.segments) IsRepairWithin t.repair v.rules.repair v.bounds.repair
        (λ plan sound within. record { sound = sound; below = grind (arith, nat_tests, sound); within = within });
    containments = record {
      owed = all-weaker (λ c. stands t c && is_owed t.setup t.segments c) (is_owed t.setup t.segments) (λ c h. (and_parts (stands t c) (is_owed t.setup t.segments c) h).1) t.containments contained_parts;
      below = all-weaker (stands t) (λ c. nat_lt c.segment.0 t.marks.segment)
          (λ c h. below-found c.segment.0 (segment_at t.segments c.segment.0) refl (live-some (segment_at t.segments c.segment.0) (place_of c) (and_parts (serves (node_at t.nodes c.node)) (has_live_piece (segment_at t.segments c.segment.0) (place_of c)) h).1)) t.containments all_stand;
      rising = v.order.containments;
    };
    exit = all_some (is_sound_exit t.setup t.marks t.nodes t.segments) (ExitHolds t.marks.segment t.setup t.marks t.nodes t.segments) IsExitWithin t.exit v.rules.exit v.bounds.exit
        (λ exit sound within. record { sound = sound; below = grind (arith, nat_tests, sound); within = within });
    left = let kept = lefts-kept t.marks t.nodes t.left v.rules.left in record { all = kept.0; accounted = kept.1; rising = v.order.left };
    tariffs = v.rules.tariffs;
    tariffs_rising = v.order.tariffs;
    tariffs_within = v.bounds.tariffs;
  }

-- steady tables whose statements keep their rule and whose containments stand are valid, whatever the mark of stopping
pub valid_of : (from : ℕ) (t : Tables) (stopped : Bool) → IsSteady from t → StatementsHold t.setup.caps.statements (ledger_of t) → list_all (stands t) t.containments ≡ true → IsValid (record t { stopped = stopped })
valid_of from t stopped s paid stand = record {
  rules = record {
    marks = s.marks;
    nodes = s.nodes;
    customers = s.customers;
    segments = capped-back t.setup.caps.segments (is_sound_segment t.setup t.marks t.nodes t.customers) t.segments 0 s.segments.all (omega (arith, s.segments.few));
    settled = capped-back t.setup.caps.settled (is_sound_settled t.marks t.nodes) t.settled 0 s.settled.all (omega (arith, s.settled.few));
    tallies = capped-back t.setup.caps.tallies (is_sound_tally t.marks t.nodes) t.tallies 0 s.tallies.all (omega (arith, s.tallies.few));
    statements = ap least (rule_back t.setup.caps.statements (ledger_of t) paid.rule);
    kept = plain-back (is_sound_kept t.marks t.nodes t.customers) t.kept 0 s.kept.all;
    audit = some_all (is_sound_audit t.setup t.marks t.segments) (AuditHolds from t.setup t.marks t.segments) t.audit s.audit (λ plan h. h.sound);
    recheck = some_all (is_sound_recheck t.marks t.nodes) (RecheckHolds t.marks t.nodes) t.recheck s.recheck (λ plan h. h.sound);
    repair = some_all (is_sound_repair t.setup t.marks t.nodes t.segments) (RepairHolds from t.setup t.marks t.nodes t.segments) t.repair s.repair (λ plan h. h.sound);
    containments = plain-back (λ c. stands t c && is_owed t.setup t.segments c) t.containments 0 (all-both t.containments stand s.containments.owed);
    exit = some_all (is_sound_exit t.setup t.marks t.nodes t.segments) (ExitHolds from t.setup t.marks t.nodes t.segments) t.exit s.exit (λ exit h. h.sound);
    left = kept-lefts t.marks t.nodes t.left s.left.all s.left.accounted;
    tariffs = s.tariffs;
  };
  order = record { segments = s.segments.rising; settled = s.settled.rising; tallies = s.tallies.rising; statements = paid.rising; kept = s.kept.rising; containments = s.containments.rising; left = s.left.rising; tariffs = s.tariffs_rising };
  bounds = record {
    setup = s.setup;
    marks = s.marks_within;
    segments = s.segments.within;
    settled = s.settled.within;
    kept = s.kept.within;
    audit = some_map (AuditHolds from t.setup t.marks t.segments) IsAuditWithin t.audit (λ plan h. h.within) s.audit;
    repair = some_map (RepairHolds from t.setup t.marks t.nodes t.segments) IsRepairWithin t.repair (λ plan h. h.within) s.repair;
    exit = some_map (ExitHolds from t.setup t.marks t.nodes t.segments) IsExitWithin t.exit (λ exit h. h.within) s.exit;
    tariffs = s.tariffs_within;
  };
}
  where
    all-both : (rows : List Containment) → list_all (stands t) rows ≡ true → list_all (is_owed t.setup t.segments) rows ≡ true → list_all (λ c. stands t c && is_owed t.setup t.segments c) rows ≡ true
    all-both [] h k = refl
    all-both (c ∷ rows) h k =
        let hs = and_parts (stands t c) (list_all (stands t) rows) h in
        let ks = and_parts (is_owed t.setup t.segments c) (list_all (is_owed t.setup t.segments) rows) k in
        and_from _ _ (and_from _ _ hs.0 ks.0) (all-both rows hs.1 ks.1)

-- the containments that are left are steady
steady_left : (from : ℕ) (t : Tables) (s : IsSteady from t) → IsSteady from (record t { containments = filter (stands t) t.containments })
steady_left from t s =
    steady_containments from t s (filter (stands t) t.containments) (record {
      owed = all-filtered (is_owed t.setup t.segments) (stands t) t.containments s.containments.owed;
      below = all-filtered (λ c. nat_lt c.segment.0 from) (stands t) t.containments s.containments.below;
      rising = rising-filtered (stands t) t.containments s.containments.rising;
    })

-- what a step makes of the tables
pub record Follows (t t' : Tables) : Type 0 where
  pub valid : IsValid t'
  pub grows : GrowsTo t.marks.segment t t'
  pub closed : StaysClosed t t'

-- an outcome whose changes keep what holds makes valid tables, once it is swept
pub follows : (t : Tables) (v : IsValid t) (reply_stops : Bool) (cs : List RecChange) → Becomes t.marks.segment t (all_changed t cs) → IsPaid t (all_changed t cs)
    → Follows t (record (all_changed t (with_releases t cs)) { stopped = reply_stops })
follows t v stops [] b p = record { valid = valid_of t.marks.segment t stops (steady_of t v) (statements_of t v) (all_stand t v); grows = regrown t t (grows_self t.marks.segment t); closed = record { sums = p.closed.sums; statements = p.closed.statements } }
  where
    regrown : (t t' : Tables) → GrowsTo t.marks.segment t t' → GrowsTo t.marks.segment t (record t' { stopped = stops })
    regrown t t' g = record { setup = g.setup; later = g.later; extends = g.extends; stay = g.stay; segments = g.segments }
follows t v stops (c ∷ cs) b p =
    let next = all_changed t (c ∷ cs) in
    let left : left_of t (c ∷ cs) ≡ filter (stands next) next.containments = left_standing t c cs b.steady.containments.rising in
    let same : all_changed t (with_releases t (c ∷ cs)) ≡ record next { containments = filter (stands next) next.containments }
    = releases_are t (c ∷ cs) ∙ ap (λ (rows : List Containment). record next { containments = rows }) left in
    let setup = b.grows.setup in
    let paid : StatementsHold next.setup.caps.statements (ledger_of next) = subst (λ (s : Setup). StatementsHold s.caps.statements (ledger_of next)) (sym setup) p.holds in
    subst (λ (x : Tables). Follows t (record x { stopped = stops })) (sym same) (record {
      valid = valid_of t.marks.segment (record next { containments = filter (stands next) next.containments }) stops (steady_left t.marks.segment next b.steady) (record { rule = paid.rule; rising = paid.rising }) (all-kept (stands next) next.containments);
      closed = record { sums = p.closed.sums; statements = p.closed.statements };
      grows = record { setup = b.grows.setup; later = b.grows.later; extends = b.grows.extends; stay = b.grows.stay; segments = b.grows.segments };
    })
