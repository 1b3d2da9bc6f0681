-- A repair or a move of a history keeps the bytes of a named segment.
use Rattle.std.proofs.Common.{◌≡◌, ℕ, suc, ◌+◌, ◌≤◌, Bool, true, false, not, List, length, get_or, Option, Some, None, refl, sym, ap, ◌∙◌, subst, arith}
use Rattle.std.specs.Prelude.{All, ◌&&◌, slice_get, if◌then◌else◌}
use Rattle.std.specs.Option.{option_map}
use Rattle.std.proofs.lemmas.Bool.Decides.{nat_tests}
use Rattle.std.proofs.lemmas.Bool.{and_left}
use Rattle.sat_base.specs.declared.nodes.Held.{Held}
use Rattle.sat_base.specs.declared.requests.Place.{Place}
use Rattle.sat_base.specs.Scheme.{stripe_count}
use Rattle.segment_core.specs.Record.{SegmentRecord}
use Rattle.repair_core.specs.declared.outcome.Mended.{Mended}
use Rattle.repair_core.specs.declared.plan.ExitPlan.{ExitPlan}
use Rattle.repair_core.specs.declared.plan.RepairPlan.{RepairPlan}
use Rattle.repair_core.specs.Indexes.{has_index, place_indexes}
use Rattle.machine_calls.specs.declared.call.Call.{Call}
use Rattle.machine_calls.specs.declared.reply.Reply.TheVariants as replies
use Rattle.machine_calls.specs.Replies.{is_lost}
use Rattle.machine_step.specs.Bounds.{IsValid}
use Rattle.machine_step.specs.Calls.EndExit.{move_of, open_move}
use Rattle.machine_step.specs.PlanRules.{is_move_of, is_none_or, is_planned_of, is_sound_exit, is_sound_repair, is_whole_repair_of}
use Rattle.machine_step.specs.Step.{IsSchemeOf, IsWellFormed, after, step}
use Rattle.machine_step.specs.Tables.{Tables, segment_at}
use Rattle.machine_step.proofs.Fits.{within_found}
use Rattle.machine_history.specs.History.{IsLegal, Said}
use Rattle.machine_plans.specs.Ends.{IsMended, is_repair_ended, move_end, repair_end}
use Rattle.machine_plans.specs.Opened.{at_place}
use Rattle.machine_plans.proofs.Held.{exit_holds, repair_holds}
use Rattle.machine_plans.proofs.MendEnds.{mended_move, mended_repair, ended_none, accepts}
use Rattle.machine_plans.proofs.Places.{next_at, right_at, valid_at}
use Rattle.repair_core.specs.declared.outcome.RepairOutcome.TheVariants as repairs
use Rattle.askable_plans.proofs.Pieces.{sized}
use Rattle.node_asks.proofs.SourceLemmas.{none_pass}
use Rattle.node_asks.proofs.SpreadLemmas.{indexes_at}
use Rattle.named_segments.specs.Named.{IsNamed}
use Rattle.named_segments.specs.Repairs.{AreAt, IsWellMended, KeepsBytes}
use Rattle.named_segments.proofs.Keeping.{AreAnswered, each_held, enough_sound}
use Rattle.named_segments.proofs.Windows.{keeps_pieces, left_end}

-- what comes of a mended end
by_made : (t next : Tables) (v : IsValid t) (w : IsValid next) (mended : Mended) (named : List ℕ) (secret : List ℕ) (sources targets : List Place) (answered : List ℕ) (before behind : List Held) → IsSchemeOf t.setup mended.scheme
    → IsMended t next mended → IsNamed t mended.plan.segment.0 named → ((segment : SegmentRecord) → segment_at t.segments mended.plan.segment.0 ≡ Some segment → segment.version ≡ mended.plan.version → mended.plan.len ≡ segment.len)
    → AreAt mended sources targets → IsWellMended secret mended sources targets answered named before behind → KeepsBytes next mended answered named before behind
by_made t next v w mended named secret sources targets answered before behind scheme made names sized_as at well =
    let plan = mended.plan in
    let same : made.segment ≡ names.segment = let two : Some made.segment ≡ Some names.segment = sym made.at ∙ names.at in cc in
    let own : plan.len ≡ made.segment.len = sized_as made.segment made.at made.planned in
    let len : length named ≡ plan.len = names.len ∙ ap (λ (s : SegmentRecord). s.len) (sym same) ∙ sym own in
    let size = sized t v plan.segment.0 made.segment made.at in
    let least : 1 ≤ stripe_count mended.scheme.k mended.scheme.share plan.len
    = subst (λ (n : ℕ). 1 ≤ n) (λ i. stripe_count (sym scheme.k i) (sym scheme.share i) (sym own i)) size.some_stripes in
    let keeps = keeps_pieces before secret mended.scheme plan named len names.bytes at.sources_rise at.sources_below sources at.sources_are well.remade well.end least well.ends well.well in
    let left = left_end before secret mended.scheme plan named len names.bytes at.sources_rise at.sources_below sources at.sources_are well.remade well.end well.ends well.well in
    let test : ℕ → Bool = λ index. has_index well.end.gone index && not (has_index well.remade.blamed index) in
    let apart : All (λ index. has_index mended.missing index ≡ false) (indexes_at well.end.still)
    = λ k d within.
    let i = get_or (indexes_at well.end.still) k d in
    ap (λ (xs : List ℕ). has_index xs i) well.missing_are ∙ none_pass test (place_indexes plan.sources) i (and_left (has_index well.end.gone i) _ (left.apart k d within)) in
    let are : AreAnswered mended answered
    = subst (AreAnswered mended) (sym well.answered_are) (record { rise = left.rising; of_sources = left.among; apart = apart }) in
    let by = (within_found next w plan.segment.0 made.after made.at_next).by_index in
    let few = enough_sound mended answered at.sources_rise are t next made by in
    record {
      after = made.after;
      at = made.at_next;
      version = made.version;
      enough = omega (arith, few, well.enough);
      each = λ k d within sound. each_held mended named before behind well.remade at.sources_rise well.blamed_are well.end.still keeps targets at.targets_are well.spread answered well.answered_are (get_or made.after.pieces k d) sound;
    }

repair_sized : (t : Tables) (v : IsValid t) (plan : RepairPlan) → t.repair ≡ Some plan → (segment : SegmentRecord) → segment_at t.segments plan.segment.0 ≡ Some segment → segment.version ≡ plan.version → plan.len ≡ segment.len
repair_sized t v plan opened segment at version =
    let sound : is_sound_repair t.setup t.marks t.nodes t.segments plan ≡ true
    = subst (λ (o : Option RepairPlan). is_none_or (is_sound_repair t.setup t.marks t.nodes t.segments) o ≡ true) opened v.rules.repair in
    let planned : is_planned_of (segment_at t.segments plan.segment.0) plan.version (is_whole_repair_of t.setup t.nodes plan) ≡ true = grind (arith, nat_tests, sound) in
    let here : is_planned_of (Some segment) plan.version (is_whole_repair_of t.setup t.nodes plan) ≡ true
    = subst (λ (o : Option SegmentRecord). is_planned_of o plan.version (is_whole_repair_of t.setup t.nodes plan) ≡ true) at planned in
    let whole : is_whole_repair_of t.setup t.nodes plan segment ≡ true = grind (arith, nat_tests, here, version) in
    grind (arith, nat_tests, whole)

move_sized : (t : Tables) (v : IsValid t) (plan : RepairPlan) → open_move t ≡ Some plan → (segment : SegmentRecord) → segment_at t.segments plan.segment.0 ≡ Some segment → segment.version ≡ plan.version → plan.len ≡ segment.len
move_sized t v plan opened segment at version = go t.exit refl opened
  where
    go : (exit : Option ExitPlan) → t.exit ≡ exit → option_map move_of exit ≡ Some plan → plan.len ≡ segment.len
    go None is holds = absurd cc
    go (Some exit) is holds =
        let same : exit.plan ≡ plan = cc in
        let sound : is_sound_exit t.setup t.marks t.nodes t.segments exit ≡ true
        = subst (λ (o : Option ExitPlan). is_none_or (is_sound_exit t.setup t.marks t.nodes t.segments) o ≡ true) is v.rules.exit in
        let planned : is_planned_of (segment_at t.segments exit.plan.segment.0) exit.plan.version (is_move_of exit) ≡ true = grind (arith, nat_tests, sound) in
        let there : segment_at t.segments exit.plan.segment.0 ≡ Some segment = ap (λ (p : RepairPlan). segment_at t.segments p.segment.0) same ∙ at in
        let in_version : segment.version ≡ exit.plan.version = version ∙ ap (λ (p : RepairPlan). p.version) (sym same) in
        let here : is_planned_of (Some segment) exit.plan.version (is_move_of exit) ≡ true
        = subst (λ (o : Option SegmentRecord). is_planned_of o exit.plan.version (is_move_of exit) ≡ true) there planned in
        let moves : is_move_of exit segment ≡ true = grind (arith, nat_tests, here, in_version) in
        let len : exit.plan.len ≡ segment.len = grind (arith, nat_tests, moves) in
        ap (λ (p : RepairPlan). p.len) (sym same) ∙ len

-- the tables behind an end that was made
behind_end : (t : Tables) (h : List Said) (j : ℕ) (said : Said) (call : Call) → slice_get h j ≡ Some said → said.call ≡ call → is_lost said.reply ≡ false → at_place t h (suc j) ≡ after (at_place t h j) call
behind_end t h j said call at is made =
    next_at h j said t at
    ∙ ap (λ (b : Bool). if b then at_place t h j else after (at_place t h j) said.call) made
    ∙ ap (after (at_place t h j)) is

module _ (t : Tables) (h : List Said) (j : ℕ) (said : Said) (v : IsValid t) (legal : IsLegal t h) (at : slice_get h j ≡ Some said) (ends : is_repair_ended said.reply ≡ true) (call : Call) (is : said.call ≡ call) where
  abbrev here : Tables
  here = at_place t h j

  valid : IsValid here
  valid = valid_at h j t v legal

  formed : IsWellFormed here call
  formed = subst (IsWellFormed here) is (right_at h j said t legal at).formed

  answer : is_repair_ended (step here call).reply ≡ true
  answer =
      ap (λ (c : Call). is_repair_ended (step here c).reply) (sym is) ∙ ap is_repair_ended (sym ((right_at h j said t legal at).answer (ended_none said.reply ends))) ∙ ends

  next_is : at_place t h (suc j) ≡ after here call
  next_is = behind_end t h j said call at is (ended_none said.reply ends)

  next_valid : IsValid (after here call)
  next_valid = subst IsValid next_is (valid_at h (suc j) t v legal)

  kept_by : (mended : Mended) (named secret : List ℕ) (sources targets : List Place) (answered : List ℕ) (before behind : List Held) → IsSchemeOf here.setup mended.scheme → IsMended here (after here call) mended
      → ((segment : SegmentRecord) → segment_at here.segments mended.plan.segment.0 ≡ Some segment → segment.version ≡ mended.plan.version → mended.plan.len ≡ segment.len)
      → IsNamed here mended.plan.segment.0 named → AreAt mended sources targets → IsWellMended secret mended sources targets answered named before behind
      → KeepsBytes (at_place t h (j + 1)) mended answered named before behind
  kept_by mended named secret sources targets answered before behind scheme made sized_as names places well =
      let one : j + 1 ≡ suc j = omega arith in
      subst (λ (z : Tables). KeepsBytes z mended answered named before behind) (sym (ap (at_place t h) one ∙ next_is))
      (by_made here (after here call) valid next_valid mended named secret sources targets answered before behind scheme made names sized_as places well)

pub repair_keeps : (t : Tables) (h : List Said) (j : ℕ) (said : Said) (now : ℕ) (mended : Mended) (named secret : List ℕ) (sources targets : List Place) (answered : List ℕ) (before behind : List Held) → IsValid t → IsLegal t h
    → slice_get h j ≡ Some said → said.call ≡ repair_end mended now → is_repair_ended said.reply ≡ true → IsNamed (at_place t h j) mended.plan.segment.0 named → AreAt mended sources targets
    → IsWellMended secret mended sources targets answered named before behind → KeepsBytes (at_place t h (j + 1)) mended answered named before behind
repair_keeps t h j said now mended named secret sources targets answered before behind v legal at is ends names places well =
    let call = repair_end mended now in
    let f = formed t h j said v legal at ends call is in
    let a = answer t h j said v legal at ends call is in
    let w = valid t h j said v legal at ends call is in
    let held = repair_holds (at_place t h j) now (repairs.Mended mended) (accepts _ a) in
    kept_by t h j said v legal at ends call is mended named secret sources targets answered before behind f.scheme (mended_repair (at_place t h j) w now mended f a)
    (repair_sized (at_place t h j) w mended.plan held) names places well

pub move_keeps : (t : Tables) (h : List Said) (j : ℕ) (said : Said) (now : ℕ) (mended : Mended) (named secret : List ℕ) (sources targets : List Place) (answered : List ℕ) (before behind : List Held) → IsValid t → IsLegal t h
    → slice_get h j ≡ Some said → said.call ≡ move_end mended now → is_repair_ended said.reply ≡ true → IsNamed (at_place t h j) mended.plan.segment.0 named → AreAt mended sources targets
    → IsWellMended secret mended sources targets answered named before behind → KeepsBytes (at_place t h (j + 1)) mended answered named before behind
move_keeps t h j said now mended named secret sources targets answered before behind v legal at is ends names places well =
    let call = move_end mended now in
    let f = formed t h j said v legal at ends call is in
    let a = answer t h j said v legal at ends call is in
    let w = valid t h j said v legal at ends call is in
    let held = exit_holds (at_place t h j) now (repairs.Mended mended) (accepts _ a) in
    kept_by t h j said v legal at ends call is mended named secret sources targets answered before behind f.scheme (mended_move (at_place t h j) w now mended f a)
    (move_sized (at_place t h j) w mended.plan held) names places well
