-- The sources of a repair once it was asked: who answered, who is blamed and who is missing, and what was made.
use Rattle.std.proofs.Common.{◌≡◌, ℕ, zero, suc, ◌+◌, ◌*◌, ◌<◌, Bool, true, false, not, List, [], ◌∷◌, ◌++◌, length, get_or, Option, Some, None, refl, sym, ap, subst, ◌∙◌, arith, length-append}
use Rattle.std.specs.Prelude.{All, filter, map, if◌then◌else◌, ◌==◌, ◌||◌, ◌&&◌}
use Rattle.std.specs.List.{AllZip, concat}
use Rattle.std.proofs.Math.Nat.{zero-mul}
use Rattle.std.proofs.lemmas.Bool.Decides.{nat_tests}
use Rattle.std.proofs.lemmas.List.Elements.{All-nil, All-cons, All-head, All-tail}
use Rattle.std.proofs.lemmas.Bool.{or_from}
use Rattle.sat_base.specs.declared.items.Share.{Share}
use Rattle.sat_base.specs.declared.nodes.Ask.{Ask}
use Rattle.sat_base.specs.declared.nodes.Fetched.{Fetched}
use Rattle.sat_base.specs.declared.nodes.Fetched.TheVariants as fetches
use Rattle.sat_base.specs.declared.nodes.Held.{Held}
use Rattle.sat_base.specs.declared.requests.Place.{Place}
use Rattle.sat_base.specs.declared.scheme.Scheme.{Scheme}
use Rattle.sat_base.specs.Scheme.{stripe_count}
use Rattle.rs_stripe.specs.Segment.{share_of}
use Rattle.rs_stripe.proofs.SegmentLemmas.{length-share_of}
use Rattle.bw_decode.specs.Altered.{indexes_of}
use Rattle.bw_decode.specs.Near.{Rises}
use Rattle.repair_core.specs.declared.plan.RepairPlan.{RepairPlan}
use Rattle.repair_core.specs.declared.rebuilt.Remade.{Remade}
use Rattle.repair_core.specs.Indexes.{has_index, place_indexes}
use Rattle.repair_core.specs.Progress.{Progress}
use Rattle.repair_core.specs.Stripes.{altered_indexes, longer}
use Rattle.repair_core.specs.Windows.{IsWindow, after, empty_piece}
use Rattle.repair_core.proofs.Marks.{has_index-append}
use Rattle.repair_core.proofs.Rising.{all_among, member_has, rises_head, rises_cons, has_above, rises_tail}
use Rattle.node_asks.specs.declared.answers.Answered.{Answered}
use Rattle.node_asks.specs.declared.remaking.Heeded.{Heeded}
use Rattle.node_asks.specs.Answers.{lacking_in, places_in, shares_in, sharing_in}
use Rattle.node_asks.specs.Asks.{piece_len_of, pieces_of}
use Rattle.node_asks.specs.Remaking.{Ends, Heeding, Heeds, Remakes, blamed_of, heeding_of}
use Rattle.node_asks.specs.Spreading.{IsFresh}
use Rattle.node_asks.specs.Telling.{AreSources}
use Rattle.node_asks.proofs.RemakeLemmas.{shares_all, shares_rise, sharing-indexes}
use Rattle.node_asks.proofs.SpreadLemmas.{indexes_at, pieces-indexes}

-- ---- rising numbers

pub all_some : (P : ℕ → Type 0) (test : ℕ → Bool) (xs : List ℕ) → All P xs → All P (filter test xs)
all_some P test [] all = All-nil P
all_some P test (x ∷ xs) all = go (test x) (all_some P test xs (All-tail P x xs all))
  where
    go : (b : Bool) → All P (filter test xs) → All P (if b then x ∷ filter test xs else filter test xs)
    go true rest = All-cons P x (filter test xs) (All-head P x xs all) rest
    go false rest = rest

pub rises_some : (test : ℕ → Bool) (xs : List ℕ) → Rises xs → Rises (filter test xs)
rises_some test [] rises = rises
rises_some test (x ∷ xs) rises = go (test x) (rises_some test xs (rises_tail x xs rises))
  where
    go : (b : Bool) → Rises (filter test xs) → Rises (if b then x ∷ filter test xs else filter test xs)
    go true rest = rises_cons x (filter test xs) (all_some (λ y. x < y) test xs (rises_head x xs rises)) rest
    go false rest = rest

pub all_pass : (test : ℕ → Bool) (xs : List ℕ) → All (λ x. test x ≡ true) (filter test xs)
all_pass test [] = All-nil (λ x. test x ≡ true)
all_pass test (x ∷ xs) = go (test x) refl (all_pass test xs)
  where
    go : (b : Bool) → test x ≡ b → All (λ y. test y ≡ true) (filter test xs) → All (λ y. test y ≡ true) (if b then x ∷ filter test xs else filter test xs)
    go true is rest = All-cons (λ y. test y ≡ true) x (filter test xs) is rest
    go false is rest = rest

-- what doesn't pass isn't among those that do
pub none_pass : (test : ℕ → Bool) (xs : List ℕ) (y : ℕ) → test y ≡ false → has_index (filter test xs) y ≡ false
none_pass test xs y fails = go (has_index (filter test xs) y) refl
  where
    go : (b : Bool) → has_index (filter test xs) y ≡ b → b ≡ false
    go true is = let passes : test y ≡ true = member_has (λ x. test x ≡ true) y (filter test xs) (all_pass test xs) is in absurd (cc)
    go false is = refl

-- ---- who is missing in a window gave no share in it

lacking_all : (P : ℕ → Type 0) (all : List Answered) → All P (indexes_at (places_in all)) → All P (lacking_in all)
lacking_all P [] each = All-nil P
lacking_all P (one ∷ rest) each = go one.place one.what (All-head P one.place.index (indexes_at (places_in rest)) each) (lacking_all P rest (All-tail P one.place.index (indexes_at (places_in rest)) each))
  where
    go : (place : Place) (what : Fetched) → P place.index → All P (lacking_in rest) → All P (lacking_in (record { place = place; what = what } ∷ rest))
    go place (fetches.Share bytes) here tail = tail
    go place fetches.Missing here tail = All-cons P place.index (lacking_in rest) here tail
    go place fetches.NoAnswer here tail = tail
    go place fetches.NoMemory here tail = tail

sharing_all : (P : ℕ → Type 0) (all : List Answered) → All P (indexes_at (places_in all)) → All P (indexes_at (sharing_in all))
sharing_all P [] each = All-nil P
sharing_all P (one ∷ rest) each = go one.place one.what (All-head P one.place.index (indexes_at (places_in rest)) each) (sharing_all P rest (All-tail P one.place.index (indexes_at (places_in rest)) each))
  where
    go : (place : Place) (what : Fetched) → P place.index → All P (indexes_at (sharing_in rest)) → All P (indexes_at (sharing_in (record { place = place; what = what } ∷ rest)))
    go place (fetches.Share bytes) here tail = All-cons P place.index (indexes_at (sharing_in rest)) here tail
    go place fetches.Missing here tail = tail
    go place fetches.NoAnswer here tail = tail
    go place fetches.NoMemory here tail = tail

off_by_one : (x y : ℕ) (b : Bool) → x < y → b ≡ false → ((x == y) || b) ≡ false
off_by_one x y b lt none = grind (arith, nat_tests, none, lt)

lacking_apart : (all : List Answered) → Rises (indexes_at (places_in all)) → All (λ i. has_index (lacking_in all) i ≡ false) (indexes_at (sharing_in all))
lacking_apart [] rises = All-nil (λ i. false ≡ false)
lacking_apart (one ∷ rest) rises = go one.place one.what (rises_head one.place.index (indexes_at (places_in rest)) rises) (lacking_apart rest (rises_tail one.place.index (indexes_at (places_in rest)) rises))
  where
    go : (place : Place) (what : Fetched) → All (λ y. place.index < y) (indexes_at (places_in rest)) → All (λ i. has_index (lacking_in rest) i ≡ false) (indexes_at (sharing_in rest))
        → All (λ i. has_index (lacking_in (record { place = place; what = what } ∷ rest)) i ≡ false) (indexes_at (sharing_in (record { place = place; what = what } ∷ rest)))
    go place (fetches.Share bytes) above tail =
        All-cons (λ i. has_index (lacking_in rest) i ≡ false) place.index (indexes_at (sharing_in rest)) (has_above place.index (lacking_in rest) (lacking_all (λ y. place.index < y) rest above)) tail
    go place fetches.Missing above tail =
        let later = sharing_all (λ y. place.index < y) rest above in
        λ k d within. off_by_one place.index (get_or (indexes_at (sharing_in rest)) k d) (has_index (lacking_in rest) (get_or (indexes_at (sharing_in rest)) k d)) (later k d within) (tail k d within)
    go place fetches.NoAnswer above tail = tail
    go place fetches.NoMemory above tail = tail

-- ---- the sources that are left

pub record AreLeft (sources : List ℕ) (now : Heeding) : Type 0 where
  pub rising : Rises (indexes_at now.still)
  pub among : All (λ index. has_index sources index ≡ true) (indexes_at now.still)
  pub apart : All (λ index. has_index now.gone index ≡ false) (indexes_at now.still)

left_next : (sources : List ℕ) (old : Heeding) (all : List Answered) → places_in all ≡ old.still → AreLeft sources old → Rises (indexes_at (sharing_in all)) × All (λ index. has_index sources index ≡ true) (indexes_at (sharing_in all)) × All (λ index. has_index (old.gone ++ lacking_in all) index ≡ false) (indexes_at (sharing_in all))
left_next sources old all places left =
    let by = sharing-indexes all in
    let none = lacking_apart all (subst (λ (xs : List Place). Rises (indexes_at xs)) (sym places) left.rising) in
    let before : All (λ index. has_index old.gone index ≡ false) (indexes_at (sharing_in all))
    = subst (All (λ index. has_index old.gone index ≡ false)) (sym by) (shares_all (λ index. has_index old.gone index ≡ false) all old.still places left.apart) in (
      subst Rises (sym by) (shares_rise all old.still places left.rising),
      subst (All (λ index. has_index sources index ≡ true)) (sym by) (shares_all (λ index. has_index sources index ≡ true) all old.still places left.among),
      λ k d within.
          let i = get_or (indexes_at (sharing_in all)) k d in
          has_index-append old.gone (lacking_in all) i ∙ or_from (has_index old.gone i) (has_index (lacking_in all) i) (before k d within) (none k d within),
    )

pub left_at : (sources : List ℕ) (old new : Heeding) (all : List Answered) → places_in all ≡ old.still → AreLeft sources old → new.still ≡ sharing_in all → new.gone ≡ old.gone ++ lacking_in all → AreLeft sources new
left_at sources old new all places left still gone =
    let next = left_next sources old all places left in
    record {
      rising = subst (λ (xs : List Place). Rises (indexes_at xs)) (sym still) next.0;
      among = subst (λ (xs : List Place). All (λ index. has_index sources index ≡ true) (indexes_at xs)) (sym still) next.1;
      apart = subst (λ (z : List Place × List ℕ). All (λ index. has_index z.1 index ≡ false) (indexes_at z.0)) (λ i. (sym still i, sym gone i)) next.2;
    }

pub left_first : (scheme : Scheme) (plan : RepairPlan) (sources : List Place) → pieces_of sources ≡ plan.sources → Rises (place_indexes plan.sources) → AreLeft (place_indexes plan.sources) (heeding_of scheme plan sources)
left_first scheme plan sources same rises =
    let own_are : place_indexes plan.sources ≡ indexes_at sources = sym (ap place_indexes same) ∙ pieces-indexes sources in
    record {
      rising = subst Rises own_are rises;
      among = subst (All (λ index. has_index (place_indexes plan.sources) index ≡ true)) own_are (all_among (place_indexes plan.sources));
      apart = λ k d within. refl;
    }

-- ---- what is made so far

length-shares : (k size index : ℕ) (stripes : List (List ℕ)) → length (concat (map (λ stripe. share_of k size stripe index) stripes)) ≡ length stripes * size
length-shares k size index [] = sym (zero-mul size)
length-shares k size index (s ∷ stripes) =
    length-append (share_of k size s index) (concat (map (λ stripe. share_of k size stripe index) stripes))
    ∙ omega (arith, length-share_of k size s index, length-shares k size index stripes)

longer_indexes : (k size : ℕ) (stripes : List (List ℕ)) (pieces : List Share) → indexes_of (map (longer k size stripes) pieces) ≡ indexes_of pieces
longer_indexes k size stripes [] = refl
longer_indexes k size stripes (p ∷ ps) = ap (λ (xs : List ℕ). p.index ∷ xs) (longer_indexes k size stripes ps)

longer_long : (k size done : ℕ) (stripes : List (List ℕ)) (pieces : List Share) → All (λ piece. length piece.bytes ≡ done * size) pieces → All (λ piece. length piece.bytes ≡ (done + length stripes) * size) (map (longer k size stripes) pieces)
longer_long k size done stripes [] long = All-nil (λ (piece : Share). length piece.bytes ≡ (done + length stripes) * size)
longer_long k size done stripes (p ∷ ps) long =
    let P : Share → Type 0 = λ piece. length piece.bytes ≡ done * size in
    All-cons (λ (piece : Share). length piece.bytes ≡ (done + length stripes) * size) (longer k size stripes p) (map (longer k size stripes) ps)
    (length-append p.bytes (concat (map (λ stripe. share_of k size stripe p.index) stripes)) ∙ omega (arith, All-head P p ps long, length-shares k size p.index stripes))
    (longer_long k size done stripes ps (All-tail P p ps long))

empty_indexes : (targets : List ℕ) → indexes_of (map empty_piece targets) ≡ targets
empty_indexes [] = refl
empty_indexes (t ∷ ts) = ap (λ (xs : List ℕ). t ∷ xs) (empty_indexes ts)

empty_long : (size : ℕ) (targets : List ℕ) → All (λ piece. length piece.bytes ≡ 0 * size) (map empty_piece targets)
empty_long size [] = All-nil (λ (piece : Share). length piece.bytes ≡ 0 * size)
empty_long size (t ∷ ts) = All-cons (λ (piece : Share). length piece.bytes ≡ 0 * size) (empty_piece t) (map empty_piece ts) (sym (zero-mul size)) (empty_long size ts)

pub record IsMadeOf (size count : ℕ) (sources targets : List ℕ) (now : Progress) : Type 0 where
  pub sources_are : now.sources ≡ sources
  pub size_is : now.size ≡ size
  pub count_is : now.count ≡ count
  pub blamed_rise : Rises now.blamed
  pub blamed_of : All (λ index. has_index sources index ≡ true) now.blamed
  pub indexes : indexes_of now.fresh ≡ targets
  pub long : All (λ piece. length piece.bytes ≡ now.done * size) now.fresh

made_after : (size count : ℕ) (sources targets : List ℕ) (old : Progress) (shares : List Share) (stripes : List (List ℕ)) → Rises sources → IsMadeOf size count sources targets old → IsMadeOf size count sources targets (after old shares stripes)
made_after size count sources targets old shares stripes rises made =
    let test : ℕ → Bool = λ index. has_index old.blamed index || has_index (altered_indexes old.k old.size (length stripes) stripes shares) index in
    record {
      sources_are = made.sources_are;
      size_is = made.size_is;
      count_is = made.count_is;
      blamed_rise = subst (λ (xs : List ℕ). Rises (filter test xs)) (sym made.sources_are) (rises_some test sources rises);
      blamed_of = subst (λ (xs : List ℕ). All (λ index. has_index sources index ≡ true) (filter test xs)) (sym made.sources_are)
          (all_some (λ index. has_index sources index ≡ true) test sources (all_among sources));
      indexes = longer_indexes old.k old.size stripes old.fresh ∙ made.indexes;
      long = subst (λ (n : ℕ). All (λ piece. length piece.bytes ≡ (old.done + length stripes) * n) (map (longer old.k old.size stripes) old.fresh)) made.size_is
          (longer_long old.k old.size old.done stripes old.fresh (subst (λ (n : ℕ). All (λ piece. length piece.bytes ≡ old.done * n) old.fresh) (sym made.size_is) made.long));
    }

made_next : (size count : ℕ) (sources targets : List ℕ) (old new : Progress) (shares : List Share) → Rises sources → IsWindow old shares new → IsMadeOf size count sources targets old → IsMadeOf size count sources targets new
made_next size count sources targets old new shares rises window made =
    subst (IsMadeOf size count sources targets) (sym window.is_after) (made_after size count sources targets old shares window.stripes rises made)

module _ (held : Option (List Held)) (secret : List ℕ) (scheme : Scheme) (plan : RepairPlan) (sources : List Place) (same : pieces_of sources ≡ plan.sources) (rises : Rises (place_indexes plan.sources)) where
  abbrev own : List ℕ
  own = place_indexes plan.sources

  abbrev count : ℕ
  count = stripe_count scheme.k scheme.share plan.len

  made_first : IsMadeOf scheme.share count own (place_indexes plan.targets) (heeding_of scheme plan sources).progress
  made_first = record {
    sources_are = refl;
    size_is = refl;
    count_is = refl;
    blamed_rise = λ i j before within. absurd (omega arith);
    blamed_of = All-nil (λ index. has_index own index ≡ true);
    indexes = empty_indexes (place_indexes plan.targets);
    long = empty_long scheme.share (place_indexes plan.targets);
  }

  heeds_left : (n : ℕ) (end : Heeding) → Heeds held secret scheme plan n (heeding_of scheme plan sources) end → AreLeft own end × IsMadeOf scheme.share count own (place_indexes plan.targets) end.progress
  heeds_left zero end h = subst (λ (z : Heeding). AreLeft own z × IsMadeOf scheme.share count own (place_indexes plan.targets) z.progress) h (left_first scheme plan sources same rises, made_first)
  heeds_left (suc n) end h =
      let before = heeds_left n h.0 h.1 in
      let step = h.3 in (
        left_at own h.0 end step.all step.answered.places before.0 (ap (λ (z : Heeding). z.still) step.is_after) (ap (λ (z : Heeding). z.gone) step.is_after),
        made_next scheme.share count own (place_indexes plan.targets) h.0.progress end.progress (shares_in step.all) rises step.window before.1,
      )

  abbrev missing_at : Option Remade → Heeding → List ℕ
  missing_at made end = filter (λ index. has_index end.gone index && not (has_index (blamed_of made) index)) own

  and_none : (a b : Bool) → a ≡ false → (a && b) ≡ false
  and_none true b p = absurd (cc)
  and_none false b p = refl

  and_not : (a b : Bool) → b ≡ true → (a && not b) ≡ false
  and_not true b p = ap not p
  and_not false b p = refl

  -- of these, with whoever is blamed
  sources_at : (made : Option Remade) (end : Heeding) → AreLeft own end → Rises (blamed_of made) → All (λ index. has_index own index ≡ true) (blamed_of made) → AreSources plan (blamed_of made) (indexes_at end.still) (missing_at made end)
  sources_at made end left blamed_rise blamed_of_own =
      let test : ℕ → Bool = λ index. has_index end.gone index && not (has_index (blamed_of made) index) in
      record {
        sources_rise = rises;
        blamed_rise = blamed_rise;
        answered_rise = left.rising;
        missing_rise = rises_some test own rises;
        blamed_of_sources = blamed_of_own;
        answered_of_sources = left.among;
        missing_of_sources = all_some (λ index. has_index own index ≡ true) test own (all_among own);
        missing_silent = λ k d within. let i = get_or (indexes_at end.still) k d in none_pass test own i (and_none (has_index end.gone i) (not (has_index (blamed_of made) i)) (left.apart k d within));
        missing_apart = λ k d within. let i = get_or (blamed_of made) k d in none_pass test own i (and_not (has_index end.gone i) (has_index (blamed_of made) i) (all_among (blamed_of made) k d within));
      }

  ends_sources : (made : Option Remade) (end : Heeding) → Ends held secret scheme plan sources made end → AreSources plan (blamed_of made) (indexes_at end.still) (missing_at made end)
  ends_sources None end e =
      let before = heeds_left e.0 e.1 e.2 in
      let step = e.4 in
      sources_at None end (left_at own e.1 end step.all step.answered.places before.0 (ap (λ (z : Heeding). z.still) step.is_after) (ap (λ (z : Heeding). z.gone) step.is_after))
      (λ i j before within. absurd (omega arith)) (All-nil (λ index. has_index own index ≡ true))
  ends_sources (Some remade) end e =
      let at = heeds_left e.0.0 end e.0.1 in
      sources_at (Some remade) end at.0 (subst Rises (sym e.2) at.1.blamed_rise) (subst (All (λ index. has_index own index ≡ true)) (sym e.2) at.1.blamed_of)

  pub remade_sources : (old new : Option (List Ask)) (faults later : ℕ) (heeded : Heeded) → Remakes held old new secret scheme plan sources faults later heeded → AreSources plan (blamed_of heeded.made) heeded.answered heeded.missing
  remade_sources old new faults later heeded r =
      subst (λ (z : List ℕ × List ℕ). AreSources plan (blamed_of heeded.made) z.0 z.1) (λ i. (sym r.is.answered i, sym r.is.missing i)) (ends_sources heeded.made r.end r.is.ends)

  fresh_at : (len : ℕ) (targets : List Place) (fresh : List Share) → indexes_of fresh ≡ indexes_at targets → All (λ piece. length piece.bytes ≡ len) fresh → AllZip (IsFresh len) targets fresh
  fresh_at len [] [] are long = tt
  fresh_at len [] (f ∷ fresh) are long = absurd (cc)
  fresh_at len (t ∷ targets) [] are long = absurd (cc)
  fresh_at len (t ∷ targets) (f ∷ fresh) are long =
      let P : Share → Type 0 = λ piece. length piece.bytes ≡ len in
      let here : f.index ≡ t.index = cc in
      let rest : indexes_of fresh ≡ indexes_at targets = cc in
      ((here, All-head P f fresh long), fresh_at len targets fresh rest (All-tail P f fresh long))

  ends_fresh : (targets : List Place) (remade : Remade) (end : Heeding) → pieces_of targets ≡ plan.targets → Ends held secret scheme plan sources (Some remade) end → AllZip (IsFresh (piece_len_of scheme plan)) targets remade.fresh
  ends_fresh targets remade end are e =
      let at = (heeds_left e.0.0 end e.0.1).1 in
      let whole : end.progress.done ≡ count = e.1 ∙ at.count_is in
      let indexes : indexes_of remade.fresh ≡ indexes_at targets = ap indexes_of e.3 ∙ at.indexes ∙ sym (ap place_indexes are) ∙ pieces-indexes targets in
      let long : All (λ piece. length piece.bytes ≡ piece_len_of scheme plan) remade.fresh
      = subst (λ (z : List Share × ℕ). All (λ piece. length piece.bytes ≡ z.1 * scheme.share) z.0) (λ i. (sym e.3 i, whole i)) at.long in
      fresh_at (piece_len_of scheme plan) targets remade.fresh indexes long

  made_fresh : (targets : List Place) (made : Option Remade) (remade : Remade) (end : Heeding) → made ≡ Some remade → pieces_of targets ≡ plan.targets → Ends held secret scheme plan sources made end → AllZip (IsFresh (piece_len_of scheme plan)) targets remade.fresh
  made_fresh targets None remade end is are e = absurd (cc)
  made_fresh targets (Some other) remade end is are e = let one : other ≡ remade = cc in subst (λ (m : Remade). AllZip (IsFresh (piece_len_of scheme plan)) targets m.fresh) one (ends_fresh targets other end are e)

  pub remade_fresh : (targets : List Place) (old new : Option (List Ask)) (faults later : ℕ) (heeded : Heeded) (remade : Remade) → Remakes held old new secret scheme plan sources faults later heeded → heeded.made ≡ Some remade → pieces_of targets ≡ plan.targets
      → AllZip (IsFresh (piece_len_of scheme plan)) targets remade.fresh
  remade_fresh targets old new faults later heeded remade r is are = made_fresh targets heeded.made remade r.end is are r.is.ends
