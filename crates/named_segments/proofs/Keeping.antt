-- The next version of a mended segment, against its named bytes.
use Rattle.std.proofs.Common.{◌≡◌, inl, inr, ℕ, zero, suc, ◌<◌, ◌≤◌, ◌&&◌, ◌||◌, ◌==◌, Bool, true, false, not, List, [], ◌∷◌, length, get_or, Some, refl, sym, ap, ◌∙◌, subst, arith}
use Rattle.std.specs.Prelude.{All, filter, map, if◌then◌else◌}
use Rattle.std.specs.List.{AllZip, list_all}
use Rattle.std.proofs.lemmas.Bool.{eqb-true, or_cases, and_parts}
use Rattle.std.proofs.lemmas.Bool.Decides.{nat_tests}
use Rattle.std.proofs.lemmas.List.{length-map}
use Rattle.std.proofs.lemmas.List.Elements.{All-nil, All-cons, All-head, All-tail}
use Rattle.sat_base.specs.declared.items.Share.{Share}
use Rattle.sat_base.specs.declared.nodes.Held.{Held}
use Rattle.sat_base.specs.declared.records.At.{At}
use Rattle.sat_base.specs.declared.requests.Place.{Place}
use Rattle.sat_base.specs.Nodes.{held_at}
use Rattle.rs_stripe.specs.Segment.{piece_of}
use Rattle.bw_decode.specs.Near.{Rises}
use Rattle.segment_core.specs.Commit.{is_among}
use Rattle.repair_core.specs.declared.outcome.Mended.{Mended}
use Rattle.repair_core.specs.declared.rebuilt.Remade.{Remade}
use Rattle.repair_core.specs.Indexes.{has_index, place_indexes}
use Rattle.repair_core.specs.Rebuilt.{fresh_piece}
use Rattle.repair_core.proofs.Rising.{kept_are, member_has, all_among, rises_head, rises_tail}
use Rattle.machine_step.specs.Containment.{has_piece, same_place}
use Rattle.machine_step.specs.Health.{are_among}
use Rattle.machine_step.specs.Calls.PlanRepair.{has_index as has_index_at}
use Rattle.machine_step.specs.Mending.{is_kept, kept_sources, placed_targets}
use Rattle.machine_step.proofs.IndexLemmas.{rising-by_index, rising-some}
use Rattle.segment_core.specs.Places.{IsByIndex, index_of}
use Rattle.askable_plans.proofs.Pieces.{rises_at}
use Rattle.machine_step.specs.Tables.{Tables}
use Rattle.machine_plans.specs.Ends.{IsMended}
use Rattle.node_asks.specs.Asks.{at_of, pieces_of}
use Rattle.node_asks.specs.Ending.{sound_of}
use Rattle.node_asks.specs.Spreading.{HoldsFresh, IsSpread}
use Rattle.node_asks.proofs.SourceLemmas.{all_pass, all_some, rises_some}
use Rattle.node_asks.proofs.SpreadLemmas.{indexes_at, pieces-indexes}
use Rattle.named_segments.specs.Repairs.{HoldsPiece, IsHeld, KeepsPieces, is_sound_piece}
use Rattle.machine_step.proofs.SameLemmas.{same-place}

-- what holds of the indexes holds of the pieces
above_at : (xs : List At) (n k : ℕ) (d : At) → k < length xs → All (λ y. n < y) (place_indexes xs) → n < (get_or xs k d).index
above_at [] n k d within all = absurd (omega arith)
above_at (x ∷ xs) n zero d within all = All-head (λ y. n < y) x.index (place_indexes xs) all
above_at (x ∷ xs) n (suc k) d within all = above_at xs n k d (omega arith) (All-tail (λ y. n < y) x.index (place_indexes xs) all)

index_here : (xs : List At) (k : ℕ) (d : At) → k < length xs → has_index (place_indexes xs) (get_or xs k d).index ≡ true
index_here [] k d within = absurd (omega arith)
index_here (x ∷ xs) zero d within = grind (arith, nat_tests)
index_here (x ∷ xs) (suc k) d within = let rest = index_here xs k d (omega arith) in grind (arith, rest)

-- a piece that stands in a list is one of it
of_list : (P : At → Type 0) (pieces : List At) (piece : At) → All P pieces → has_piece pieces piece ≡ true → P piece
of_list P [] piece all has = absurd (cc)
of_list P (x ∷ xs) piece all has = go (same_place x piece) refl has (of_list P xs piece)
  where
    go : (b : Bool) → same_place x piece ≡ b → (b || has_piece xs piece) ≡ true → (All P xs → has_piece xs piece ≡ true → P piece) → P piece
    go true same h later = subst P (same-place x piece same) (All-head P x xs all)
    go false same h later = later (All-tail P x xs all) h

among_has : (xs : List ℕ) (y : ℕ) → is_among xs y ≡ has_index xs y
among_has [] y = refl
among_has (x ∷ xs) y = grind (arith, nat_tests, among_has xs y)

module _ (mended : Mended) (named : List ℕ) (before behind : List Held) (remade : Remade) where
  abbrev k : ℕ
  k = mended.scheme.k

  abbrev size : ℕ
  size = mended.scheme.share

  -- a placed target holds the segment's piece
  abbrev IsPlacedRight : At → Type 0
  IsPlacedRight target = is_among mended.placed target.index ≡ true → held_at behind target.node mended.plan.segment target.index ≡ Some (piece_of k size named target.index)

  targets_right : (targets : List Place) (fresh : List Share) → fresh ≡ map (fresh_piece k size named) (indexes_at targets) → AllZip (HoldsFresh behind mended.plan.segment mended.placed) targets fresh → All IsPlacedRight (pieces_of targets)
  targets_right [] fresh are holds = All-nil IsPlacedRight
  targets_right (t ∷ targets) [] are holds = absurd (cc)
  targets_right (t ∷ targets) (f ∷ fresh) are holds =
      let here : f ≡ fresh_piece k size named t.index = cc in
      let rest : fresh ≡ map (fresh_piece k size named) (indexes_at targets) = cc in
      All-cons IsPlacedRight (at_of t) (pieces_of targets)
      (λ placed. holds.0 (sym (among_has mended.placed t.index) ∙ placed) ∙ ap Some (ap (λ (s : Share). s.bytes) here))
      (targets_right targets fresh rest holds.1)

-- ---- members of a list of pieces

unique_at : (xs : List At) (a b : At) → Rises (place_indexes xs) → has_piece xs a ≡ true → has_piece xs b ≡ true → a.index ≡ b.index → a ≡ b
unique_at [] a b rises one two same = absurd (cc)
unique_at (x ∷ xs) a b rises one two same = go (same_place x a) (same_place x b) refl refl one two (unique_at xs a b (rises_tail x.index (place_indexes xs) rises))
  where
    above : All (λ y. x.index < y) (place_indexes xs)
    above = rises_head x.index (place_indexes xs) rises

    later : (c : At) → has_piece xs c ≡ true → x.index < c.index
    later c has = of_list (λ y. x.index < y.index) xs c (λ k d within. above_at xs x.index k d within above) has

    go : (p q : Bool) → same_place x a ≡ p → same_place x b ≡ q → (p || has_piece xs a) ≡ true → (q || has_piece xs b) ≡ true
        → (has_piece xs a ≡ true → has_piece xs b ≡ true → a.index ≡ b.index → a ≡ b) → a ≡ b
    go true true p q one two rest = sym (same-place x a p) ∙ same-place x b q
    go true false p q one two rest = let lt = later b two in let e = ap (λ (z : At). z.index) (same-place x a p) in absurd (omega (arith, lt, e, same))
    go false true p q one two rest = let lt = later a one in let e = ap (λ (z : At). z.index) (same-place x b q) in absurd (omega (arith, lt, e, same))
    go false false p q one two rest = rest one two same

-- an index of a list is that of a piece of it
piece_with : (xs : List At) (i : ℕ) → has_index (place_indexes xs) i ≡ true → (a : At) × (has_piece xs a ≡ true) × (a.index ≡ i)
piece_with [] i has = absurd (cc)
piece_with (x ∷ xs) i has = go (x.index == i) refl has (piece_with xs i)
  where
    go : (b : Bool) → (x.index == i) ≡ b → (b || has_index (place_indexes xs) i) ≡ true
        → (has_index (place_indexes xs) i ≡ true → (a : At) × (has_piece xs a ≡ true) × (a.index ≡ i)) → (a : At) × (has_piece (x ∷ xs) a ≡ true) × (a.index ≡ i)
    go true is h later = (x, grind (arith, nat_tests), eqb-true x.index i is)
    go false is h later = let rest = later h in (rest.0, grind (arith, rest.1), rest.2)

has_index_of : (xs : List At) (a : At) → has_piece xs a ≡ true → has_index (place_indexes xs) a.index ≡ true
has_index_of xs a has = of_list (λ y. has_index (place_indexes xs) y.index ≡ true) xs a (λ k d within. index_here xs k d within) has

-- one that passes a test is among those that do
passes_in : (test : At → Bool) (xs : List At) (a : At) → has_piece xs a ≡ true → test a ≡ true → has_piece (filter test xs) a ≡ true
passes_in test [] a has passes = absurd (cc)
passes_in test (x ∷ xs) a has passes = go (same_place x a) (test x) refl refl has (λ h. passes_in test xs a h passes)
  where
    go : (p q : Bool) → same_place x a ≡ p → test x ≡ q → (p || has_piece xs a) ≡ true → (has_piece xs a ≡ true → has_piece (filter test xs) a ≡ true) → has_piece (if q then x ∷ filter test xs else filter test xs) a ≡ true
    go true true same is h later = grind (arith, nat_tests, same)
    go true false same is h later = let e = ap test (same-place x a same) in absurd (cc)
    go false true same is h later = let rest = later h in grind (arith, nat_tests, rest)
    go false false same is h later = later h

filtered_in : (test : At → Bool) (xs : List At) (a : At) → has_piece (filter test xs) a ≡ true → (has_piece xs a ≡ true) × (test a ≡ true)
filtered_in test [] a has = absurd (cc)
filtered_in test (x ∷ xs) a has = go (test x) refl has (filtered_in test xs a)
  where
    go : (q : Bool) → test x ≡ q → has_piece (if q then x ∷ filter test xs else filter test xs) a ≡ true
        → (has_piece (filter test xs) a ≡ true → (has_piece xs a ≡ true) × (test a ≡ true)) → (has_piece (x ∷ xs) a ≡ true) × (test a ≡ true)
    go false is h later = let rest = later h in (grind (arith, rest.0), rest.1)
    go true is h later = here (same_place x a) refl h
      where
        here : (p : Bool) → same_place x a ≡ p → (p || has_piece (filter test xs) a) ≡ true → (has_piece (x ∷ xs) a ≡ true) × (test a ≡ true)
        here true same h = (grind (arith, nat_tests, same), ap test (sym (same-place x a same)) ∙ is)
        here false same h = let rest = later h in (grind (arith, rest.0), rest.1)

among_all : (pieces places : List At) (a : At) → are_among pieces places ≡ true → has_piece places a ≡ true → has_piece pieces a ≡ true
among_all pieces [] a all has = absurd (cc)
among_all pieces (x ∷ xs) a all has = go (same_place x a) refl has (among_all pieces xs a)
  where
    go : (p : Bool) → same_place x a ≡ p → (p || has_piece xs a) ≡ true → (are_among pieces xs ≡ true → has_piece xs a ≡ true → has_piece pieces a ≡ true) → has_piece pieces a ≡ true
    go true same h later = ap (has_piece pieces) (sym (same-place x a same)) ∙ grind (arith, all)
    go false same h later = later (grind (arith, all)) h

listed : (test : At → Bool) (xs : List At) (a : At) → list_all test xs ≡ true → has_piece xs a ≡ true → test a ≡ true
listed test [] a all has = absurd (cc)
listed test (x ∷ xs) a all has = go (same_place x a) refl has (listed test xs a)
  where
    go : (p : Bool) → same_place x a ≡ p → (p || has_piece xs a) ≡ true → (list_all test xs ≡ true → has_piece xs a ≡ true → test a ≡ true) → test a ≡ true
    go true same h later = ap test (sym (same-place x a same)) ∙ grind (arith, all)
    go false same h later = later (grind (arith, all)) h

-- ---- the next version

-- the answers of a mended repair
pub record AreAnswered (mended : Mended) (answered : List ℕ) : Type 0 where
  pub rise : Rises answered
  pub of_sources : All (λ index. has_index (place_indexes mended.plan.sources) index ≡ true) answered
  pub apart : All (λ index. has_index mended.missing index ≡ false) answered

module _ (mended : Mended) (answered : List ℕ) (sources_rise : Rises (place_indexes mended.plan.sources)) (are : AreAnswered mended answered) (t next : Tables) (made : IsMended t next mended) where
  abbrev sound : At → Bool
  sound = is_sound_piece mended answered

  index_of_places : (xs : List At) (i : ℕ) → has_index_at xs i ≡ has_index (place_indexes xs) i
  index_of_places [] i = refl
  index_of_places (x ∷ xs) i = ap (λ (b : Bool). (x.index == i) || b) (index_of_places xs i)

  sound_placed : (a : At) → has_piece (placed_targets mended) a ≡ true → sound a ≡ true
  sound_placed a h = ap (λ (b : Bool). b || (has_piece (kept_sources mended) a && has_index answered a.index)) h

  sound_kept : (a : At) → has_piece (kept_sources mended) a ≡ true → has_index answered a.index ≡ true → sound a ≡ true
  sound_kept a h g = grind (arith, h, g)

  -- each source that answered and isn't blamed has its index among those of the sound pieces
  covers : (i : ℕ) → has_index answered i ≡ true → has_index mended.blamed i ≡ false → has_index (place_indexes (filter sound made.after.pieces)) i ≡ true
  covers i there right =
      let found = piece_with mended.plan.sources i (member_has (λ j. has_index (place_indexes mended.plan.sources) j ≡ true) i answered are.of_sources there) in
      let source = found.0 in
      let blamed : is_among mended.blamed source.index ≡ false = ap (is_among mended.blamed) found.2 ∙ among_has mended.blamed i ∙ right in
      let missing : is_among mended.missing source.index ≡ false
      = ap (is_among mended.missing) found.2 ∙ among_has mended.missing i ∙ member_has (λ j. has_index mended.missing j ≡ false) i answered are.apart there in
      let passes : is_kept mended source ≡ true = (λ j. not (blamed j) && not (missing j)) in
      let kept = passes_in (is_kept mended) mended.plan.sources source found.1 passes in
      let answers : has_index answered source.index ≡ true = ap (has_index answered) found.2 ∙ there in
      elim (or_cases (has_piece made.after.pieces source) (has_index_at (placed_targets mended) source.index)
      (listed (λ one. has_piece made.after.pieces one || has_index_at (placed_targets mended) one.index) (kept_sources mended) source made.kept kept)) [
        | inl here ↦
            ap (has_index (place_indexes (filter sound made.after.pieces))) (sym found.2)
            ∙ has_index_of (filter sound made.after.pieces) source (passes_in sound made.after.pieces source here (sound_kept source kept answers))
        | inr there' ↦
            let target = piece_with (placed_targets mended) source.index (sym (index_of_places (placed_targets mended) source.index) ∙ there') in
            let in_next = among_all made.after.pieces (placed_targets mended) target.0 made.placed target.1 in
            ap (has_index (place_indexes (filter sound made.after.pieces))) (sym (target.2 ∙ found.2))
            ∙ has_index_of (filter sound made.after.pieces) target.0 (passes_in sound made.after.pieces target.0 in_next (sound_placed target.0 target.1))
      ]

  shorter : (p : ℕ → Bool) (xs : List ℕ) → length (filter p xs) ≤ length xs
  shorter p [] = omega arith
  shorter p (x ∷ xs) = go (p x) (shorter p xs)
    where
      go : (b : Bool) → length (filter p xs) ≤ length xs → length (if b then x ∷ filter p xs else filter p xs) ≤ suc (length xs)
      go true le = omega (arith, le)
      go false le = omega (arith, le)

  not_true : (b : Bool) → not b ≡ true → b ≡ false
  not_true true h = absurd (cc)
  not_true false h = refl

  pub enough_sound : IsByIndex made.after.pieces → length (sound_of mended.blamed answered) ≤ length (filter sound made.after.pieces)
  enough_sound by =
      let xs = place_indexes (filter sound made.after.pieces) in
      let test : ℕ → Bool = λ i. not (has_index mended.blamed i) in
      let ys = sound_of mended.blamed answered in
      let rise : Rises xs = rises_at (filter sound made.after.pieces) (rising-some index_of sound made.after.pieces (rising-by_index made.after.pieces by)) in
      let all : All (λ y. has_index xs y ≡ true) ys
      = λ k d within. covers (get_or ys k d) (all_some (λ j. has_index answered j ≡ true) test answered (all_among answered) k d within) (not_true _ (all_pass test answered k d within)) in
      let same : filter (has_index ys) xs ≡ ys = kept_are xs ys rise (rises_some test answered are.rise) all in
      let few : length (filter (has_index ys) xs) ≤ length xs = shorter (has_index ys) xs in
      let long : length xs ≡ length (filter sound made.after.pieces) = length-map (filter sound made.after.pieces) (λ (piece : At). piece.index) in
      omega (arith, few, ap length same, long)

-- a place with an index
place_with : (P : Place → Type 0) (xs : List Place) (i : ℕ) → All P xs → has_index (indexes_at xs) i ≡ true → (p : Place) × P p × (p.index ≡ i)
place_with P [] i all has = absurd (cc)
place_with P (x ∷ xs) i all has = go (x.index == i) refl has (place_with P xs i (All-tail P x xs all))
  where
    go : (b : Bool) → (x.index == i) ≡ b → (b || has_index (indexes_at xs) i) ≡ true → (has_index (indexes_at xs) i ≡ true → (p : Place) × P p × (p.index ≡ i)) → (p : Place) × P p × (p.index ≡ i)
    go true is h later = (x, All-head P x xs all, eqb-true x.index i is)
    go false is h later = later h

module _ (mended : Mended) (named : List ℕ) (before behind : List Held) (remade : Remade) (sources_rise : Rises (place_indexes mended.plan.sources)) (blamed_are : mended.blamed ≡ remade.blamed)
    (still : List Place) (keeps : KeepsPieces mended.scheme mended.plan named before remade still) (targets : List Place) (targets_are : pieces_of targets ≡ mended.plan.targets)
    (spread : IsSpread before mended.plan.segment targets remade.fresh mended.placed behind) where
  placed_held : (piece : At) → has_piece (placed_targets mended) piece ≡ true → held_at behind piece.node mended.plan.segment piece.index ≡ Some (piece_of mended.scheme.k mended.scheme.share named piece.index)
  placed_held piece has =
      let parts = filtered_in (λ target. is_among mended.placed target.index) mended.plan.targets piece has in
      let fresh : remade.fresh ≡ map (fresh_piece mended.scheme.k mended.scheme.share named) (indexes_at targets)
      = keeps.fresh ∙ ap (map (fresh_piece mended.scheme.k mended.scheme.share named)) (ap place_indexes (sym targets_are) ∙ pieces-indexes targets) in
      let all : All (IsPlacedRight mended named before behind remade) mended.plan.targets
      = subst (All (IsPlacedRight mended named before behind remade)) targets_are (targets_right mended named before behind remade targets remade.fresh fresh spread.holds) in
      of_list (IsPlacedRight mended named before behind remade) mended.plan.targets piece all parts.0 parts.1

  abbrev IsStill : Place → Type 0
  IsStill place = (has_index remade.blamed place.index ≡ false → HoldsPiece mended.scheme mended.plan named before place) × (has_piece mended.plan.sources (at_of place) ≡ true)

  source_held : (piece : At) → has_piece (kept_sources mended) piece ≡ true → has_index (indexes_at still) piece.index ≡ true → HoldsPiece mended.scheme mended.plan named before (record { index = piece.index; node = piece.node; addr = 0; port = 0 })
  source_held piece has there =
      let parts = filtered_in (is_kept mended) mended.plan.sources piece has in
      let kept = and_parts (not (is_among mended.blamed piece.index)) (not (is_among mended.missing piece.index)) parts.1 in
      let right : has_index remade.blamed piece.index ≡ false
      = ap (λ (xs : List ℕ). has_index xs piece.index) (sym blamed_are) ∙ sym (among_has mended.blamed piece.index) ∙ not_so (is_among mended.blamed piece.index) kept.0 in
      let place = place_with IsStill still piece.index (λ k d within. (keeps.sources k d within, keeps.places k d within)) there in
      let same : at_of place.0 ≡ piece = unique_at mended.plan.sources (at_of place.0) piece sources_rise place.1.1 parts.0 place.2 in
      let holds = place.1.0 (ap (has_index remade.blamed) place.2 ∙ right) in
      record {
        bytes = holds.bytes;
        held = (λ i. held_at before (sym same i).node mended.plan.segment (sym same i).index) ∙ holds.held;
        same = holds.same ∙ ap (piece_of mended.scheme.k mended.scheme.share named) place.2;
      }
    where
      not_so : (b : Bool) → not b ≡ true → b ≡ false
      not_so true h = absurd (cc)
      not_so false h = refl

  pub each_held : (answered : List ℕ) → answered ≡ indexes_at still → (piece : At) → is_sound_piece mended answered piece ≡ true → IsHeld mended.scheme mended.plan named before behind piece
  each_held answered are piece sound = elim (or_cases (has_piece (placed_targets mended) piece) (has_piece (kept_sources mended) piece && has_index answered piece.index) sound) [
    | inl placed ↦ inl (placed_held piece placed)
    | inr other ↦
        let parts = and_parts (has_piece (kept_sources mended) piece) (has_index answered piece.index) other in
        let held = source_held piece parts.0 (ap (λ (xs : List ℕ). has_index xs piece.index) (sym are) ∙ parts.1) in
        inr (held.bytes, held.held, held.same)
  ]
