-- Fresh pieces at their targets, one more.
use Rattle.std.proofs.Common.{◌≡◌, ℕ, ◌+◌, ◌-◌, ◌^◌, ◌<◌, ◌≤◌, Bool, true, false, not, List, [], ◌∷◌, ◌++◌, length, take, get_or, Option, Some, None, refl, ap, sym, subst, ◌∙◌, inl, inr, arith}
use Rattle.std.specs.Prelude.{All, map, ◌||◌, slice_index}
use Rattle.std.specs.List.{AllZip}
use Rattle.std.proofs.Math.Nat.{eq-or-lt_of_le}
use Rattle.std.proofs.Math.Seq.{get_or-append_seam}
use Rattle.std.proofs.lemmas.Bool.Decides.{nat_tests}
use Rattle.std.proofs.lemmas.List.{get_or-map, get_or-take, length-append, length-map, map-append, get_or_append_left, take-map, take_more, length-take-le}
use Rattle.std.proofs.lemmas.List.Elements.{All-head, All-tail, All-append, All-cons, All-nil}
use Rattle.std.proofs.lemmas.List.Folds.{list_any-append}
use Rattle.std.proofs.lemmas.Slice.Zip.{all_zipped_more}
use mathlib.Core.Bool.{or-false}
use Rattle.sat_base.specs.declared.ids.SegId.{SegId}
use Rattle.sat_base.specs.declared.items.Share.{Share}
use Rattle.sat_base.specs.declared.nodes.Ask.{Ask}
use Rattle.sat_base.specs.declared.nodes.Held.{Held}
use Rattle.sat_base.specs.declared.nodes.Stored.TheVariants as stores
use Rattle.sat_base.specs.declared.requests.Place.{Place}
use Rattle.sat_base.specs.declared.scheme.Scheme.{Scheme}
use Rattle.sat_base.specs.Nodes.{AsksSome, is_piece, StoredTo, Stores, KeepsOthers}
use Rattle.sat_base.specs.Outside.{CountsExactly, with_end}
use Rattle.sat_base.proofs.Told.{with_end-end}
use Rattle.bw_decode.specs.Near.{Rises}
use Rattle.repair_core.specs.declared.plan.RepairPlan.{RepairPlan}
use Rattle.repair_core.specs.Indexes.{has_index, place_indexes}
use Rattle.repair_core.proofs.Marks.{has_index-append}
use Rattle.repair_core.proofs.Rising.{member_has, all_among}
use Rattle.node_asks.specs.Asks.{put_ask, pieces_of}
use Rattle.node_asks.specs.Spreading.{HoldsFresh, is_target, IsSpread, Spreads, stored_as, CountsLeftOut}

abbrev pub indexes_at : List Place → List ℕ
indexes_at places = map (λ place. place.index) places

-- the indexes with one more, where it was kept
abbrev pub kept_with : List ℕ → Bool → ℕ → List ℕ
kept_with kept true index = kept ++ index ∷ []
kept_with kept false index = kept

-- ---- indexes

kept_below : (kept : List ℕ) (b : Bool) (index other : ℕ) → other < index → has_index (kept_with kept b index) other ≡ true → has_index kept other ≡ true
kept_below kept false index other less has = has
kept_below kept true index other less has = let e = has_index-append kept (index ∷ []) other in grind (arith, nat_tests, e, has)

below_indexes : (ts : List Place) (index : ℕ) → All (λ t. t.index < index) ts → All (λ i. i < index) (indexes_at ts)
below_indexes [] index below = All-nil (λ i. i < index)
below_indexes (t ∷ rest) index below =
    All-cons (λ i. i < index) t.index (indexes_at rest) (All-head (λ (u : Place). u.index < index) t rest below)
    (below_indexes rest index (All-tail (λ (u : Place). u.index < index) t rest below))

-- all kept indexes are below
lower : (ts : List Place) (index : ℕ) (kept : List ℕ) → All (λ t. t.index < index) ts → All (λ i. has_index (indexes_at ts) i ≡ true) kept → (other : ℕ) → has_index kept other ≡ true → other < index
lower ts index kept below among other has =
    let there = member_has (λ i. has_index (indexes_at ts) i ≡ true) other kept among has in
    member_has (λ i. i < index) other (indexes_at ts) (below_indexes ts index below) there

-- a rising list with a greater number behind it rises
rises_pushed : (xs : List ℕ) (x : ℕ) → ((y : ℕ) → has_index xs y ≡ true → y < x) → Rises xs → Rises (xs ++ x ∷ [])
rises_pushed xs x above rises i j before within =
    let long = length-append xs (x ∷ []) in
    let at_most : j ≤ length xs = omega (arith, long, within) in
    let first : slice_index (xs ++ x ∷ []) i ≡ slice_index xs i = get_or_append_left xs (x ∷ []) 0 i (omega (arith, before, at_most)) in
    elim (eq-or-lt_of_le at_most) [
      | inl last ↦
          let there : slice_index (xs ++ x ∷ []) j ≡ x = subst (λ n. get_or (xs ++ x ∷ []) n 0 ≡ x) (sym last) (get_or-append_seam xs x [] 0) in
          let lower = above (slice_index xs i) (all_among xs i 0 (omega (arith, before, last))) in
          omega (arith, first, there, lower)
      | inr less ↦
          let second : slice_index (xs ++ x ∷ []) j ≡ slice_index xs j = get_or_append_left xs (x ∷ []) 0 j less in
          omega (arith, first, second, rises i j before less)
    ]

-- ---- what is held

other_piece : (p t : Place) (segment : SegId) (bytes : List ℕ) → t.index < p.index
    → is_piece p.node segment p.index (record { node = t.node; segment = segment; index = t.index; bytes = bytes }) ≡ false
other_piece p t segment bytes less = grind (arith, nat_tests)

-- earlier targets hold what they held
still_hold : (mid new : List Held) (segment : SegId) (ts : List Place) (fs : List Share) (p : Place) (kept : List ℕ) (b : Bool) → All (λ t. t.index < p.index) ts
    → KeepsOthers p.node segment p.index mid new → AllZip (HoldsFresh mid segment kept) ts fs → AllZip (HoldsFresh new segment (kept_with kept b p.index)) ts fs
still_hold mid new segment [] [] p kept b below others holds = tt
still_hold mid new segment [] (f ∷ fs) p kept b below others holds = elim holds [ ]
still_hold mid new segment (t ∷ ts) [] p kept b below others holds = elim holds [ ]
still_hold mid new segment (t ∷ ts) (f ∷ fs) p kept b below others holds =
    let less = All-head (λ (u : Place). u.index < p.index) t ts below in
    let there : Held = record { node = t.node; segment = segment; index = t.index; bytes = [] } in (
      (λ has. others there (other_piece p t segment [] less) ∙ holds.0 (kept_below kept b p.index t.index less has)),
      still_hold mid new segment ts fs p kept b (All-tail (λ (u : Place). u.index < p.index) t ts below) others holds.1,
    )

-- the next target holds its piece, where it was kept
holds_own : (secret : List ℕ) (scheme : Scheme) (plan : RepairPlan) (mid new : List Held) (p : Place) (f : Share) (kept : List ℕ) (b : Bool)
    → StoredTo mid (put_ask secret scheme plan p) f.bytes (stored_as b) new → ((other : ℕ) → has_index kept other ≡ true → other < p.index)
    → HoldsFresh new plan.segment (kept_with kept b p.index) p f
holds_own secret scheme plan mid new p f kept true stored lower has = stored.0 refl
holds_own secret scheme plan mid new p f kept false stored lower has = let h = lower p.index has in absurd (omega (arith, h))

pub or_left : (a b : Bool) → (a || b) ≡ false → a ≡ false
or_left true b e = cc
or_left false b e = refl

pub or_right : (a b : Bool) → (a || b) ≡ false → b ≡ false
or_right true b e = cc
or_right false b e = e

one_more : (secret : List ℕ) (scheme : Scheme) (plan : RepairPlan) (old mid new : List Held) (ts : List Place) (fs : List Share) (p : Place) (f : Share) (kept : List ℕ) (b : Bool)
    → IsSpread old plan.segment ts fs kept mid → StoredTo mid (put_ask secret scheme plan p) f.bytes (stored_as b) new
    → All (λ t. t.index < p.index) ts → All (λ i. has_index (indexes_at ts) i ≡ true) kept
    → IsSpread old plan.segment (ts ++ p ∷ []) (fs ++ f ∷ []) (kept_with kept b p.index) new
one_more secret scheme plan old mid new ts fs p f kept b before stored below among = record {
  holds = all_zipped_more (HoldsFresh new plan.segment (kept_with kept b p.index)) ts fs p f
      (still_hold mid new plan.segment ts fs p kept b below stored.1 before.holds)
      (holds_own secret scheme plan mid new p f kept b stored (lower ts p.index kept below among));
  others = λ held. λ none.
      let split = sym (list_any-append (λ (place : Place). is_piece place.node plan.segment place.index held) ts (p ∷ [])) ∙ none in
      stored.1 held (sym (or-false (is_piece p.node plan.segment p.index held)) ∙ or_right (is_target plan.segment ts held) _ split) ∙ before.others held (or_left _ _ split);
}

pub spreads_more : (secret : List ℕ) (scheme : Scheme) (plan : RepairPlan) (old mid new : Option (List Held)) (targets : List Place) (fresh : List Share) (i : ℕ) (p : Place) (f : Share) (kept : List ℕ) (b : Bool)
    → i < length targets → i < length fresh
    → Spreads old plan.segment (take i targets) (take i fresh) mid kept → Stores mid (put_ask secret scheme plan (get_or targets i p)) (get_or fresh i f).bytes (stored_as b) new
    → All (λ t. t.index < (get_or targets i p).index) (take i targets) → All (λ j. has_index (indexes_at (take i targets)) j ≡ true) kept
    → Spreads old plan.segment (take (i + 1) targets) (take (i + 1) fresh) new (kept_with kept b (get_or targets i p).index)
spreads_more secret scheme plan None mid new targets fresh i p f kept b less shorter before stored below among =
    subst (λ (m : Option (List Held)). Stores m (put_ask secret scheme plan (get_or targets i p)) (get_or fresh i f).bytes (stored_as b) new) before stored
spreads_more secret scheme plan (Some old) mid new targets fresh i p f kept b less shorter before stored below among =
    let now = subst (λ (m : Option (List Held)). Stores m (put_ask secret scheme plan (get_or targets i p)) (get_or fresh i f).bytes (stored_as b) new) before.1 stored in
    let next = one_more secret scheme plan old before.0 now.0 (take i targets) (take i fresh) (get_or targets i p) (get_or fresh i f) kept b before.2 now.2 below among in (
      now.0,
      now.1,
      subst (λ (fs : List Share). IsSpread old plan.segment (take (i + 1) targets) fs (kept_with kept b (get_or targets i p).index) now.0) (sym (take_more fresh i f shorter))
          (subst (λ (ts : List Place). IsSpread old plan.segment ts (take i fresh ++ get_or fresh i f ∷ []) (kept_with kept b (get_or targets i p).index) now.0) (sym (take_more targets i p less)) next),
    )

-- ---- the lists

pub rises_more : (targets : List Place) (i : ℕ) (p : Place) (kept : List ℕ) (b : Bool) → All (λ t. t.index < (get_or targets i p).index) (take i targets)
    → All (λ j. has_index (indexes_at (take i targets)) j ≡ true) kept → Rises kept → Rises (kept_with kept b (get_or targets i p).index)
rises_more targets i p kept true below among rises = rises_pushed kept (get_or targets i p).index (lower (take i targets) (get_or targets i p).index kept below among) rises
rises_more targets i p kept false below among rises = rises

among_wider : (ts : List Place) (p : Place) (kept : List ℕ) → All (λ j. has_index (indexes_at ts) j ≡ true) kept → All (λ j. has_index (indexes_at (ts ++ p ∷ [])) j ≡ true) kept
among_wider ts p [] among = All-nil (λ j. has_index (indexes_at (ts ++ p ∷ [])) j ≡ true)
among_wider ts p (j ∷ rest) among =
    let e = ap (λ (xs : List ℕ). has_index xs j) (map-append (λ (t : Place). t.index) ts (p ∷ [])) ∙ has_index-append (indexes_at ts) (p.index ∷ []) j in
    All-cons (λ k. has_index (indexes_at (ts ++ p ∷ [])) k ≡ true) j rest (e ∙ ap (λ c. c || has_index (p.index ∷ []) j) (All-head (λ k. has_index (indexes_at ts) k ≡ true) j rest among))
    (among_wider ts p rest (All-tail (λ k. has_index (indexes_at ts) k ≡ true) j rest among))

own_among : (ts : List Place) (p : Place) → has_index (indexes_at (ts ++ p ∷ [])) p.index ≡ true
own_among ts p =
    let e = ap (λ (xs : List ℕ). has_index xs p.index) (map-append (λ (t : Place). t.index) ts (p ∷ [])) ∙ has_index-append (indexes_at ts) (p.index ∷ []) p.index in
    e ∙ grind (arith, nat_tests)

among_one : (ts : List Place) (p : Place) (kept : List ℕ) (b : Bool) → All (λ j. has_index (indexes_at ts) j ≡ true) kept → All (λ j. has_index (indexes_at (ts ++ p ∷ [])) j ≡ true) (kept_with kept b p.index)
among_one ts p kept true among = All-append (λ j. has_index (indexes_at (ts ++ p ∷ [])) j ≡ true) kept (p.index ∷ []) (among_wider ts p kept among)
    (All-cons (λ j. has_index (indexes_at (ts ++ p ∷ [])) j ≡ true) p.index [] (own_among ts p) (All-nil (λ j. has_index (indexes_at (ts ++ p ∷ [])) j ≡ true)))
among_one ts p kept false among = among_wider ts p kept among

pub among_more : (targets : List Place) (i : ℕ) (p : Place) (kept : List ℕ) (b : Bool) → i < length targets → All (λ j. has_index (indexes_at (take i targets)) j ≡ true) kept
    → All (λ j. has_index (indexes_at (take (i + 1) targets)) j ≡ true) (kept_with kept b (get_or targets i p).index)
among_more targets i p kept b less among =
    subst (λ (ts : List Place). All (λ j. has_index (indexes_at ts) j ≡ true) (kept_with kept b (get_or targets i p).index)) (sym (take_more targets i p less))
    (among_one (take i targets) (get_or targets i p) kept b among)

pub kept-with : (kept : List ℕ) (b : Bool) (index : ℕ) → length (kept_with kept b index) ≤ length kept + 1
kept-with kept true index = omega (arith, length-append kept (index ∷ []))
kept-with kept false index = omega arith

pub counts_left : (kept : List ℕ) (b : Bool) (index i old mid new : ℕ) → length kept ≤ i → CountsLeftOut i (length kept) old mid → CountsExactly (not b) mid new
    → CountsLeftOut (i + 1) (length (kept_with kept b index)) old new
counts_left kept true index i old mid new fewer before same small = let h = before (omega (arith, same, small)) in omega (arith, h, same, length-append kept (index ∷ []))
counts_left kept false index i old mid new fewer before more small = let is = more.1 in let h = before (omega arith) in omega (arith, h, fewer)

-- the targets before one have lesser indexes
pub below_next : (targets : List Place) (i : ℕ) (p : Place) → i < length targets → Rises (indexes_at targets) → All (λ t. t.index < (get_or targets i p).index) (take i targets)
below_next targets i p less rises k d within =
    let short : k < i = omega (arith, within, length-take-le i targets (omega arith)) in
    let at_k : slice_index (indexes_at targets) k ≡ (get_or targets k d).index = get_or-map (λ (t : Place). t.index) targets k d 0 (omega arith) in
    let at_i : slice_index (indexes_at targets) i ≡ (get_or targets i p).index = get_or-map (λ (t : Place). t.index) targets i p 0 less in
    let h = rises k i short (omega (arith, less, length-map targets (λ (t : Place). t.index))) in
    rw (get_or-take i targets k d short) (omega (arith, at_k, at_i, h))

-- the indexes of the pieces at places are those of the places
pub pieces-indexes : (places : List Place) → place_indexes (pieces_of places) ≡ indexes_at places
pieces-indexes [] = refl
pieces-indexes (place ∷ rest) = ap (λ (xs : List ℕ). place.index ∷ xs) (pieces-indexes rest)

-- ---- the targets so far

-- what nodes told and counted as the puts began
pub record Before : Type 0 where
  pub held : Option (List Held)
  pub asks : Option (List Ask)
  pub faults : ℕ

module _ (secret : List ℕ) (scheme : Scheme) (plan : RepairPlan) (targets : List Place) (fresh : List Share) where
  -- what became of the first i targets
  pub record IsPut (old now : Before) (i : ℕ) (kept : List ℕ) : Type 0 where
    pub rising : Rises kept
    pub among : All (λ index. has_index (indexes_at (take i targets)) index ≡ true) kept
    pub spread : Spreads old.held plan.segment (take i targets) (take i fresh) now.held kept
    pub left_out : CountsLeftOut i (length kept) old.faults now.faults
    pub fewer : length kept ≤ i
    pub asks : now.asks ≡ with_end old.asks (map (put_ask secret scheme plan) (take i targets))
    pub counts : old.faults ≤ now.faults
    pub last : old.faults ≡ 2 ^ 64 - 1 → now.faults ≡ 2 ^ 64 - 1

  pub put_more : (old now next : Before) (i : ℕ) (p : Place) (f : Share) (kept : List ℕ) (b : Bool) → i < length targets → i < length fresh → Rises (indexes_at targets)
      → IsPut old now i kept → Stores now.held (put_ask secret scheme plan (get_or targets i p)) (get_or fresh i f).bytes (stored_as b) next.held
      → next.asks ≡ with_end now.asks (put_ask secret scheme plan (get_or targets i p) ∷ []) → CountsExactly (not b) now.faults next.faults
      → now.faults ≤ next.faults → (now.faults ≡ 2 ^ 64 - 1 → next.faults ≡ 2 ^ 64 - 1)
      → IsPut old next (i + 1) (kept_with kept b (get_or targets i p).index)
  put_more old now next i p f kept b less shorter rises before stored asked counted up last =
      let below = below_next targets i p less rises in
      record {
        rising = rises_more targets i p kept b below before.among before.rising;
        among = among_more targets i p kept b less before.among;
        spread = spreads_more secret scheme plan old.held now.held next.held targets fresh i p f kept b less shorter before.spread stored below before.among;
        left_out = counts_left kept b (get_or targets i p).index i old.faults now.faults next.faults before.fewer before.left_out counted;
        fewer = omega (arith, kept-with kept b (get_or targets i p).index, before.fewer);
        asks = asked ∙ ap (λ (o : Option (List Ask)). with_end o (put_ask secret scheme plan (get_or targets i p) ∷ [])) before.asks
            ∙ with_end-end old.asks (map (put_ask secret scheme plan) (take i targets)) (put_ask secret scheme plan (get_or targets i p) ∷ [])
            ∙ ap (λ (xs : List Ask). with_end old.asks xs)
            (sym (map-append (put_ask secret scheme plan) (take i targets) (get_or targets i p ∷ [])) ∙ ap (λ (ts : List Place). map (put_ask secret scheme plan) ts) (sym (take_more targets i p less)));
        counts = omega (arith, up, before.counts);
        last = λ e. last (before.last e);
      }

-- ---- puts that were given up

pub put_some : (secret : List ℕ) (scheme : Scheme) (plan : RepairPlan) (targets : List Place) (old : Option (List Ask)) {new : Option (List Ask)} (i : ℕ)
    → new ≡ with_end old (map (put_ask secret scheme plan) (take i targets)) → AsksSome old (map (put_ask secret scheme plan) targets) new
put_some secret scheme plan targets old i e = (i, e ∙ ap (λ (xs : List Ask). with_end old xs) (sym (take-map (put_ask secret scheme plan) i targets)))

pub put_some_more : (secret : List ℕ) (scheme : Scheme) (plan : RepairPlan) (targets : List Place) (old now : Option (List Ask)) {new : Option (List Ask)} (i : ℕ) (p : Place) → i < length targets
    → now ≡ with_end old (map (put_ask secret scheme plan) (take i targets)) → new ≡ with_end now (put_ask secret scheme plan (get_or targets i p) ∷ [])
    → AsksSome old (map (put_ask secret scheme plan) targets) new
put_some_more secret scheme plan targets old now i p less before asked =
    put_some secret scheme plan targets old (i + 1)
    (asked ∙ ap (λ (o : Option (List Ask)). with_end o (put_ask secret scheme plan (get_or targets i p) ∷ [])) before
    ∙ with_end-end old (map (put_ask secret scheme plan) (take i targets)) (put_ask secret scheme plan (get_or targets i p) ∷ [])
    ∙ ap (λ (xs : List Ask). with_end old xs)
    (sym (map-append (put_ask secret scheme plan) (take i targets) (get_or targets i p ∷ [])) ∙ ap (λ (ts : List Place). map (put_ask secret scheme plan) ts) (sym (take_more targets i p less))))
