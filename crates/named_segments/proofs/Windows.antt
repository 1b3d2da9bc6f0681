-- The windows of a repair whose sources answer well, against a named segment.
use Rattle.std.proofs.Common.{◌≡◌, ℕ, zero, suc, ◌+◌, ◌-◌, ◌*◌, ◌<◌, ◌≤◌, ◌||◌, Bool, true, false, List, [], ◌∷◌, ◌++◌, length, get_or, take, drop, Some, refl, sym, ap, ◌∙◌, subst, arith, slice_index_or}
use Rattle.std.specs.Prelude.{All, map}
use Rattle.std.specs.List.{AllZip, concat}
use Rattle.std.proofs.Math.Nat.{zero-mul}
use Rattle.std.proofs.Math.Seq.{take-add}
use Rattle.std.proofs.lemmas.List.Elements.{All-nil, All-cons, All-head, All-tail}
use Rattle.sat_base.specs.declared.items.Share.{Share}
use Rattle.sat_base.specs.declared.nodes.Fetched.{Fetched}
use Rattle.sat_base.specs.declared.nodes.Fetched.TheVariants as fetches
use Rattle.sat_base.specs.declared.nodes.Held.{Held}
use Rattle.sat_base.specs.declared.records.At.{At}
use Rattle.sat_base.specs.declared.requests.Place.{Place}
use Rattle.sat_base.specs.declared.scheme.Scheme.{Scheme}
use Rattle.sat_base.specs.Nodes.{Fetches, asked_of, held_at, range_of}
use Rattle.sat_base.specs.Scheme.{stripe_count}
use Rattle.rs_stripe.specs.Segment.{piece_of, share_of, stripe_of, tabulate}
use Rattle.bw_decode.specs.Altered.{indexes_of, is_altered}
use Rattle.bw_decode.specs.Near.{IsNear, Rises}
use Rattle.bw_decode.proofs.NearStripes.{one_near}
use Rattle.repair_core.specs.declared.plan.RepairPlan.{RepairPlan}
use Rattle.repair_core.specs.declared.rebuilt.Remade.{Remade}
use Rattle.repair_core.specs.Answers.{answer_at, answers_at}
use Rattle.repair_core.specs.Indexes.{has_index, joined, place_indexes}
use Rattle.repair_core.specs.Kept.{IsKept}
use Rattle.repair_core.specs.Progress.{Progress}
use Rattle.repair_core.specs.Rebuilt.{fresh_piece}
use Rattle.repair_core.specs.Stripes.{AreNear, altered_indexes, is_ever_altered, longer}
use Rattle.repair_core.specs.Windows.{after, empty_piece, next_stripes}
use Rattle.repair_core.proofs.Mending.{indexes_of-answers_at}
use Rattle.repair_core.proofs.Rising.{member_has}
use Rattle.machine_step.specs.Containment.{has_piece}
use Rattle.node_asks.specs.declared.answers.Answered.{Answered}
use Rattle.node_asks.specs.Answers.{answers_in, places_in, shares_in, sharing_in}
use Rattle.node_asks.specs.Asks.{at_of, pieces_of, window_ask}
use Rattle.node_asks.specs.Remaking.{Ends, Heeding, Heeds, IsHeeded, heeding_of}
use Rattle.node_asks.proofs.RemakeLemmas.{shares_all, shares_rise, some_window}
use Rattle.node_asks.proofs.SourceLemmas.{AreLeft, left_at, left_first}
use Rattle.node_asks.proofs.SpreadLemmas.{indexes_at, or_left, or_right}
use Rattle.named_segments.specs.Repairs.{AreWellHeard, IsWellHeard, KeepsPieces}
use Rattle.named_segments.proofs.Members.{fails_if, places_have, sharing_places}
use Rattle.named_segments.proofs.Shares.{concat_both, never_altered, not_among, share_whole, shares_same}
use Rattle.named_segments.proofs.Stripes.{stripe_bytes, stripe_long}
use Rattle.sat_base.proofs.TextLemmas.{map_some}

module _ (pieces : List Held) (secret : List ℕ) (scheme : Scheme) (plan : RepairPlan) (named : List ℕ) where
  abbrev part : ℕ → ℕ → List ℕ
  part index s = share_of scheme.k scheme.share (stripe_of scheme.k scheme.share named s) index

  -- the first stripes of the segment's piece
  abbrev pub front : ℕ → ℕ → List ℕ
  front index done = concat (tabulate done (part index))

  abbrev pub front_piece : ℕ → ℕ → Share
  front_piece done index = record { index = index; bytes = front index done }

  -- a source that isn't blamed holds them
  pub record IsRight (blamed : List ℕ) (done : ℕ) (place : Place) : Type 0 where
    pub holds : has_index blamed place.index ≡ false → 0 < done → (bytes : List ℕ) × (held_at pieces place.node plan.segment place.index ≡ Some bytes) × (take (done * scheme.share) bytes ≡ front place.index done)

  -- ---- one window of one source

  front_held : (blamed : List ℕ) (done : ℕ) (place : Place) (whole : List ℕ) → IsRight blamed done place → has_index blamed place.index ≡ false → held_at pieces place.node plan.segment place.index ≡ Some whole
      → take (done * scheme.share) whole ≡ front place.index done
  front_held blamed zero place whole right none held = ap (λ n. take n whole) (zero-mul scheme.share)
  front_held blamed (suc d) place whole right none held =
      let before = right.holds none (omega arith) in
      let same : before.0 ≡ whole = let two : Some before.0 ≡ Some whole = sym before.1 ∙ held in cc in
      ap (λ (xs : List ℕ). take (suc d * scheme.share) xs) (sym same) ∙ before.2

  window_held : (blamed : List ℕ) (done number : ℕ) (place : Place) (bytes : List ℕ) → IsRight blamed done place → has_index blamed place.index ≡ false
      → Fetches (Some pieces) (window_ask secret scheme plan done number place) (fetches.Share bytes) → bytes ≡ concat (tabulate number (λ s. part place.index (done + s)))
      → (whole : List ℕ) × (held_at pieces place.node plan.segment place.index ≡ Some whole) × (take ((done + number) * scheme.share) whole ≡ front place.index (done + number))
  window_held blamed done number place bytes right none fetched is =
      let ask = window_ask secret scheme plan done number place in
      let there = map_some (range_of ask) (asked_of pieces ask) bytes fetched in
      let split : (done + number) * scheme.share ≡ done * scheme.share + number * scheme.share = omega arith in
      let range : take (number * scheme.share) (drop (done * scheme.share) there.0) ≡ bytes = there.2 in (
        there.0,
        there.1,
        ap (λ n. take n there.0) split
            ∙ take-add (done * scheme.share) (number * scheme.share) there.0
            ∙ (λ i. front_held blamed done place there.0 right none there.1 i ++ (range ∙ is) i)
            ∙ sym (concat_both done number (part place.index)),
      )

  -- ---- one window of all sources

  abbrev IsOf : ℕ → ℕ → List ℕ → Share → Type 0
  IsOf done number altered share = has_index altered share.index ≡ false → share.bytes ≡ concat (tabulate number (λ s. part share.index (done + s)))

  right_next : (own blamed altered : List ℕ) (done number : ℕ) (all : List Answered) → All (λ index. has_index own index ≡ true) (indexes_at (places_in all))
      → AllZip (Fetches (Some pieces)) (map (window_ask secret scheme plan done number) (places_in all)) (answers_in all) → All (IsRight blamed done) (places_in all) → All (IsOf done number altered) (shares_in all)
      → All (IsRight (joined own blamed altered) (done + number)) (sharing_in all)
  right_next own blamed altered done number [] among fetched right shares = All-nil (IsRight (joined own blamed altered) (done + number))
  right_next own blamed altered done number (one ∷ rest) among fetched right shares = go one.place one.what (All-head H one.place.index (indexes_at (places_in rest)) among) fetched.0 (All-head (IsRight blamed done) one.place (places_in rest) right) shares
      (right_next own blamed altered done number rest (All-tail H one.place.index (indexes_at (places_in rest)) among) fetched.1 (All-tail (IsRight blamed done) one.place (places_in rest) right))
    where
      H : ℕ → Type 0
      H = λ index. has_index own index ≡ true

      go : (place : Place) (what : Fetched) → has_index own place.index ≡ true → Fetches (Some pieces) (window_ask secret scheme plan done number place) what → IsRight blamed done place
          → All (IsOf done number altered) (shares_in (record { place = place; what = what } ∷ rest))
          → (All (IsOf done number altered) (shares_in rest) → All (IsRight (joined own blamed altered) (done + number)) (sharing_in rest))
          → All (IsRight (joined own blamed altered) (done + number)) (sharing_in (record { place = place; what = what } ∷ rest))
      go place (fetches.Share bytes) mine got before of later =
          let share : Share = record { index = place.index; bytes = bytes } in
          let test : ℕ → Bool = λ index. has_index blamed index || has_index altered index in
          All-cons (IsRight (joined own blamed altered) (done + number)) place (sharing_in rest)
          (record {
            holds = λ none some.
                let fails : test place.index ≡ false = fails_if test own place.index mine none in
                window_held blamed done number place bytes before (or_left _ _ fails) got (All-head (IsOf done number altered) share (shares_in rest) of (or_right (has_index blamed place.index) _ fails));
          })
          (later (All-tail (IsOf done number altered) share (shares_in rest) of))
      go place fetches.Missing mine got before of later = later of
      go place fetches.NoAnswer mine got before of later = later of
      go place fetches.NoMemory mine got before of later = later of

  -- ---- what is made

  longer_front : (done number : ℕ) (stripes : List (List ℕ)) (targets : List ℕ) → length stripes ≡ number → ((s : ℕ) → s < number → slice_index_or stripes s [] ≡ stripe_of scheme.k scheme.share named (done + s))
      → map (longer scheme.k scheme.share stripes) (map (front_piece done) targets) ≡ map (front_piece (done + number)) targets
  longer_front done number stripes [] long same = refl
  longer_front done number stripes (t ∷ ts) long same =
      let more : concat (map (λ stripe. share_of scheme.k scheme.share stripe t) stripes) ≡ concat (tabulate number (λ s. part t (done + s)))
      = shares_same scheme.k scheme.share number t (λ s. stripe_of scheme.k scheme.share named (done + s)) stripes long same in
      let bytes : front t done ++ concat (map (λ stripe. share_of scheme.k scheme.share stripe t) stripes) ≡ front t (done + number)
      = ap (λ (xs : List ℕ). front t done ++ xs) more ∙ sym (concat_both done number (part t)) in
      λ i. (let q : Share = record { index = t; bytes = bytes i } in q) ∷ longer_front done number stripes ts long same i

  -- ---- the whole

  module _ (len : length named ≡ plan.len) (are : All (λ byte. byte < 256) named) (rises : Rises (place_indexes plan.sources)) (below : All (λ i. i < scheme.n) (place_indexes plan.sources)) where
    abbrev own : List ℕ
    own = place_indexes plan.sources

    abbrev count : ℕ
    count = stripe_count scheme.k scheme.share plan.len

    pub record IsSoFar (now : Heeding) : Type 0 where
      pub left : AreLeft own now
      pub kept : IsKept scheme.k scheme.share scheme.n count own now.progress
      pub window : 1 ≤ now.progress.window
      pub within : now.progress.done ≤ count
      pub fresh : now.progress.fresh ≡ map (front_piece now.progress.done) (place_indexes plan.targets)
      pub right : All (IsRight now.progress.blamed now.progress.done) now.still
      pub places : All (λ place. has_piece plan.sources (at_of place) ≡ true) now.still

    k_few : scheme.k ≤ 256
    k_few = omega (arith, scheme.repairs_in_time, scheme.wants_more, scheme.tries_enough, scheme.few_pieces)

    -- the stripes of a window are the segment's
    same_stripes : (old : Progress) (shares : List Share) (stripes : List (List ℕ)) (number : ℕ) → old.done + number ≤ count → Rises (indexes_of shares) → All (λ i. i < 256) (indexes_of shares)
        → AreNear scheme.k scheme.share number shares stripes → length stripes ≡ number
        → ((s : ℕ) → s < number → IsNear scheme.k scheme.share (stripe_of scheme.k scheme.share named (old.done + s)) (answers_at scheme.share number s shares))
        → (s : ℕ) → s < number → slice_index_or stripes s [] ≡ stripe_of scheme.k scheme.share named (old.done + s)
    same_stripes old shares stripes number fits rise low near long well s lt =
        let found = near s (omega (arith, lt, long)) in
        let answers = answers_at scheme.share number s shares in
        let indexes = indexes_of-answers_at scheme.share number s shares in
        let inside : old.done + s < stripe_count scheme.k scheme.share (length named)
        = subst (λ (n : ℕ). old.done + s < stripe_count scheme.k scheme.share n) (sym len) (omega (arith, lt, fits)) in
        one_near scheme.k scheme.share (slice_index_or stripes s []) (stripe_of scheme.k scheme.share named (old.done + s)) answers k_few
        (subst Rises (sym indexes) rise) (subst (All (λ i. i < 256)) (sym indexes) low) found.long found.bytes
        (stripe_long scheme.k scheme.share named (old.done + s) scheme.rebuilds scheme.some_bytes inside) (stripe_bytes scheme.k scheme.share named (old.done + s) are) found.near (well s lt)

    low_still : (now : Heeding) → AreLeft own now → All (λ i. i < 256) (indexes_at now.still)
    low_still now left k d within =
        let lt = member_has (λ i. i < scheme.n) (get_or (indexes_at now.still) k d) own below (left.among k d within) in
        omega (arith, lt, scheme.few_pieces)

    abbrev P : Place → Type 0
    P place = has_piece plan.sources (at_of place) ≡ true

    step : (old new : Heeding) → IsSoFar old → old.progress.done < old.progress.count → (h : IsHeeded (Some pieces) secret scheme plan old new) → IsWellHeard scheme.k scheme.share named old.progress (shares_in h.all) → IsSoFar new
    step old new before less h well =
        let p = old.progress in
        let stripes = h.window.stripes in
        let number = next_stripes p in
        let shares = shares_in h.all in
        let some : 1 ≤ number = omega (arith, before.window, less) in
        let fits : p.done + number ≤ count = omega (arith, less, before.kept.count_is) in
        let near : AreNear scheme.k scheme.share number shares stripes
        = subst (λ (z : ℕ × ℕ × ℕ). AreNear z.0 z.1 z.2 shares stripes) (λ i. (before.kept.k_is i, before.kept.size_is i, h.window.number i)) h.window.near in
        let rise : Rises (indexes_of shares) = shares_rise h.all old.still h.answered.places before.left.rising in
        let low : All (λ i. i < 256) (indexes_of shares) = shares_all (λ i. i < 256) h.all old.still h.answered.places (low_still old before.left) in
        let answered : (s : ℕ) → s < number → IsNear scheme.k scheme.share (stripe_of scheme.k scheme.share named (p.done + s)) (answers_at scheme.share number s shares)
        = λ s lt. well.each s lt in
        let same = same_stripes p shares stripes number fits rise low near h.window.number answered in
        let altered = altered_indexes scheme.k scheme.share number stripes shares in
        let progress : new.progress ≡ after p shares stripes = ap (λ (z : Heeding). z.progress) h.is_after ∙ h.window.is_after in
        let done : new.progress.done ≡ p.done + number = ap (λ (z : Progress). z.done) progress ∙ ap (λ n. p.done + n) h.window.number in
        let blamed : new.progress.blamed ≡ joined own p.blamed altered
        = ap (λ (z : Progress). z.blamed) progress
        ∙ (λ i. joined (before.kept.sources_are i) p.blamed (altered_indexes (before.kept.k_is i) (before.kept.size_is i) (h.window.number i) stripes shares)) in
        let fresh : new.progress.fresh ≡ map (front_piece (p.done + number)) (place_indexes plan.targets)
        = ap (λ (z : Progress). z.fresh) progress
        ∙ (λ i. map (longer (before.kept.k_is i) (before.kept.size_is i) stripes) (before.fresh i))
        ∙ longer_front p.done number stripes (place_indexes plan.targets) h.window.number same in
        let of : All (IsOf p.done number altered) shares
        = λ j d within none.
        let share = get_or shares j d in
        let never : is_ever_altered scheme.k scheme.share number stripes share ≡ false = not_among (is_ever_altered scheme.k scheme.share number stripes) shares j d within none in
        share_whole scheme.k scheme.share number (λ s. stripe_of scheme.k scheme.share named (p.done + s)) share scheme.some_bytes some
        (λ s lt. ap (λ (z : List ℕ). is_altered scheme.k scheme.share z (answer_at scheme.share number s share)) (sym (same s lt)) ∙ never_altered scheme.k scheme.share number stripes share h.window.number never s lt) in
        let asks : AllZip (Fetches (Some pieces)) (map (window_ask secret scheme plan p.done number) (places_in h.all)) (answers_in h.all)
        = subst (λ (xs : List Place). AllZip (Fetches (Some pieces)) (map (window_ask secret scheme plan p.done number) xs) (answers_in h.all)) (sym h.answered.places) h.answered.fetched.each in
        let right = right_next own p.blamed altered p.done number h.all
        (subst (λ (xs : List Place). All (λ index. has_index own index ≡ true) (indexes_at xs)) (sym h.answered.places) before.left.among) asks
        (subst (All (IsRight p.blamed p.done)) (sym h.answered.places) before.right) of in
        record {
          left = left_at own old new h.all h.answered.places before.left (ap (λ (z : Heeding). z.still) h.is_after) (ap (λ (z : Heeding). z.gone) h.is_after);
          kept = record {
            k_is = ap (λ (z : Progress). z.k) progress ∙ before.kept.k_is;
            size_is = ap (λ (z : Progress). z.size) progress ∙ before.kept.size_is;
            n_is = ap (λ (z : Progress). z.n) progress ∙ before.kept.n_is;
            count_is = ap (λ (z : Progress). z.count) progress ∙ before.kept.count_is;
            sources_are = ap (λ (z : Progress). z.sources) progress ∙ before.kept.sources_are;
          };
          window = subst (λ (n : ℕ). 1 ≤ n) (sym (ap (λ (z : Progress). z.window) progress)) before.window;
          within = omega (arith, done, fits);
          fresh = fresh ∙ ap (λ n. map (front_piece n) (place_indexes plan.targets)) (sym done);
          places = subst (All P) (sym (ap (λ (z : Heeding). z.still) h.is_after)) (sharing_places P h.all (subst (All P) (sym h.answered.places) before.places));
          right = subst (λ (z : List ℕ × ℕ × List Place). All (IsRight z.0 z.1) z.2) (λ i. (sym blamed i, sym done i, sym (ap (λ (z : Heeding). z.still) h.is_after) i)) right;
        }

    empty_front : (targets : List ℕ) → map empty_piece targets ≡ map (front_piece 0) targets
    empty_front [] = refl
    empty_front (t ∷ ts) = ap (λ (xs : List Share). empty_piece t ∷ xs) (empty_front ts)

    module _ (sources : List Place) (same : pieces_of sources ≡ plan.sources) where
      first : IsSoFar (heeding_of scheme plan sources)
      first = record {
        left = left_first scheme plan sources same rises;
        kept = record { k_is = refl; size_is = refl; n_is = refl; count_is = refl; sources_are = refl };
        window = some_window scheme.share scheme.some_bytes scheme.few_bytes;
        within = omega arith;
        fresh = empty_front (place_indexes plan.targets);
        right = λ k d within. record { holds = λ none some. absurd (omega (arith, some)) };
        places = subst (λ (xs : List At). All (λ place. has_piece xs (at_of place) ≡ true) sources) same (places_have sources);
      }

      so_far : (n : ℕ) (end : Heeding) (h : Heeds (Some pieces) secret scheme plan n (heeding_of scheme plan sources) end) → AreWellHeard (Some pieces) secret scheme plan named n (heeding_of scheme plan sources) end h → IsSoFar end
      so_far zero end h well = subst IsSoFar h first
      so_far (suc n) end h well = step h.0 end (so_far n h.0 h.1 well.0) h.2 h.3 well.1

      piece_front : (index : ℕ) → piece_of scheme.k scheme.share named index ≡ front index count
      unfolding piece_of
      piece_front index = ap (λ n. concat (tabulate (stripe_count scheme.k scheme.share n) (part index))) len

      whole_fronts : (targets : List ℕ) → map (front_piece count) targets ≡ map (fresh_piece scheme.k scheme.share named) targets
      whole_fronts [] = refl
      whole_fronts (t ∷ ts) = λ i. (let q : Share = record { index = t; bytes = sym (piece_front t) i } in q) ∷ whole_fronts ts i

      pub left_end : (remade : Remade) (end : Heeding) (e : Ends (Some pieces) secret scheme plan sources (Some remade) end)
          → AreWellHeard (Some pieces) secret scheme plan named e.0.0 (heeding_of scheme plan sources) end e.0.1 → AreLeft own end
      left_end remade end e well = (so_far e.0.0 end e.0.1 well).left

      pub keeps_pieces : (remade : Remade) (end : Heeding) → 1 ≤ count → (e : Ends (Some pieces) secret scheme plan sources (Some remade) end)
          → AreWellHeard (Some pieces) secret scheme plan named e.0.0 (heeding_of scheme plan sources) end e.0.1 → KeepsPieces scheme plan named pieces remade end.still
      keeps_pieces remade end least e well =
          let at = so_far e.0.0 end e.0.1 well in
          let whole : end.progress.done ≡ count = e.1 ∙ at.kept.count_is in
          record {
            fresh = e.3 ∙ at.fresh ∙ ap (λ n. map (front_piece n) (place_indexes plan.targets)) whole ∙ whole_fronts (place_indexes plan.targets);
            sources = λ k d within none.
                let place = get_or end.still k d in
                let held = (at.right k d within).holds (ap (λ (xs : List ℕ). has_index xs place.index) (sym e.2) ∙ none) (omega (arith, whole, least)) in
                record {
                  bytes = held.0;
                  held = held.1;
                  same = ap (λ n. take (n * scheme.share) held.0) (sym whole) ∙ held.2 ∙ ap (front place.index) whole ∙ sym (piece_front place.index);
                };
            places = at.places;
          }
