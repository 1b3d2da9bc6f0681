-- The shares of a window, against the stripes of a named segment.
use Rattle.std.proofs.Common.{◌≡◌, ℕ, zero, suc, ◌+◌, ◌*◌, ◌<◌, ◌≤◌, ◌==◌, Bool, true, false, cond, List, [], ◌∷◌, ◌++◌, length, get_or, take, refl, sym, ap, ◌∙◌, arith, append_assoc, append-nil, slice_index_or}
use Rattle.std.specs.Prelude.{All, filter, map, if◌then◌else◌}
use Rattle.std.specs.List.{concat, range_with_len}
use Rattle.std.proofs.Math.Nat.{zero-mul}
use Rattle.std.proofs.Math.Seq.{take-add}
use Rattle.std.proofs.lemmas.Bool.{eqb-true, not-false}
use Rattle.std.proofs.lemmas.Bool.Decides.{nat_tests}
use Rattle.std.proofs.lemmas.List.{take_all}
use Rattle.std.proofs.lemmas.List.FromFn.{fill_by_all}
use Rattle.std.proofs.lemmas.Slice.Eq.{bytes_eq-Decides}
use Rattle.sat_base.specs.declared.items.Share.{Share}
use Rattle.rs_stripe.specs.Segment.{run, share_of, tabulate}
use Rattle.rs_stripe.proofs.SegmentLemmas.{concat_more, length-share_of}
use Rattle.bw_decode.specs.Altered.{indexes_of, is_altered}
use Rattle.repair_core.specs.Answers.{answer_at, answer_bytes}
use Rattle.repair_core.specs.Indexes.{has_index}
use Rattle.repair_core.specs.Stripes.{any_below, is_ever_altered}
use Rattle.repair_core.proofs.Whole.{map-map}
use Rattle.node_asks.proofs.SpreadLemmas.{or_left, or_right}

-- ---- lists by number

pub concat_both : (a b : ℕ) (g : ℕ → List ℕ) → concat (tabulate (a + b) g) ≡ concat (tabulate a g) ++ concat (tabulate b (λ s. g (a + s)))
concat_both a zero g =
    let none : a + 0 ≡ a = omega arith in
    ap (λ n. concat (tabulate n g)) none ∙ sym (append-nil (concat (tabulate a g)))
concat_both a (suc b) g =
    let next : a + suc b ≡ (a + b) + 1 = omega arith in
    let one : suc b ≡ b + 1 = omega arith in
    ap (λ n. concat (tabulate n g)) next
    ∙ concat_more (a + b) g
    ∙ ap (λ (xs : List ℕ). xs ++ g (a + b)) (concat_both a b g)
    ∙ append_assoc (concat (tabulate a g)) (concat (tabulate b (λ s. g (a + s)))) (g (a + b))
    ∙ ap (λ (xs : List ℕ). concat (tabulate a g) ++ xs) (sym (concat_more b (λ s. g (a + s))))
    ∙ ap (λ n. concat (tabulate a g) ++ concat (tabulate n (λ s. g (a + s)))) (sym one)

runs_front : (size n : ℕ) (bytes : List ℕ) → concat (tabulate n (run size bytes)) ≡ take (n * size) bytes
runs_front size zero bytes = sym (ap (λ m. take m bytes) (zero-mul size))
runs_front size (suc n) bytes =
    let one : suc n ≡ n + 1 = omega arith in
    let more : n * size + size ≡ suc n * size = omega arith in
    ap (λ m. concat (tabulate m (run size bytes))) one
    ∙ concat_more n (run size bytes)
    ∙ ap (λ (xs : List ℕ). xs ++ run size bytes n) (runs_front size n bytes)
    ∙ sym (take-add (n * size) size bytes)
    ∙ ap (λ m. take m bytes) more

tabulate_same : (n : ℕ) (f g : ℕ → List ℕ) → ((s : ℕ) → s < n → f s ≡ g s) → concat (tabulate n f) ≡ concat (tabulate n g)
tabulate_same zero f g same = refl
tabulate_same (suc n) f g same =
    let one : suc n ≡ n + 1 = omega arith in
    ap (λ m. concat (tabulate m f)) one
    ∙ concat_more n f
    ∙ (λ i. tabulate_same n f g (λ s lt. same s (omega (arith, lt))) i ++ same n (omega arith) i)
    ∙ sym (concat_more n g)
    ∙ ap (λ m. concat (tabulate m g)) (sym one)

-- ---- one answer

-- an answer that isn't altered is the stripe's share
answer_same : (k size count s : ℕ) (stripe : List ℕ) (piece : Share) → is_altered k size stripe (answer_at size count s piece) ≡ false → answer_bytes size count s piece.bytes ≡ share_of k size stripe piece.index
answer_same k size count s stripe piece right = (bytes_eq-Decides (answer_bytes size count s piece.bytes) (share_of k size stripe piece.index)).0 (not-false _ right)

-- such an answer has bytes, so that the piece has the right length
answer_long : (k size count s : ℕ) (stripe : List ℕ) (piece : Share) → 1 ≤ size → answer_bytes size count s piece.bytes ≡ share_of k size stripe piece.index → (length piece.bytes == count * size) ≡ true
answer_long k size count s stripe piece some same = go (length piece.bytes == count * size) refl same
  where
    go : (b : Bool) → (length piece.bytes == count * size) ≡ b → cond b (run size piece.bytes s) [] ≡ share_of k size stripe piece.index → (length piece.bytes == count * size) ≡ true
    go true is same = is
    go false is same = let none : 0 ≡ size = ap length same ∙ length-share_of k size stripe piece.index in absurd (omega (arith, none, some))

answer_run : (size count s : ℕ) (bytes : List ℕ) → (length bytes == count * size) ≡ true → answer_bytes size count s bytes ≡ run size bytes s
answer_run size count s bytes is = ap (λ (b : Bool). cond b (run size bytes s) []) is

-- a window's share of which no stripe's is altered is the stripes' shares, one behind the other
pub share_whole : (k size count : ℕ) (stripe : ℕ → List ℕ) (piece : Share) → 1 ≤ size → 1 ≤ count → ((s : ℕ) → s < count → is_altered k size (stripe s) (answer_at size count s piece) ≡ false)
    → piece.bytes ≡ concat (tabulate count (λ s. share_of k size (stripe s) piece.index))
share_whole k size count stripe piece some least right =
    let is = answer_long k size count 0 (stripe 0) piece some (answer_same k size count 0 (stripe 0) piece (right 0 (omega (arith, least)))) in
    let long : length piece.bytes ≡ count * size = eqb-true _ _ is in
    sym (take_all (count * size) piece.bytes (omega (arith, long)))
    ∙ sym (runs_front size count piece.bytes)
    ∙ tabulate_same count (run size piece.bytes) (λ s. share_of k size (stripe s) piece.index)
    (λ s lt. sym (answer_run size count s piece.bytes is) ∙ answer_same k size count s (stripe s) piece (right s lt))

below_none : (n : ℕ) (test : ℕ → Bool) → any_below n test ≡ false → (s : ℕ) → s < n → test s ≡ false
below_none zero test none s lt = absurd (omega arith)
below_none (suc n) test none s lt = go (s == n) refl (below_none n test)
  where
    go : (b : Bool) → (s == n) ≡ b → (any_below n test ≡ false → (s : ℕ) → s < n → test s ≡ false) → test s ≡ false
    go true is later = ap test (eqb-true s n is) ∙ or_right (any_below n test) (test n) none
    go false is later = later (or_left (any_below n test) (test n) none) s (let other : (s == n) ≡ false = is in grind (arith, nat_tests, other, lt))

-- a piece that isn't altered in any of the stripes
pub never_altered : (k size count : ℕ) (stripes : List (List ℕ)) (piece : Share) → length stripes ≡ count → is_ever_altered k size count stripes piece ≡ false
    → (s : ℕ) → s < count → is_altered k size (slice_index_or stripes s []) (answer_at size count s piece) ≡ false
never_altered k size count stripes piece long never s lt =
    below_none (length stripes) (λ s. is_altered k size (slice_index_or stripes s []) (answer_at size count s piece)) never s (omega (arith, long, lt))

-- a piece whose index isn't among those of the altered isn't one of them
pub not_among : (test : Share → Bool) (pieces : List Share) → All (λ piece. has_index (indexes_of (filter test pieces)) piece.index ≡ false → test piece ≡ false) pieces
not_among test pieces k d within none = go (test (get_or pieces k d)) refl
  where
    found : (xs : List Share) (k : ℕ) → k < length xs → test (get_or xs k d) ≡ true → has_index (indexes_of (filter test xs)) (get_or xs k d).index ≡ true
    found [] k lt passes = absurd (omega arith)
    found (x ∷ xs) zero lt passes = here (test x) passes
      where
        here : (b : Bool) → b ≡ true → has_index (indexes_of (if b then x ∷ filter test xs else filter test xs)) x.index ≡ true
        here true is = grind (arith, nat_tests)
        here false is = absurd (cc)
    found (x ∷ xs) (suc k) lt passes = later (test x) (found xs k (omega arith) passes)
      where
        later : (b : Bool) → has_index (indexes_of (filter test xs)) (get_or xs k d).index ≡ true → has_index (indexes_of (if b then x ∷ filter test xs else filter test xs)) (get_or xs k d).index ≡ true
        later true h = grind (arith, h)
        later false h = h

    go : (b : Bool) → test (get_or pieces k d) ≡ b → test (get_or pieces k d) ≡ false
    go true is = let there = found pieces k within is in absurd (cc)
    go false is = is

-- the shares of stripes that are those of a function
pub shares_same : (k size count index : ℕ) (stripe : ℕ → List ℕ) (stripes : List (List ℕ)) → length stripes ≡ count → ((s : ℕ) → s < count → slice_index_or stripes s [] ≡ stripe s)
    → concat (map (λ one. share_of k size one index) stripes) ≡ concat (tabulate count (λ s. share_of k size (stripe s) index))
shares_same k size count index stripe stripes long same =
    ap (λ (xs : List (List ℕ)). concat (map (λ one. share_of k size one index) xs)) (fill_by_all stripe stripes count [] long same)
    ∙ ap concat (map-map (λ (one : List ℕ). share_of k size one index) stripe (range_with_len 0 count))
