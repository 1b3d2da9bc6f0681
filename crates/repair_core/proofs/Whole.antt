-- Stripes and the bytes that they make together.
use Rattle.std.proofs.Common.{◌≡◌, ℕ, zero, suc, ◌+◌, ◌-◌, ◌*◌, ◌<◌, ◌≤◌, ◌||◌, List, [], ◌∷◌, ◌++◌, length, get_or, take, drop, replicate, Bool, true, false, refl, sym, ap, ◌∙◌, subst, arith, slice_index_or, length-append}
use Rattle.std.specs.Prelude.{All, map}
use Rattle.std.specs.List.{concat, range_with_len}
use Rattle.std.proofs.Math.Nat.{zero-mul}
use Rattle.std.proofs.Math.Seq.{drop-append-add}
use Rattle.std.proofs.lemmas.List.{append-nil, take_at, take_all}
use Rattle.std.proofs.lemmas.List.Elements.{All-nil, All-append, filter_agree}
use Rattle.std.proofs.lemmas.List.Folds.{map_fixed}
use Rattle.std.proofs.lemmas.List.FromFn.{fill_by_all}
use Rattle.sat_base.specs.declared.items.Share.{Share}
use Rattle.sat_base.specs.Scheme.{stripe_count}
use Rattle.rs_stripe.specs.Segment.{run, tabulate, padded, stripe_of, share_of, piece_of}
use Rattle.bw_decode.specs.Altered.{indexes_of}
use Rattle.bw_decode.specs.Near.{Rises, IsNear}
use Rattle.repair_core.specs.Answers.{answers_at}
use Rattle.repair_core.specs.Indexes.{has_index}
use Rattle.repair_core.specs.Stripes.{is_ever_altered, altered_indexes, longer}
use Rattle.repair_core.specs.Rebuilt.{IsRebuilt, stripes_of, fresh_piece}
use Rattle.repair_core.specs.Room.{cut_short, marked_of, AreKept}
use Rattle.repair_core.specs.Windows.{empty_piece}
use Rattle.repair_core.proofs.Numbers.{count_stripes}
use Rattle.repair_core.proofs.Rising.{all_filtered, rises_filtered, all_among, kept_are}

-- ---- stripes of one length, joined
pub run-concat : (w : ℕ) (xs : List (List ℕ)) (s : ℕ) → ((i : ℕ) → i < length xs → length (get_or xs i []) ≡ w) → s < length xs
    → run w (concat xs) s ≡ get_or xs s []
run-concat w [] s long h = absurd (omega arith)
run-concat w (x ∷ xs) zero long h =
    ap (λ n. take w (drop n (x ++ concat xs))) (zero-mul w) ∙ take_at x (concat xs) w (long 0 (omega arith))
run-concat w (x ∷ xs) (suc s) long h =
    let at : suc s * w ≡ length x + s * w = omega (arith, long 0 (omega arith)) in
    ap (λ n. take w (drop n (x ++ concat xs))) at
    ∙ ap (λ (zs : List ℕ). take w zs) (drop-append-add x (concat xs) (s * w))
    ∙ run-concat w xs s (λ i l. long (suc i) (omega (arith, l))) (omega (arith, h))

pub length-concat : (w : ℕ) (xs : List (List ℕ)) → ((i : ℕ) → i < length xs → length (get_or xs i []) ≡ w) → length (concat xs) ≡ length xs * w
length-concat w [] long = sym (zero-mul w)
length-concat w (x ∷ xs) long =
    length-append x (concat xs)
    ∙ omega (arith, long 0 (omega arith), length-concat w xs (λ i l. long (suc i) (omega (arith, l))))

bytes_in : (xs : List (List ℕ)) → ((i : ℕ) → i < length xs → All (λ byte. byte < 256) (get_or xs i [])) → All (λ byte. byte < 256) (concat xs)
bytes_in [] each = All-nil (λ byte. byte < 256)
bytes_in (x ∷ xs) each =
    All-append (λ byte. byte < 256) x (concat xs) (each 0 (omega arith)) (bytes_in xs (λ i l. each (suc i) (omega (arith, l))))

stripes_of-concat : (k size count : ℕ) (xs : List (List ℕ)) → length xs ≡ count → ((i : ℕ) → i < length xs → length (get_or xs i []) ≡ k * size)
    → stripes_of k size count (concat xs) ≡ xs
stripes_of-concat k size count xs len long =
    sym (fill_by_all (run (k * size) (concat xs)) xs count [] len (λ s h. sym (run-concat (k * size) xs s long (omega (arith, h, len)))))

-- ---- pieces
pub map-map : {A B C : Type 0} (f : B → C) (g : A → B) (xs : List A) → map f (map g xs) ≡ map (λ x. f (g x)) xs
map-map f g [] = refl
map-map f g (x ∷ xs) = ap (λ zs. f (g x) ∷ zs) (map-map f g xs)

-- the piece of whole stripes is their shares
pub whole_piece : (k size count : ℕ) (bytes : List ℕ) (index : ℕ) → 1 ≤ k → 1 ≤ size → length bytes ≡ count * (k * size)
    → piece_of k size bytes index ≡ concat (map (λ stripe. share_of k size stripe index) (stripes_of k size count bytes))
unfolding piece_of
whole_piece k size count bytes index hk hs long =
    let number : stripe_count k size (length bytes) ≡ count = ap (stripe_count k size) long ∙ count_stripes k size count hk hs in
    let none : stripe_count k size (length bytes) * (k * size) - length bytes ≡ 0 = omega (arith, ap (λ n. n * (k * size)) number, long) in
    let same : padded k size bytes ≡ bytes = ap (λ n. bytes ++ replicate n 0) none ∙ append-nil bytes in
    ap (λ n. concat (tabulate n (λ s. share_of k size (stripe_of k size bytes s) index))) number
    ∙ ap (λ (all : List ℕ). concat (tabulate count (λ s. share_of k size (run (k * size) all s) index))) same
    ∙ ap concat (sym (map-map (λ (stripe : List ℕ). share_of k size stripe index) (run (k * size) bytes) (range_with_len 0 count)))

pub cut_whole : (len : ℕ) (pieces : List Share) → All (λ piece. length piece.bytes ≡ len) pieces → map (cut_short len) pieces ≡ pieces
cut_whole len pieces long =
    map_fixed (cut_short len) pieces
    (λ i d h. ap (λ (zs : List ℕ). let q : Share = record { index = (get_or pieces i d).index; bytes = zs } in q)
    (take_all len (get_or pieces i d).bytes (omega (arith, long i d h))))

pub cut_nothing : (pieces : List Share) → map (cut_short 0) pieces ≡ map empty_piece (indexes_of pieces)
cut_nothing [] = refl
cut_nothing (p ∷ ps) = ap (λ (qs : List Share). empty_piece p.index ∷ qs) (cut_nothing ps)

pub grown_whole : (k size count : ℕ) (bytes : List ℕ) (stripes : List (List ℕ)) (targets : List ℕ) → 1 ≤ k → 1 ≤ size → length bytes ≡ count * (k * size)
    → stripes_of k size count bytes ≡ stripes
    → map (longer k size stripes) (map empty_piece targets) ≡ map (fresh_piece k size bytes) targets
grown_whole k size count bytes stripes [] hk hs long are = refl
grown_whole k size count bytes stripes (t ∷ ts) hk hs long are =
    let bytes_are : concat (map (λ stripe. share_of k size stripe t) stripes) ≡ piece_of k size bytes t
    = sym (whole_piece k size count bytes t hk hs long ∙ ap (λ (xs : List (List ℕ)). concat (map (λ stripe. share_of k size stripe t) xs)) are) in
    ap (λ (zs : List ℕ). (let q : Share = record { index = t; bytes = zs } in q) ∷ map (longer k size stripes) (map empty_piece ts)) bytes_are
    ∙ ap (λ (qs : List Share). fresh_piece k size bytes t ∷ qs) (grown_whole k size count bytes stripes ts hk hs long are)

-- ---- all of a segment
pub rebuilt : (k size count : ℕ) → 1 ≤ k → 1 ≤ size → (targets : List ℕ) (pieces : List Share) (marks new_marks : List Bool) (fresh new_fresh : List Share) (bytes blamed : List ℕ)
    → Rises (indexes_of pieces) → AreKept k size count pieces count 0 marks fresh new_marks new_fresh bytes
    → ((index : ℕ) → slice_index_or marks index false ≡ false) → indexes_of fresh ≡ targets
    → All (λ piece. length piece.bytes ≡ count * size) new_fresh → blamed ≡ marked_of new_marks (indexes_of pieces)
    → IsRebuilt k size count targets pieces bytes blamed new_fresh
rebuilt k size count hk hs targets pieces marks new_marks fresh new_fresh bytes blamed rises kept unmarked are whole is =
    let stripes = kept.mended.stripes in
    let number = kept.mended.as_many in
    let so_far = kept.mended.so_far in
    let long : (i : ℕ) → i < length stripes → length (get_or stripes i []) ≡ k * size = λ i h. (so_far.near i h).long in
    let cut : stripes_of k size count bytes ≡ stripes
    = ap (stripes_of k size count) kept.bytes_are ∙ stripes_of-concat k size count stripes number long in
    let length_is : length bytes ≡ count * (k * size)
    = ap length kept.bytes_are ∙ length-concat (k * size) stripes long ∙ ap (λ n. n * (k * size)) number in
    let ever = is_ever_altered k size count stripes in
    let found = altered_indexes k size count stripes pieces in
    let blames : blamed ≡ found
    = is ∙ filter_agree (λ index. slice_index_or new_marks index false) (has_index found)
    (λ index. so_far.marks_are index ∙ ap (λ b. b || has_index found index) (unmarked index)) (indexes_of pieces)
    ∙ kept_are (indexes_of pieces) found rises (rises_filtered ever pieces rises)
    (all_filtered (λ y. has_index (indexes_of pieces) y ≡ true) ever pieces (all_among (indexes_of pieces))) in
    let written : (0 + length stripes) * size ≡ count * size = ap (λ n. n * size) (omega (arith, number)) in
    record {
      long = length_is;
      bytes_are = subst (λ (zs : List ℕ). All (λ byte. byte < 256) zs) (sym kept.bytes_are) (bytes_in stripes (λ i h. (so_far.near i h).bytes));
      near = λ s h.
          let within : s < length stripes = omega (arith, number, h) in
          subst (λ (zs : List ℕ). IsNear k size zs (answers_at size count s pieces))
          (sym (ap (λ (zs : List ℕ). run (k * size) zs s) kept.bytes_are ∙ run-concat (k * size) stripes s long within))
          (so_far.near s within).near;
      blames = blames ∙ ap (λ (xs : List (List ℕ)). altered_indexes k size count xs pieces) (sym cut);
      fresh_are = sym (cut_whole (count * size) new_fresh whole)
          ∙ ap (λ len. map (cut_short len) new_fresh) (sym written) ∙ so_far.fresh_are
          ∙ ap (λ n. map (longer k size stripes) (map (cut_short n) fresh)) (zero-mul size)
          ∙ ap (map (longer k size stripes)) (cut_nothing fresh ∙ ap (map empty_piece) are)
          ∙ grown_whole k size count bytes stripes targets hk hs length_is cut;
    }
