-- Shares of many indexes.
use Rattle.std.proofs.Common.{ℕ, ◌≡◌, ◌<◌, ◌≤◌, ◌+◌, ◌*◌, ◌-◌, sym, ap, ◌∙◌, subst, ◌⊎◌, inl, inr, List, ◌++◌, length, take, drop, slice_index, arith}
use Rattle.std.proofs.Math.Nat.{mul-le-mul_left}
use Rattle.std.proofs.lemmas.Bool.{cases_lt}
use Rattle.std.proofs.lemmas.List.{get_or-take, get_or-drop, get_or_append_left, get_or-append_right, length-take-le, length-drop}
use Rattle.std.proofs.lemmas.List.FromFn.{get_or-map-range_with_len, length-map-range_with_len}
use Rattle.std.proofs.lemmas.Grind.{same_number_lists}
use Rattle.gf256.specs.Field.{◌⊗◌}
use Rattle.gf256.proofs.Sums.{total_agree}
use Rattle.gf_linear.proofs.Lagrange.{lagrange_agree}
use Rattle.rs_stripe.specs.Segment.{tabulate, share_of, stripe_of}
use Rattle.rs_stripe.specs.Weights.{weighted, AreWeights, AreMatrix}
use Rattle.rs_stripe.specs.Encoding.{filled}
use Rattle.rs_stripe.proofs.SegmentLemmas.{length-share_of, share_byte, stripe_byte}
use Rattle.gf_linear.proofs.Entries.{place-lt}

pub same_weights : (k j : ℕ) (w v : ℕ → ℕ) → AreWeights k j w → ((i : ℕ) → i < k → w i ≡ v i) → AreWeights k j v
same_weights k j w v weights same d =
    weights d ∙ total_agree k (λ i. w i ⊗ d i) (λ i. v i ⊗ d i) (λ i l. ap (λ z. z ⊗ d i) (same i l))

-- a row of the matrix, cut out
pub matrix_row : (k : ℕ) (indexes matrix : List ℕ) (t n : ℕ) → AreMatrix k indexes matrix → t < length indexes → n ≡ k
    → AreWeights k (slice_index indexes t) (slice_index (take n (drop (t * k) matrix)))
matrix_row k indexes matrix t n rows l e =
    same_weights k (slice_index indexes t) (λ i. slice_index matrix (t * k + i)) (slice_index (take n (drop (t * k) matrix))) (rows t l)
    (λ i h. sym (get_or-take n (drop (t * k) matrix) i 0 (omega arith) ∙ get_or-drop (t * k) matrix i 0))

pub length-matrix_row : (k count : ℕ) (matrix : List ℕ) (t n : ℕ) → t < count → length matrix ≡ count * k → n ≡ k
    → length (take n (drop (t * k) matrix)) ≡ k
length-matrix_row k count matrix t n l size e =
    let room : k * (t + 1) ≤ k * count = mul-le-mul_left k (omega arith) in
    length-take-le n (drop (t * k) matrix) (omega (arith, length-drop (t * k) matrix)) ∙ e

-- the first rows are found
abbrev pub AreRows : ℕ → List ℕ → List ℕ → ℕ → Type 0
AreRows k indexes matrix t =
    (r : ℕ) → r < t → AreWeights k (slice_index indexes r) (λ i. slice_index matrix (r * k + i))

-- one row more is written
pub matrix_more : (k : ℕ) (indexes : List ℕ) (t j : ℕ) (matrix row rest : List ℕ) → t * k ≤ length matrix → length row ≡ k
    → AreRows k indexes matrix t → j ≡ slice_index indexes t → AreWeights (length row) j (slice_index row)
    → AreRows k indexes (take (t * k) matrix ++ (row ++ rest)) (t + 1)
matrix_more k indexes t j matrix row rest fits len rows is weights r below = go (cases_lt r t)
  where
    new : List ℕ
    new = take (t * k) matrix ++ (row ++ rest)

    front : length (take (t * k) matrix) ≡ t * k
    front = length-take-le (t * k) matrix fits

    go : (r < t) ⊎ (t ≤ r) → AreWeights k (slice_index indexes r) (λ i. slice_index new (r * k + i))
    go (inl l) =
        let above : k * (r + 1) ≤ k * t = mul-le-mul_left k (omega arith) in
        same_weights k (slice_index indexes r) (λ i. slice_index matrix (r * k + i)) (λ i. slice_index new (r * k + i)) (rows r l)
        (λ i h.
        sym (get_or_append_left (take (t * k) matrix) (row ++ rest) 0 (r * k + i) (omega (arith, front))
        ∙ get_or-take (t * k) matrix (r * k + i) 0 (omega arith)))
    go (inr g) =
        let same : t ≡ r = omega arith in
        subst (λ (u : ℕ). AreWeights k (slice_index indexes u) (λ i. slice_index new (u * k + i))) same
        (same_weights k (slice_index indexes t) (slice_index row) (λ i. slice_index new (t * k + i))
        (subst (λ (m : ℕ). AreWeights m (slice_index indexes t) (slice_index row)) len
        (subst (λ (x : ℕ). AreWeights (length row) x (slice_index row)) is weights))
        (λ i h.
        let at : t * k + i - t * k ≡ i = omega arith in
        sym (get_or-append_right (take (t * k) matrix) (row ++ rest) (t * k) (t * k + i) 0 front (omega arith)
        ∙ ap (slice_index (row ++ rest)) at ∙ get_or_append_left row rest 0 i (omega arith))))

-- a list of the weighted sums of a stripe's columns, whose bytes are b, is the stripe's share
pub share_from_sums : (k size j m : ℕ) (w b : ℕ → ℕ) (stripe out : List ℕ) → AreWeights k j w → m ≡ k
    → ((p : ℕ) → p < k * size → slice_index stripe p ≡ b p)
    → length out ≡ size
    → ((c : ℕ) → c < length out → slice_index out c ≡ weighted m w (λ i. b (i * length out + c)))
    → out ≡ share_of k size stripe j
share_from_sums k size j m w b stripe out weights rows same len sums =
    same_number_lists out (share_of k size stripe j) (len ∙ sym (length-share_of k size stripe j))
    (λ c h. each c (omega arith))
  where
    sums_of_size : (c : ℕ) → c < size → slice_index out c ≡ weighted k w (λ i. b (i * size + c))
    sums_of_size =
        subst (λ r. (c : ℕ) → c < size → slice_index out c ≡ weighted r w (λ i. b (i * size + c))) rows
        (subst (λ n. (c : ℕ) → c < n → slice_index out c ≡ weighted m w (λ i. b (i * n + c))) len sums)

    each : (c : ℕ) → c < size → slice_index out c ≡ slice_index (share_of k size stripe j) c
    each c h =
        sums_of_size c h
        ∙ total_agree k (λ i. w i ⊗ b (i * size + c)) (λ i. w i ⊗ slice_index stripe (i * size + c))
        (λ i l. ap (λ z. w i ⊗ z) (sym (same (i * size + c) (place-lt k size i c l h))))
        ∙ sym (weights (λ i. slice_index stripe (i * size + c))) ∙ sym (share_byte k size stripe j c h)

-- ---- the stripe that an encoder holds
pub tabulated : (n : ℕ) (f : ℕ → ℕ) (p : ℕ) → p < n → slice_index (tabulate n f) p ≡ f p
tabulated n f p h = get_or-map-range_with_len f 0 n p p 0 h (omega arith)

pub tabulate_agree : (n m : ℕ) (f g : ℕ → ℕ) → n ≡ m → ((p : ℕ) → p < n → f p ≡ g p) → tabulate n f ≡ tabulate m g
tabulate_agree n m f g e same =
    same_number_lists (tabulate n f) (tabulate m g)
    (length-map-range_with_len f 0 n ∙ e ∙ sym (length-map-range_with_len g 0 m))
    (λ p h.
    let l : p < n = omega (arith, length-map-range_with_len f 0 n) in
    tabulated n f p l ∙ same p l ∙ sym (tabulated m g p (omega arith)))

-- a stripe that is long enough is held as it is
pub filled_whole : (n : ℕ) (stripe : List ℕ) → length stripe ≡ n → filled n stripe ≡ stripe
filled_whole n stripe e =
    same_number_lists (filled n stripe) stripe (length-map-range_with_len (slice_index stripe) 0 n ∙ sym e)
    (λ p h. tabulated n (slice_index stripe) p (omega (arith, length-map-range_with_len (slice_index stripe) 0 n)))

-- shares of stripes of the same bytes are the same
pub share_of_agree : (k size j : ℕ) (a b : List ℕ) → ((p : ℕ) → p < k * size → slice_index a p ≡ slice_index b p)
    → share_of k size a j ≡ share_of k size b j
share_of_agree k size j a b same =
    same_number_lists (share_of k size a j) (share_of k size b j)
    (length-share_of k size a j ∙ sym (length-share_of k size b j))
    (λ c h.
    let l : c < size = omega (arith, length-share_of k size a j) in
    share_byte k size a j c l
    ∙ lagrange_agree k (λ i. i) (λ i. slice_index a (i * size + c)) (λ i. slice_index b (i * size + c))
    (λ i hi. same (i * size + c) (place-lt k size i c hi l)) j
    ∙ sym (share_byte k size b j c l))

-- a held run of a segment has the shares of the segment's stripe
pub held_share : (k size : ℕ) (segment : List ℕ) (s j : ℕ) (bytes : List ℕ)
    → ((p : ℕ) → p < k * size → slice_index bytes p ≡ slice_index segment (s * (k * size) + p))
    → share_of k size (filled (k * size) bytes) j ≡ share_of k size (stripe_of k size segment s) j
held_share k size segment s j bytes same =
    share_of_agree k size j (filled (k * size) bytes) (stripe_of k size segment s)
    (λ p h. tabulated (k * size) (slice_index bytes) p h ∙ same p h ∙ sym (stripe_byte k size segment s p h))
