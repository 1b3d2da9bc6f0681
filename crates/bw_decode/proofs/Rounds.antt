-- What a round of the decoding finds out about the answers.
use Rattle.std.proofs.Common.{ℕ, zero, suc, ◌≡◌, ◌≢◌, ◌<◌, ◌≤◌, ◌+◌, ◌-◌, ◌*◌, ◌/◌, refl, sym, ap, ◌∙◌, subst, List, [], ◌∷◌, length, map, get_or, ◌⊎◌, inl, inr, arith, eqb, true, false, not, ◌||◌, Bool, slice_index, eq-eqb, All, count_by, take, ◌++◌, cond}
use Rattle.std.proofs.Math.Nat.{mul-le-mul_left}
use Rattle.std.proofs.lemmas.Bool.{cases_lt, eqb-true, ne_eqb, or_left}
use Rattle.std.proofs.lemmas.List.{get_or_default, get_or-take, get_or_append_left, get_or-append_right, length-take-le}
use Rattle.std.proofs.lemmas.List.Elements.{All-get_or}
use Rattle.sat_base.specs.declared.items.Share.{Share}
use Rattle.gf256.specs.Field.{◌⊗◌}
use Rattle.gf256.specs.Sums.{total}
use Rattle.gf256.proofs.Laws.{product_comm}
use Rattle.gf256.proofs.Sums.{total_agree}
use Rattle.gf_linear.specs.Polynomial.{Apart}
use Rattle.gf_linear.specs.Lagrange.{interpolated}
use Rattle.gf_linear.proofs.Lagrange.{AreBytes, lagrange_agree, lagrange_poly, lagrange_only}
use Rattle.rs_stripe.specs.Codeword.{share}
use Rattle.rs_stripe.specs.Segment.{share_of}
use Rattle.rs_stripe.specs.Weights.{weight}
use Rattle.rs_stripe.proofs.SegmentLemmas.{share_byte, length-share_of}
use Rattle.rs_stripe.proofs.ShareLemmas.{weight_agree}
use Rattle.bw_decode.specs.Near.{IsNearData, IsNear, Rises}
use Rattle.bw_decode.specs.Altered.{is_altered, indexes_of}
use Rattle.bw_decode.specs.Answers.{values_of, byte_of, bytes_of, row_value, marked, AreKnown, AreRight, AreChosen, IsPredicted, column_share, Disagrees, DisagreesIn, IsBlamed}
use Rattle.bw_decode.specs.Forms.{IsLinear, at_column, combined}
use Rattle.bw_decode.proofs.Locator.{data_of}
use Rattle.bw_decode.proofs.Forms.{form_zero, form_interpolated, column_linear, combined_linear}
use Rattle.bw_decode.proofs.Counts.{count_fewer, count_more, count_both}
use Rattle.bw_decode.proofs.NearStripes.{altered_unless, right_value, index_at, value_at, values_near, same_values, indexes_length}

-- ---- points
pub index_below : (n : ℕ) (answers : List Share) → All (λ j. j < n) (indexes_of answers) → (i : ℕ) (a : Share)
    → i < length answers → (get_or answers i a).index < n
index_below n answers below i a h =
    subst (λ j. j < n) (index_at answers i a h)
    (All-get_or (λ j. j < n) (indexes_of answers) i 0 (omega (arith, indexes_length answers)) below)

pub index_bytes : (n : ℕ) (answers : List Share) → n ≤ 256 → All (λ j. j < n) (indexes_of answers)
    → AreBytes (length answers) (slice_index (indexes_of answers))
index_bytes n answers small below i h =
    at_most (slice_index (indexes_of answers) i) n
    (All-get_or (λ j. j < n) (indexes_of answers) i 0 (omega (arith, indexes_length answers)) below) small
  where
    at_most : (j n : ℕ) → j < n → n ≤ 256 → j < 256
    at_most j n h small = omega arith

-- numbers that rise and are below n are no more than n
pub few_rising : (n : ℕ) (xs : List ℕ) → Rises xs → All (λ j. j < n) xs → length xs ≤ n
few_rising n xs rising below = go (length xs) refl
  where
    at_least : (i : ℕ) → i < length xs → i ≤ slice_index xs i
    at_least zero h = omega arith
    at_least (suc i) h =
        let here : slice_index xs i < slice_index xs (suc i) = rising i (suc i) (omega arith) h in
        let before : i ≤ slice_index xs i = at_least i (omega arith) in
        omega arith

    go : (len : ℕ) → length xs ≡ len → len ≤ n
    go zero e = omega arith
    go (suc last) e =
        let last_below : slice_index xs last < n = All-get_or (λ j. j < n) xs last 0 (omega arith) below in
        let last_least : last ≤ slice_index xs last = at_least last (omega arith) in
        omega arith

-- ---- values that are decoded
-- where no data are near a form's values, no stripe is near
pub none_near : (k size : ℕ) (F : (ℕ → ℕ) → ℕ) (answers : List Share) (points values : List ℕ)
    → points ≡ indexes_of answers → values ≡ values_of size F answers → IsLinear size F
    → ((d : ℕ → ℕ) → IsNearData (length points) k (slice_index points) (slice_index values) d → ⊥)
    → (s : List ℕ) → IsNear k size s answers → ⊥
none_near k size F answers points values ep ev linear none s near =
    none (row_value size s F)
    (subst (λ xs. IsNearData (length xs) k (slice_index xs) (slice_index values) (row_value size s F)) (sym ep)
    (subst (λ ys. IsNearData (length (indexes_of answers)) k (slice_index (indexes_of answers)) (slice_index ys) (row_value size s F)) (sym ev)
    (subst (λ n. IsNearData n k (slice_index (indexes_of answers)) (slice_index (values_of size F answers)) (row_value size s F))
    (sym (indexes_length answers)) (values_near k size F s answers linear near))))

or_false : (a b : Bool) → a ≡ false → (a || b) ≡ b
or_false true b e = cc
or_false false b e = refl

off : (a b : ℕ) → not (eqb a b) ≡ true → a ≢ b
off a b e same = false_true (sym (ap not (eq-eqb a b same)) ∙ e)
  where
    false_true : false ≡ true → ⊥
    false_true e = cc

-- the marks that near data add are known too
pub known_after : (k size : ℕ) (F : (ℕ → ℕ) → ℕ) (answers : List Share) (d : ℕ → ℕ) (old new : List Bool)
    → Rises (indexes_of answers) → AreBytes (length answers) (slice_index (indexes_of answers)) → IsLinear size F
    → length old ≡ length answers → AreKnown k size answers old
    → IsNearData (length answers) k (slice_index (indexes_of answers)) (slice_index (values_of size F answers)) d
    → IsBlamed k d (slice_index (indexes_of answers)) (slice_index (values_of size F answers)) old new
    → AreKnown k size answers new
known_after k size F answers d old new rising bytes linear len known near_d blamed = record {
  lengths = λ i a h wrong. blamed i (omega arith) ∙ or_left (get_or old i false) _ (known.lengths i a h wrong);
  altered = λ s near i a h mark. each s near i a h mark (get_or old i false) refl;
}
  where
    X : ℕ → ℕ
    X = slice_index (indexes_of answers)

    Y : ℕ → ℕ
    Y = slice_index (values_of size F answers)

    each : (s : List ℕ) → IsNear k size s answers → (i : ℕ) (a : Share) → i < length answers → get_or new i false ≡ true
        → (b : Bool) → get_or old i false ≡ b → is_altered k size s (get_or answers i a) ≡ true
    each s near i a h mark true t = known.altered s near i a h t
    each s near i a h mark false t =
        let differs : share k d (X i) ≢ Y i =
        off (share k d (X i)) (Y i) (sym (or_false (get_or old i false) _ t) ∙ sym (blamed i (omega arith)) ∙ mark) in
        altered_unless k size s (get_or answers i a)
        (λ e. differs
        (same_values k size F s answers d rising bytes linear near near_d (X i)
        ∙ ap (share k (row_value size s F)) (index_at answers i a h)
        ∙ sym (right_value k size F s (get_or answers i a) linear e) ∙ sym (value_at size F answers i a h)))

-- two functions agree at each place below n, or differ at one
agree_or_differ : (n : ℕ) (f g : ℕ → ℕ) → ((i : ℕ) → i < n → f i ≡ g i) ⊎ ((i : ℕ) × (i < n) × (f i ≢ g i))
agree_or_differ zero f g = inl (λ i h. absurd (omega arith))
agree_or_differ (suc n) f g = go (agree_or_differ n f g) (eqb (f n) (g n)) refl
  where
    go : ((i : ℕ) → i < n → f i ≡ g i) ⊎ ((i : ℕ) × (i < n) × (f i ≢ g i)) → (b : Bool) → eqb (f n) (g n) ≡ b
        → ((i : ℕ) → i < suc n → f i ≡ g i) ⊎ ((i : ℕ) × (i < suc n) × (f i ≢ g i))
    go (inr w) b t = inr (w.0, omega (arith, w.1), w.2)
    go (inl all) false t = inr (n, omega arith, λ e. true_false (sym (eq-eqb (f n) (g n) e) ∙ t))
      where
        true_false : true ≡ false → ⊥
        true_false e = cc
    go (inl all) true t = inl (λ i h. at i h (cases_lt i n))
      where
        at : (i : ℕ) → i < suc n → (i < n) ⊎ (n ≤ i) → f i ≡ g i
        at i h (inl l) = all i l
        at i h (inr l) =
            let last : n ≡ i = omega arith in
            subst (λ k. f k ≡ g k) last (eqb-true (f n) (g n) t)

-- the value of what is read in each column of an answer
column_values : (size : ℕ) (F : (ℕ → ℕ) → ℕ) (answers : List Share) (i : ℕ) → IsLinear size F → i < length answers
    → F (λ c. slice_index (bytes_of size c answers) i) ≡ slice_index (values_of size F answers) i
column_values size F (x ∷ xs) zero linear h = go (eqb (length x.bytes) size)
  where
    go : (b : Bool) → F (λ c. cond b (slice_index x.bytes c) 0) ≡ cond b (F (slice_index x.bytes)) 0
    go true = refl
    go false = form_zero size F linear
column_values size F (x ∷ xs) (suc i) linear h = column_values size F xs i linear (omega arith)
column_values size F [] i linear h = absurd (omega arith)

-- the rows' values in the stripe that the chosen answers predict
predicted_value : (size : ℕ) (F : (ℕ → ℕ) → ℕ) (stripe : List ℕ) (answers : List Share) (places : List ℕ) (l : ℕ)
    → IsLinear size F → ((j : ℕ) → j < length places → slice_index places j < length answers)
    → IsPredicted size answers places stripe → l < length places
    → row_value size stripe F l
    ≡ interpolated (length places) (λ j. slice_index (indexes_of answers) (slice_index places j))
    (λ j. slice_index (values_of size F answers) (slice_index places j)) l
predicted_value size F stripe answers places l linear within predicted h =
    linear.same (λ c. slice_index stripe (l * size + c)) (λ c. interpolated (length places) P (λ j. slice_index (bytes_of size c answers) (slice_index places j)) l)
    (λ c hc. predicted l c h hc)
    ∙ form_interpolated size F linear (length places) P (λ j c. slice_index (bytes_of size c answers) (slice_index places j)) l
    ∙ lagrange_agree (length places) P (λ j. F (λ c. slice_index (bytes_of size c answers) (slice_index places j)))
    (λ j. slice_index (values_of size F answers) (slice_index places j))
    (λ j hj. column_values size F answers (slice_index places j) linear (within j hj)) l
  where
    P : ℕ → ℕ
    P j = slice_index (indexes_of answers) (slice_index places j)

-- where the value of some answer is not that of the share of the stripe that the chosen answers predict, some
-- answer that isn't marked is off the codeword of any data
pub off_somewhere : (k size : ℕ) (F : (ℕ → ℕ) → ℕ) (stripe : List ℕ) (answers : List Share) (marks : List Bool) (places : List ℕ) (d : ℕ → ℕ)
    → IsLinear size F
    → k ≤ 256 → Rises (indexes_of answers) → AreBytes (length answers) (slice_index (indexes_of answers))
    → length marks ≡ length answers → length places ≡ k → AreChosen marks places
    → IsPredicted size answers places stripe → Disagrees k size stripe answers marks F
    → (i : ℕ) × (i < length answers) × (get_or marks i false ≡ false)
    × (share k d (slice_index (indexes_of answers) i) ≢ slice_index (values_of size F answers) i)
off_somewhere k size F stripe answers marks places d linear small rising bytes len len_k chosen predicted dis =
    go (agree_or_differ k (λ j. share k d (P j)) V)
  where
    X : ℕ → ℕ
    X = slice_index (indexes_of answers)

    Y : ℕ → ℕ
    Y = slice_index (values_of size F answers)

    P : ℕ → ℕ
    P j = X (slice_index places j)

    V : ℕ → ℕ
    V j = Y (slice_index places j)

    within : (j : ℕ) → j < k → slice_index places j < length answers
    within j h = omega (arith, chosen.within j (omega arith))

    rise : (j l : ℕ) → j < l → l < k → P j < P l
    rise j l h hl =
        rising (slice_index places j) (slice_index places l) (chosen.rise j l h (omega arith))
        (omega (arith, within l hl, indexes_length answers))

    apart : Apart k P
    apart j l hj hl ne e = cases (cases_lt j l)
      where
        cases : (j < l) ⊎ (l ≤ j) → ⊥
        cases (inl h) = omega (arith, rise j l h hl)
        cases (inr h) = omega (arith, rise l j (omega arith) hj)

    same : ((j : ℕ) → j < k → share k d (P j) ≡ V j) → (x : ℕ) → share k (row_value size stripe F) x ≡ share k d x
    same all x =
        data_of k P V (row_value size stripe F) small
        (λ l h. subst (λ n. row_value size stripe F l ≡ interpolated n P V l) len_k
        (predicted_value size F stripe answers places l linear (λ j hj. within j (omega arith)) predicted (omega arith))) x
        ∙ lagrange_only k P V apart (λ j h. bytes (slice_index places j) (within j h)) (lagrange_poly k (λ i. i) d) all x

    go : ((j : ℕ) → j < k → share k d (P j) ≡ V j) ⊎ ((j : ℕ) × (j < k) × (share k d (P j) ≢ V j))
        → (i : ℕ) × (i < length answers) × (get_or marks i false ≡ false) × (share k d (X i) ≢ Y i)
    go (inl all) = (dis.place, dis.within, dis.unmarked, λ e. dis.differs (same all (X dis.place) ∙ e))
    go (inr w) = (slice_index places w.0, within w.0 w.1, chosen.unmarked w.0 (omega (arith, w.1)), w.2)

-- so that more are marked
pub more_marked : (k : ℕ) (d X Y : ℕ → ℕ) (old new : List Bool) → length old ≡ length new → IsBlamed k d X Y old new
    → (i : ℕ) → i < length old → get_or old i false ≡ false → share k d (X i) ≢ Y i → marked old < marked new
more_marked k d X Y old new len blamed i h unmarked differs =
    count_more (λ mark. mark) (λ mark. mark) old new i false len
    (λ j a b l t. get_or_default new j b false (omega arith) ∙ blamed j l ∙ or_left (get_or old j false) _ (get_or_default old j false a l ∙ t))
    h unmarked
    (blamed i h ∙ or_false (get_or old i false) _ unmarked ∙ ap not (ne_eqb (share k d (X i)) (Y i) differs))

-- ---- the stripe that is found
pub enough_unmarked : (k : ℕ) (answers : List Share) (marks : List Bool) → length marks ≡ length answers → k ≤ length answers
    → marked marks ≤ (length answers - k) / 2 → k ≤ count_by (λ mark. not mark) marks
enough_unmarked k answers marks len enough few = omega (arith, count_both (λ mark. mark) marks)

-- few answers are altered, as only marked ones are
pub near_found : (k size : ℕ) (stripe : List ℕ) (answers : List Share) (marks : List Bool)
    → length marks ≡ length answers → k ≤ length answers → marked marks ≤ (length answers - k) / 2
    → AreRight k size stripe answers marks → IsNear k size stripe answers
near_found k size stripe answers marks len enough few right = record {
  enough = enough;
  few = at_most (count_fewer (is_altered k size stripe) (λ mark. mark) answers marks (sym len)
      (λ i a b h t. each i a b h t (get_or marks i b) refl)) few;
}
  where
    at_most : {a b c : ℕ} → a ≤ b → b ≤ c → a ≤ c
    at_most p q = omega arith

    each : (i : ℕ) (a : Share) (b : Bool) → i < length answers → is_altered k size stripe (get_or answers i a) ≡ true
        → (m : Bool) → get_or marks i b ≡ m → m ≡ true
    each i a b h t true e = refl
    each i a b h t false e = sym (right i a h (get_or_default marks i false b (omega arith) ∙ e)) ∙ t

same_marks : {X : Type 0} (p : X → Bool) (xs : List X) (ms : List Bool) → length ms ≡ length xs
    → ((i : ℕ) (x : X) → i < length xs → get_or ms i false ≡ p (get_or xs i x)) → ms ≡ map p xs
same_marks p [] [] len h = refl
same_marks p [] (m ∷ ms) len h = absurd (omega arith)
same_marks p (x ∷ xs) [] len h = absurd (omega arith)
same_marks p (x ∷ xs) (m ∷ ms) len h =
    ap (λ n. n ∷ ms) (h 0 x (omega arith))
    ∙ ap (λ ns. p x ∷ ns) (same_marks p xs ms (omega arith) (λ i y l. h (suc i) y (omega arith)))

-- the marks are just those of the altered answers
pub marks_found : (k size : ℕ) (stripe : List ℕ) (answers : List Share) (marks : List Bool)
    → length marks ≡ length answers → AreKnown k size answers marks → AreRight k size stripe answers marks
    → IsNear k size stripe answers → marks ≡ map (is_altered k size stripe) answers
marks_found k size stripe answers marks len known right near =
    same_marks (is_altered k size stripe) answers marks len (λ i a h. each i a h (get_or marks i false) refl)
  where
    each : (i : ℕ) (a : Share) → i < length answers → (m : Bool) → get_or marks i false ≡ m
        → m ≡ is_altered k size stripe (get_or answers i a)
    each i a h true e = sym (known.altered stripe near i a h e)
    each i a h false e = sym (right i a h e)

-- ---- the predicted stripe
-- a sum with Lagrange's weights is the value of the polynomial
pub weights_sum : (n : ℕ) (X Z Y W : ℕ → ℕ) (x : ℕ) → ((j : ℕ) → j < n → X j ≡ Z j)
    → ((j : ℕ) → j < n → W j ≡ weight X n j x) → total n (λ j. W j ⊗ Y j) ≡ interpolated n Z Y x
unfolding interpolated weight
weights_sum n X Z Y W x same weights =
    total_agree n (λ j. W j ⊗ Y j) (λ j. Y j ⊗ weight Z n j x)
    (λ j h. ap (λ w. w ⊗ Y j) (weights j h ∙ weight_agree n j X Z x h same) ∙ product_comm (weight Z n j x) (Y j))

-- one row more is written
pub rows_more : (size l : ℕ) (old row new : List ℕ) (F : ℕ → ℕ → ℕ)
    → take (l * size + length row) new ≡ take (l * size) old ++ row → length row ≡ size → l * size ≤ length old
    → ((i c : ℕ) → i < l → c < size → slice_index old (i * size + c) ≡ F i c)
    → ((c : ℕ) → c < size → slice_index row c ≡ F l c)
    → (i c : ℕ) → i < l + 1 → c < size → slice_index new (i * size + c) ≡ F i c
rows_more size l old row new F put len room before here i c hi hc = go (cases_lt i l)
  where
    read : (p : ℕ) → p < l * size + size → slice_index new p ≡ slice_index (take (l * size) old ++ row) p
    read p h =
        sym (get_or-take (l * size + length row) new p 0 (omega arith)) ∙ ap (λ xs. slice_index xs p) put

    front : length (take (l * size) old) ≡ l * size
    front = length-take-le (l * size) old room

    go : (i < l) ⊎ (l ≤ i) → slice_index new (i * size + c) ≡ F i c
    go (inl h) =
        let whole : size * (i + 1) ≤ size * l = mul-le-mul_left size (omega arith) in
        let within : i * size + c < l * size = omega arith in
        read (i * size + c) (omega arith)
        ∙ get_or_append_left (take (l * size) old) row 0 (i * size + c) (omega (arith, front))
        ∙ get_or-take (l * size) old (i * size + c) 0 within ∙ before i c h hc
    go (inr h) =
        let last : l ≡ i = omega arith in
        let at : l * size + c - l * size ≡ c = omega arith in
        subst (λ i. slice_index new (i * size + c) ≡ F i c) last
        (read (l * size + c) (omega arith)
        ∙ get_or-append_right (take (l * size) old) row (l * size) (l * size + c) 0 front (omega arith)
        ∙ ap (slice_index row) at ∙ here c hc)

-- ---- a place of one answer
pub differs_there : (k size c : ℕ) (stripe row : List ℕ) (a : Share) → length a.bytes ≡ size
    → row ≡ share_of k size stripe a.index → length row ≡ size
    → (c < length row) × (slice_index row c ≢ slice_index a.bytes c)
    → (c < size) × (column_share k size stripe c a.index ≢ byte_of size c a)
differs_there k size c stripe row a whole is len found =
    let here : c < size = omega (arith, found.0) in (
      here,
      λ e. found.1 (ap (λ xs. slice_index xs c) is ∙ share_byte k size stripe a.index c here ∙ e
          ∙ ap (λ b. cond b (slice_index a.bytes c) 0) (eq-eqb (length a.bytes) size whole)),
    )

pub disagrees_there : (k size : ℕ) (stripe : List ℕ) (answers : List Share) (marks : List Bool) (i : ℕ) (a : Share) (c : ℕ)
    → i < length answers → get_or marks i false ≡ false
    → (c < size) × (column_share k size stripe c (get_or answers i a).index ≢ byte_of size c (get_or answers i a))
    → DisagreesIn k size stripe answers marks c
disagrees_there k size stripe answers marks i a c h unmarked found = (
  found.0,
  record {
    place = i;
    within = h;
    unmarked = unmarked;
    differs = λ e. found.1 (ap (column_share k size stripe c) (sym (index_at answers i a h)) ∙ e ∙ value_at size (at_column c) answers i a h);
  },
)

-- ---- values that disagree
pub combined_disagrees : (k size : ℕ) (factors stripe values column : List ℕ) (answers : List Share) (marks : List Bool)
    → length factors ≡ size → length column ≡ k → values ≡ values_of (length factors) (combined factors) answers
    → ((l : ℕ) → l < length column → slice_index column l ≡ row_value (length factors) stripe (combined factors) l)
    → (i : ℕ) × (i < length answers) × (get_or marks i false ≡ false)
    × (share k (slice_index column) (slice_index (indexes_of answers) i) ≢ slice_index values i)
    → (F : (ℕ → ℕ) → ℕ) × IsLinear size F × (values ≡ values_of size F answers) × Disagrees k size stripe answers marks F
combined_disagrees k size factors stripe values column answers marks len len_k ev rows off =
    subst (λ n. (F : (ℕ → ℕ) → ℕ) × IsLinear n F × (values ≡ values_of n F answers) × Disagrees k n stripe answers marks F) len (
      combined factors,
      combined_linear factors,
      ev,
      record {
        place = off.0;
        within = off.1;
        unmarked = off.2;
        differs = λ e. off.3 (lagrange_agree k (λ i. i) (slice_index column) (row_value (length factors) stripe (combined factors))
            (λ l h. rows l (omega arith)) (slice_index (indexes_of answers) off.0)
            ∙ e ∙ ap (λ ys. slice_index ys off.0) (sym ev));
      },
    )

pub column_disagrees : (k size c : ℕ) (stripe values : List ℕ) (answers : List Share) (marks : List Bool)
    → values ≡ bytes_of size c answers → DisagreesIn k size stripe answers marks c
    → (F : (ℕ → ℕ) → ℕ) × IsLinear size F × (values ≡ values_of size F answers) × Disagrees k size stripe answers marks F
column_disagrees k size c stripe values answers marks ev dis =
    (at_column c, column_linear size c dis.0, ev, dis.1)

-- ---- a round, over the lists that it read
near_listed : (k size : ℕ) (F : (ℕ → ℕ) → ℕ) (answers : List Share) (points values : List ℕ) (d : ℕ → ℕ)
    → points ≡ indexes_of answers → values ≡ values_of size F answers
    → IsNearData (length points) k (slice_index points) (slice_index values) d
    → IsNearData (length answers) k (slice_index (indexes_of answers)) (slice_index (values_of size F answers)) d
near_listed k size F answers points values d ep ev near =
    subst (λ n. IsNearData n k (slice_index (indexes_of answers)) (slice_index (values_of size F answers)) d) (indexes_length answers)
    (subst (λ ys. IsNearData (length (indexes_of answers)) k (slice_index (indexes_of answers)) (slice_index ys) d) ev
    (subst (λ xs. IsNearData (length xs) k (slice_index xs) (slice_index values) d) ep near))

blamed_listed : (k size : ℕ) (F : (ℕ → ℕ) → ℕ) (answers : List Share) (points values : List ℕ) (d : ℕ → ℕ) (old new : List Bool)
    → points ≡ indexes_of answers → values ≡ values_of size F answers
    → IsBlamed k d (slice_index points) (slice_index values) old new
    → IsBlamed k d (slice_index (indexes_of answers)) (slice_index (values_of size F answers)) old new
blamed_listed k size F answers points values d old new ep ev blamed =
    subst (λ ys. IsBlamed k d (slice_index (indexes_of answers)) (slice_index ys) old new) ev
    (subst (λ xs. IsBlamed k d (slice_index xs) (slice_index values) old new) ep blamed)

pub round_known : (n k size : ℕ) (F : (ℕ → ℕ) → ℕ) (answers : List Share) (points values : List ℕ) (d : ℕ → ℕ) (old new : List Bool)
    → points ≡ indexes_of answers → values ≡ values_of size F answers → Rises points
    → n ≤ 256 → All (λ j. j < n) points → IsLinear size F
    → length old ≡ length answers → AreKnown k size answers old
    → IsNearData (length points) k (slice_index points) (slice_index values) d
    → IsBlamed k d (slice_index points) (slice_index values) old new
    → AreKnown k size answers new
round_known n k size F answers points values d old new ep ev rising small below linear len known near blamed =
    known_after k size F answers d old new (subst Rises ep rising)
    (index_bytes n answers small (subst (λ xs. All (λ j. j < n) xs) ep below)) linear len known
    (near_listed k size F answers points values d ep ev near)
    (blamed_listed k size F answers points values d old new ep ev blamed)

pub round_marks : (n k size : ℕ) (F : (ℕ → ℕ) → ℕ) (answers : List Share) (points values : List ℕ) (d : ℕ → ℕ) (old new : List Bool)
    (stripe places : List ℕ)
    → points ≡ indexes_of answers → values ≡ values_of size F answers → Rises points
    → n ≤ 256 → k ≤ 256 → All (λ j. j < n) points → IsLinear size F
    → length old ≡ length answers → length new ≡ length old
    → length places ≡ k → AreChosen old places → IsPredicted size answers places stripe
    → Disagrees k size stripe answers old F
    → IsBlamed k d (slice_index points) (slice_index values) old new
    → marked old < marked new
round_marks n k size F answers points values d old new stripe places ep ev rising small small_k below linear len len_new len_k chosen predicted dis blamed =
    let w = off_somewhere k size F stripe answers old places d linear small_k (subst Rises ep rising)
    (index_bytes n answers small (subst (λ xs. All (λ j. j < n) xs) ep below)) len len_k chosen predicted dis in
    more_marked k d (slice_index (indexes_of answers)) (slice_index (values_of size F answers)) old new (sym len_new)
    (blamed_listed k size F answers points values d old new ep ev blamed) w.0 (omega (arith, w.1)) w.2 w.3

-- ---- the first round
pub few_answers : (n : ℕ) (answers : List Share) → Rises (indexes_of answers) → All (λ j. j < n) (indexes_of answers)
    → length answers ≤ n
few_answers n answers rising below =
    subst (λ len. len ≤ n) (indexes_length answers) (few_rising n (indexes_of answers) rising below)

-- the marks of wrong lengths are known
pub first_known : (k size : ℕ) (answers : List Share) (marks : List Bool)
    → ((i : ℕ) (a : Share) → i < length answers
    → get_or marks i false ≡ not (eqb (length (get_or answers i a).bytes) size))
    → AreKnown k size answers marks
first_known k size answers marks is = record {
  lengths = λ i a h wrong. is i a h ∙ ap not (ne_eqb (length (get_or answers i a).bytes) size wrong);
  altered = λ s near i a h mark. altered_unless k size s (get_or answers i a)
      (λ e. off (length (get_or answers i a).bytes) size (sym (is i a h) ∙ mark)
      (ap length e ∙ length-share_of k size s (get_or answers i a).index));
}

-- where too many are known to be altered, no stripe is near
pub none_beyond : (k size : ℕ) (answers : List Share) (marks : List Bool) → length marks ≡ length answers
    → AreKnown k size answers marks → (length answers - k) / 2 < marked marks
    → (s : List ℕ) → IsNear k size s answers → ⊥
none_beyond k size answers marks len known many s near =
    too_many (count_fewer (λ mark. mark) (is_altered k size s) marks answers len
    (λ i m a h t. known.altered s near i a (omega arith) (get_or_default marks i false m h ∙ t))) near.few many
  where
    too_many : {a b c : ℕ} → a ≤ b → b ≤ c → c < a → ⊥
    too_many p q l = omega arith

pub none_below : (k size : ℕ) (answers : List Share) → length answers < k → (s : List ℕ) → IsNear k size s answers → ⊥
none_below k size answers short s near = omega (arith, near.enough)
