-- Stripes near answers, by the values of a linear form.
use Rattle.std.proofs.Common.{ℕ, zero, suc, ◌≡◌, ◌<◌, ◌≤◌, ◌+◌, ◌*◌, ◌/◌, ◌%◌, refl, sym, ap, ◌∙◌, subst, List, [], ◌∷◌, length, get_or, ◌⊎◌, inl, inr, arith, lit<, cond, true, false, not, Bool, slice_index, eq-eqb, All}
use Rattle.std.proofs.Math.Nat.{mul-le-mul_left, mod-lt}
use Rattle.std.proofs.lemmas.Nat.{div-add-mod'}
use Rattle.std.proofs.lemmas.Bool.{cases_lt}
use Rattle.std.proofs.lemmas.List.{get_or_past}
use Rattle.std.proofs.lemmas.List.Elements.{All-get_or}
use Rattle.std.proofs.lemmas.Slice.Eq.{bytes_eq-Decides}
use Rattle.std.proofs.lemmas.Grind.{same_number_lists}
use Rattle.std.specs.Str.{bytes_eq}
use Rattle.sat_base.specs.declared.items.Share.{Share}
use Rattle.gf_linear.specs.Polynomial.{Apart}
use Rattle.gf_linear.proofs.Lagrange.{AreBytes}
use Rattle.rs_stripe.specs.Codeword.{share}
use Rattle.rs_stripe.specs.Segment.{share_of}
use Rattle.rs_stripe.proofs.SegmentLemmas.{length-share_of, share_byte}
use Rattle.rs_stripe.proofs.ShareLemmas.{share_data}
use Rattle.bw_decode.specs.Near.{IsNearData, IsNear, Rises}
use Rattle.bw_decode.specs.Altered.{is_altered, indexes_of}
use Rattle.bw_decode.specs.Answers.{value_of, values_of, row_value}
use Rattle.bw_decode.specs.Forms.{IsLinear, at_column}
use Rattle.bw_decode.proofs.Counts.{differences_counted}
use Rattle.bw_decode.proofs.Forms.{column_linear, form_interpolated}
use Rattle.bw_decode.proofs.Locator.{same_codeword, rising_apart}

-- ---- one answer
true_false : true ≡ false → ⊥
true_false e = cc

not_altered : (k size : ℕ) (s : List ℕ) (a : Share) → is_altered k size s a ≡ false
    → a.bytes ≡ share_of k size s a.index
not_altered k size s a e = go (bytes_eq a.bytes (share_of k size s a.index)) refl e
  where
    go : (b : Bool) → bytes_eq a.bytes (share_of k size s a.index) ≡ b → not b ≡ false
        → a.bytes ≡ share_of k size s a.index
    go true t f = (bytes_eq-Decides a.bytes (share_of k size s a.index)).0 t
    go false t f = absurd (true_false f)

pub right_answer : (k size : ℕ) (s : List ℕ) (a : Share) → a.bytes ≡ share_of k size s a.index
    → is_altered k size s a ≡ false
right_answer k size s a e = ap not ((bytes_eq-Decides a.bytes (share_of k size s a.index)).1 e)

-- an answer that differs in some respect is altered
pub altered_unless : (k size : ℕ) (s : List ℕ) (a : Share) → (a.bytes ≡ share_of k size s a.index → ⊥)
    → is_altered k size s a ≡ true
altered_unless k size s a h = go (is_altered k size s a) refl
  where
    go : (b : Bool) → is_altered k size s a ≡ b → b ≡ true
    go true t = refl
    go false t = absurd (h (not_altered k size s a t))

-- its value is the share of the rows' values
pub right_value : (k size : ℕ) (F : (ℕ → ℕ) → ℕ) (s : List ℕ) (a : Share) → IsLinear size F
    → a.bytes ≡ share_of k size s a.index → value_of size F a ≡ share k (row_value size s F) a.index
right_value k size F s a linear e =
    let len : length a.bytes ≡ size = ap length e ∙ length-share_of k size s a.index in
    ap (λ b. cond b (F (slice_index a.bytes)) 0) (eq-eqb (length a.bytes) size len)
    ∙ ap (λ bytes. F (slice_index bytes)) e
    ∙ linear.same (slice_index (share_of k size s a.index)) (λ c. share k (λ l. slice_index s (l * size + c)) a.index)
    (λ c h. share_byte k size s a.index c h)
    ∙ form_interpolated size F linear k (λ i. i) (λ l c. slice_index s (l * size + c)) a.index

-- ---- lists of answers
pub index_at : (answers : List Share) (i : ℕ) (a : Share) → i < length answers
    → slice_index (indexes_of answers) i ≡ (get_or answers i a).index
index_at [] i a h = absurd (omega arith)
index_at (x ∷ xs) zero a h = refl
index_at (x ∷ xs) (suc i) a h = index_at xs i a (omega arith)

pub value_at : (size : ℕ) (F : (ℕ → ℕ) → ℕ) (answers : List Share) (i : ℕ) (a : Share) → i < length answers
    → slice_index (values_of size F answers) i ≡ value_of size F (get_or answers i a)
value_at size F [] i a h = absurd (omega arith)
value_at size F (x ∷ xs) zero a h = refl
value_at size F (x ∷ xs) (suc i) a h = value_at size F xs i a (omega arith)

-- the values of a near stripe are near
pub values_near : (k size : ℕ) (F : (ℕ → ℕ) → ℕ) (s : List ℕ) (answers : List Share) → IsLinear size F → IsNear k size s answers
    → IsNearData (length answers) k (slice_index (indexes_of answers)) (slice_index (values_of size F answers))
    (row_value size s F)
values_near k size F s answers linear near =
    let few = differences_counted (is_altered k size s) answers
    (λ i. share k (row_value size s F) (slice_index (indexes_of answers) i))
    (slice_index (values_of size F answers))
    (λ i a l t. ap (share k (row_value size s F)) (index_at answers i a l)
    ∙ sym (right_value k size F s (get_or answers i a) linear (not_altered k size s (get_or answers i a) t))
    ∙ sym (value_at size F answers i a l)) in
    le_of few near.few
  where
    le_of : {a b c : ℕ} → a ≤ b → b ≤ c → a ≤ c
    le_of p q = omega arith

-- ---- there is one near stripe
byte_within : (xs : List ℕ) → All (λ b. b < 256) xs → (i : ℕ) → slice_index xs i < 256
byte_within xs bytes i = go (cases_lt i (length xs))
  where
    go : (i < length xs) ⊎ (length xs ≤ i) → slice_index xs i < 256
    go (inl h) = All-get_or (λ b. b < 256) xs i 0 h bytes
    go (inr h) = subst (λ z. z < 256) (sym (get_or_past xs i 0 h)) (lit< tt)

-- where a stripe has a place p, its rows have some bytes, and the row of p is one of the k
some_bytes : (k size p : ℕ) → p < k * size → (0 < size) ⊎ (size ≤ 0) → 0 < size
some_bytes k size p h (inl l) = l
some_bytes k size p h (inr l) =
    let zero_size : size ≡ 0 = omega arith in
    let none : k * size ≡ k * 0 = ap (λ n. k * n) zero_size in
    absurd (omega arith)

row_within : (k size p : ℕ) → p < k * size → (p / size < k) ⊎ (k ≤ p / size) → p / size < k
row_within k size p h (inl l) = l
row_within k size p h (inr l) =
    let most : size * k ≤ size * (p / size) = mul-le-mul_left size l in
    let row : p / size * size ≤ p = row_start (p / size * size) (p % size) p (div-add-mod' p size) in
    absurd (omega arith)
  where
    row_start : (a b c : ℕ) → a + b ≡ c → a ≤ c
    row_start a b c e = omega arith

pub indexes_length : (answers : List Share) → length (indexes_of answers) ≡ length answers
indexes_length [] = refl
indexes_length (x ∷ xs) = ap suc (indexes_length xs)

pub indexes_apart : (answers : List Share) → Rises (indexes_of answers)
    → Apart (length answers) (slice_index (indexes_of answers))
indexes_apart answers rising =
    subst (λ n. Apart n (slice_index (indexes_of answers))) (indexes_length answers)
    (rising_apart (indexes_of answers) rising)

-- the codewords of one form's values
pub same_values : (k size : ℕ) (F : (ℕ → ℕ) → ℕ) (s : List ℕ) (answers : List Share) (d : ℕ → ℕ)
    → Rises (indexes_of answers) → AreBytes (length answers) (slice_index (indexes_of answers)) → IsLinear size F
    → IsNear k size s answers
    → IsNearData (length answers) k (slice_index (indexes_of answers)) (slice_index (values_of size F answers)) d
    → (x : ℕ) → share k d x ≡ share k (row_value size s F) x
same_values k size F s answers d rising bytes linear near_s near_d x =
    same_codeword (length answers) k (slice_index (indexes_of answers)) (slice_index (values_of size F answers)) d
    (row_value size s F) (indexes_apart answers rising) bytes near_s.enough near_d
    (values_near k size F s answers linear near_s) x

pub one_near : (k size : ℕ) (s t : List ℕ) (answers : List Share) → k ≤ 256
    → Rises (indexes_of answers) → All (λ j. j < 256) (indexes_of answers)
    → length s ≡ k * size → All (λ b. b < 256) s
    → length t ≡ k * size → All (λ b. b < 256) t
    → IsNear k size s answers → IsNear k size t answers → s ≡ t
one_near k size s t answers small rising points len_s bytes_s len_t bytes_t near_s near_t =
    same_number_lists s t (len_s ∙ sym len_t) (λ p h. each p (subst (λ n. p < n) len_s h))
  where
    at_each : (l c : ℕ) → l < k → c < size → slice_index s (l * size + c) ≡ slice_index t (l * size + c)
    at_each l c hl hc =
        sym (share_data k l (λ i. slice_index s (i * size + c)) small (λ i h. byte_within s bytes_s (i * size + c)) hl)
        ∙ same_values k size (at_column c) t answers (λ i. slice_index s (i * size + c)) rising
        (λ i h. byte_within (indexes_of answers) points i) (column_linear size c hc) near_t
        (values_near k size (at_column c) s answers (column_linear size c hc) near_s) l
        ∙ share_data k l (λ i. slice_index t (i * size + c)) small (λ i h. byte_within t bytes_t (i * size + c)) hl

    each : (p : ℕ) → p < k * size → slice_index s p ≡ slice_index t p
    each p h =
        subst (λ q. slice_index s q ≡ slice_index t q) (div-add-mod' p size)
        (at_each (p / size) (p % size) (row_within k size p h (cases_lt (p / size) k)) (mod-lt p (some_bytes k size p h (cases_lt 0 size))))
