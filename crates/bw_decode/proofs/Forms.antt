-- Linear forms of the columns. Encoding is linear, so a form's values of a stripe's shares are the shares
-- of its values of the rows.
use Rattle.std.proofs.Common.{ℕ, zero, suc, ◌≡◌, ◌<◌, ◌+◌, ◌*◌, refl, sym, ap, ◌∙◌, List, length, take, drop, slice_index, slice_set, ◌⊎◌, inl, inr, ◌≤◌, arith, lit<, get_or-set_other}
use Rattle.std.proofs.lemmas.List.{get_or-take, get_or-drop}
use Rattle.std.proofs.lemmas.Grind.{get_or-set_at}
use Rattle.std.proofs.lemmas.Bool.{cases_lt}
use Rattle.gf256.specs.Field.{◌⊕◌, ◌⊗◌, power, inverse}
use Rattle.gf256.specs.Sums.{total}
use Rattle.gf256.proofs.Laws.{product_comm, product_assoc, product_sum, one_product, zero_product, power_suc, power_zero}
use Rattle.gf256.proofs.Sums.{total_agree, total_sum, total_times}
use Rattle.gf_linear.specs.Lagrange.{basis, interpolated}
use Rattle.bw_decode.specs.Answers.{row_value}
use Rattle.bw_decode.specs.Forms.{IsLinear, at_column, combined}

pub column_linear : (size c : ℕ) → c < size → IsLinear size (at_column c)
column_linear size c h = record {
  same = λ f g e. e c h;
  sum = λ f g. refl;
  times = λ a f. refl;
}

swapped : (a b c : ℕ) → a ⊗ (b ⊗ c) ≡ b ⊗ (a ⊗ c)
swapped a b c = sym (product_assoc a b c) ∙ ap (λ z. z ⊗ c) (product_comm a b) ∙ product_assoc b a c

pub combined_linear : (factors : List ℕ) → IsLinear (length factors) (combined factors)
combined_linear factors = record {
  same = λ f g e. total_agree (length factors) (λ c. w c ⊗ f c) (λ c. w c ⊗ g c) (λ c h. ap (λ z. w c ⊗ z) (e c h));
  sum = λ f g. total_agree (length factors) (λ c. w c ⊗ (f c ⊕ g c)) (λ c. (w c ⊗ f c) ⊕ (w c ⊗ g c))
      (λ c h. product_sum (w c) (f c) (g c))
      ∙ total_sum (length factors) (λ c. w c ⊗ f c) (λ c. w c ⊗ g c);
  times = λ a f. total_agree (length factors) (λ c. w c ⊗ (a ⊗ f c)) (λ c. a ⊗ (w c ⊗ f c)) (λ c h. swapped (w c) a (f c))
      ∙ total_times (length factors) a (λ c. w c ⊗ f c);
}
  where
    w : ℕ → ℕ
    w = slice_index factors

pub form_zero : (size : ℕ) (F : (ℕ → ℕ) → ℕ) → IsLinear size F → F (λ c. 0) ≡ 0
form_zero size F linear =
    linear.same (λ c. 0) (λ c. 0 ⊗ 0) (λ c h. sym (zero_product 0)) ∙ linear.times 0 (λ c. 0) ∙ zero_product (F (λ c. 0))

pub form_total : (size : ℕ) (F : (ℕ → ℕ) → ℕ) → IsLinear size F → (n : ℕ) (w : ℕ → ℕ) (Y : ℕ → ℕ → ℕ)
    → F (λ c. total n (λ j. Y j c ⊗ w j)) ≡ total n (λ j. F (Y j) ⊗ w j)
form_total size F linear zero w Y = form_zero size F linear
form_total size F linear (suc n) w Y =
    linear.sum (λ c. total n (λ j. Y j c ⊗ w j)) (λ c. Y n c ⊗ w n)
    ∙ ap (λ z. z ⊕ F (λ c. Y n c ⊗ w n)) (form_total size F linear n w Y)
    ∙ ap (λ z. total n (λ j. F (Y j) ⊗ w j) ⊕ z)
    (linear.same (λ c. Y n c ⊗ w n) (λ c. w n ⊗ Y n c) (λ c h. product_comm (Y n c) (w n))
    ∙ linear.times (w n) (Y n) ∙ product_comm (w n) (F (Y n)))

-- the form's value of what is interpolated in each column
pub form_interpolated : (size : ℕ) (F : (ℕ → ℕ) → ℕ) → IsLinear size F → (n : ℕ) (X : ℕ → ℕ) (Y : ℕ → ℕ → ℕ) (x : ℕ)
    → F (λ c. interpolated n X (λ j. Y j c) x) ≡ interpolated n X (λ j. F (Y j)) x
unfolding interpolated
form_interpolated size F linear n X Y x =
    form_total size F linear n (λ j. basis X n j x ⊗ inverse (basis X n j (X j))) Y

-- the combination of row l of a stripe
pub row_combined : (factors stripe : List ℕ) (l len : ℕ) → len ≡ length factors
    → combined factors (slice_index (take len (drop (l * length factors) stripe)))
    ≡ row_value (length factors) stripe (combined factors) l
row_combined factors stripe l len e =
    (combined_linear factors).same (slice_index (take len (drop (l * length factors) stripe)))
    (λ c. slice_index stripe (l * length factors + c))
    (λ c h. get_or-take len (drop (l * length factors) stripe) c 0 (omega arith) ∙ get_or-drop (l * length factors) stripe c 0)

pub next_power : (a n : ℕ) → a ⊗ power a n ≡ power a (n + 1)
next_power a n =
    let e : suc n ≡ n + 1 = omega arith in
    sym (power_suc a n) ∙ ap (power a) e

-- one value more is written
pub written_more : (xs : List ℕ) (i v : ℕ) (f : ℕ → ℕ) → i < length xs → ((k : ℕ) → k < i → slice_index xs k ≡ f k) → v ≡ f i
    → (k : ℕ) → k < i + 1 → slice_index (slice_set xs i v) k ≡ f k
written_more xs i v f h before here k hk = go (cases_lt k i)
  where
    go : (k < i) ⊎ (i ≤ k) → slice_index (slice_set xs i v) k ≡ f k
    go (inl l) = get_or-set_other xs i k v 0 (λ e. omega arith) ∙ before k l
    go (inr l) =
        let e : k ≡ i = omega arith in
        get_or-set_at xs i k v 0 e h ∙ here ∙ ap f (sym e)

-- where each factor is 1, the combination is the plain sum
pub plain_sum : (factors : List ℕ) (row : ℕ → ℕ) → ((c : ℕ) → c < length factors → slice_index factors c ≡ 1) → ((c : ℕ) → row c < 256)
    → total (length factors) row ≡ combined factors row
plain_sum factors row ones bytes =
    total_agree (length factors) row (λ c. slice_index factors c ⊗ row c)
    (λ c h. sym (ap (λ z. z ⊗ row c) (ones c h) ∙ one_product (row c) (bytes c)))

pub power_of_one : (a n : ℕ) → a ≡ 1 → power a n ≡ 1
power_of_one a zero e = power_zero a
power_of_one a (suc n) e = power_suc a n ∙ ap (λ z. z ⊗ power a n) e ∙ ap (λ z. 1 ⊗ z) (power_of_one a n e) ∙ one_product 1 (lit< tt)
