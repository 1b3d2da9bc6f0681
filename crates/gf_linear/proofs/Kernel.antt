-- A row step keeps the lists that the rows take to 0, and with them the solutions.
use Rattle.std.proofs.Common.{ℕ, suc, ◌≡◌, ◌≢◌, ◌<◌, refl, sym, ap, ◌∙◌, arith, ◌⊎◌, inl, inr, cond, eqb, eq-eqb}
use Rattle.std.proofs.lemmas.Bool.{cases_eq, ne_eqb}
use lib.Bits.{xor_zero_r}
use Rattle.gf256.specs.Field.{◌⊕◌, ◌⊗◌}
use Rattle.gf256.specs.Sums.{total}
use Rattle.gf_linear.specs.System.{IsSolution}
use Rattle.gf_linear.specs.Elimination.{TakesToZero, SameKernel, RowAdded}
use Rattle.gf256.proofs.Laws.{product_assoc, product_zero, product_one}
use Rattle.gf256.proofs.Sums.{total_agree, total_sum, total_times}
use Rattle.gf256.proofs.Ring.{equal_from_sum, sum_from_equal, product_sum_left}

pub kernel_refl : (rows n : ℕ) (M : ℕ → ℕ → ℕ) → SameKernel rows n M M
kernel_refl rows n M = record { forth = λ v h. h; back = λ v h. h }

pub kernel_trans : {rows n : ℕ} {L M N : ℕ → ℕ → ℕ} → SameKernel rows n L M
    → SameKernel rows n M N → SameKernel rows n L N
kernel_trans p q =
    record { forth = λ v h. q.forth v (p.forth v h); back = λ v h. p.back v (q.back v h) }

pub kernel_sym : {rows n : ℕ} {M N : ℕ → ℕ → ℕ} → SameKernel rows n M N → SameKernel rows n N M
kernel_sym k = record { forth = k.back; back = k.forth }

row_sum : (n : ℕ) (M N : ℕ → ℕ → ℕ) (a b t : ℕ) → RowAdded n M N a b t → (v : ℕ → ℕ)
    → total n (λ j. N a j ⊗ v j) ≡ total n (λ j. M a j ⊗ v j) ⊕ t ⊗ total n (λ j. M b j ⊗ v j)
row_sum n M N a b t r v =
    total_agree n (λ j. N a j ⊗ v j) (λ j. M a j ⊗ v j ⊕ t ⊗ (M b j ⊗ v j))
    (λ j h. ap (λ z. z ⊗ v j) (r.sum j h) ∙ product_sum_left (M a j) (t ⊗ M b j) (v j)
    ∙ ap (λ z. M a j ⊗ v j ⊕ z) (product_assoc t (M b j) (v j)))
    ∙ total_sum n (λ j. M a j ⊗ v j) (λ j. t ⊗ (M b j ⊗ v j))
    ∙ ap (λ z. total n (λ j. M a j ⊗ v j) ⊕ z) (total_times n t (λ j. M b j ⊗ v j))

row_same : (n : ℕ) (M N : ℕ → ℕ → ℕ) (a b t : ℕ) → RowAdded n M N a b t → (v : ℕ → ℕ) (i : ℕ)
    → i ≢ a
    → total n (λ j. N i j ⊗ v j) ≡ total n (λ j. M i j ⊗ v j)
row_same n M N a b t r v i ne =
    total_agree n (λ j. N i j ⊗ v j) (λ j. M i j ⊗ v j) (λ j h. ap (λ z. z ⊗ v j) (r.others i j ne h))

-- adding a multiple of row b to another row a keeps them
pub kernel_added : (rows n : ℕ) (M N : ℕ → ℕ → ℕ) (a b t : ℕ) → RowAdded n M N a b t → b < rows
    → a ≢ b → SameKernel rows n M N
kernel_added rows n M N a b t r hb ne = record { forth = forth; back = back }
  where
    b_same : (v : ℕ → ℕ) → total n (λ j. N b j ⊗ v j) ≡ total n (λ j. M b j ⊗ v j)
    b_same v = row_same n M N a b t r v b (λ e. ne (sym e))

    forth : (v : ℕ → ℕ) → ((i : ℕ) → i < rows → TakesToZero n M v i) → (i : ℕ) → i < rows
        → TakesToZero n N v i
    forth v h i l = go (cases_eq i a)
      where
        go : (i ≡ a) ⊎ (i ≢ a) → TakesToZero n N v i
        go (inl e) =
            ap (λ k. total n (λ j. N k j ⊗ v j)) e ∙ row_sum n M N a b t r v
            ∙ ap (λ z. z ⊕ t ⊗ total n (λ j. M b j ⊗ v j)) (ap (λ k. total n (λ j. M k j ⊗ v j)) (sym e) ∙ h i l)
            ∙ ap (λ z. t ⊗ z) (h b hb) ∙ product_zero t
        go (inr q) = row_same n M N a b t r v i q ∙ h i l

    back : (v : ℕ → ℕ) → ((i : ℕ) → i < rows → TakesToZero n N v i) → (i : ℕ) → i < rows
        → TakesToZero n M v i
    back v h i l = go (cases_eq i a)
      where
        go : (i ≡ a) ⊎ (i ≢ a) → TakesToZero n M v i
        go (inl e) =
            ap (λ k. total n (λ j. M k j ⊗ v j)) e
            ∙ sym (xor_zero_r (total n (λ j. M a j ⊗ v j)))
            ∙ ap (λ z. total n (λ j. M a j ⊗ v j) ⊕ z) (sym (ap (λ z. t ⊗ z) (sym (b_same v) ∙ h b hb) ∙ product_zero t))
            ∙ sym (row_sum n M N a b t r v)
            ∙ ap (λ k. total n (λ j. N k j ⊗ v j)) (sym e) ∙ h i l
        go (inr q) = sym (row_same n M N a b t r v i q) ∙ h i l

-- ---- solutions
-- x followed by e, at place u
followed : (u e : ℕ) (x : ℕ → ℕ) → ℕ → ℕ
followed u e x j = cond (eqb j u) e (x j)

total-followed : (u e : ℕ) (M : ℕ → ℕ → ℕ) (x : ℕ → ℕ) (i : ℕ)
    → total (suc u) (λ j. M i j ⊗ followed u e x j) ≡ total u (λ j. M i j ⊗ x j) ⊕ M i u ⊗ e
unfolding followed
total-followed u e M x i =
    ap (λ z. z ⊕ M i u ⊗ cond (eqb u u) e (x u))
    (total_agree u (λ j. M i j ⊗ followed u e x j) (λ j. M i j ⊗ x j)
    (λ j l. let ne : j ≢ u = omega arith in ap (λ b. M i j ⊗ cond b e (x j)) (ne_eqb j u ne)))
    ∙ ap (λ b. total u (λ j. M i j ⊗ x j) ⊕ M i u ⊗ cond b e (x u)) (eq-eqb u u refl)

-- x solves the system where x, followed by 1, is taken to 0
pub solution_kept : (rows u : ℕ) (M N : ℕ → ℕ → ℕ)
    → ((i : ℕ) → M i u < 256) → ((i : ℕ) → N i u < 256)
    → SameKernel rows (suc u) M N → (x : ℕ → ℕ) → IsSolution rows u M x → IsSolution rows u N x
solution_kept rows u M N hM hN k x s i h =
    equal_from_sum (total u (λ j. N i j ⊗ x j)) (N i u)
    (sym (with_side N i (hN i))
    ∙ k.forth (followed u 1 x)
    (λ r l. with_side M r (hM r) ∙ sum_from_equal (total u (λ j. M r j ⊗ x j)) (M r u) (s r l)) i h)
  where
    with_side : (L : ℕ → ℕ → ℕ) (r : ℕ) → L r u < 256
        → total (suc u) (λ j. L r j ⊗ followed u 1 x j) ≡ total u (λ j. L r j ⊗ x j) ⊕ L r u
    with_side L r b =
        total-followed u 1 L x r ∙ ap (λ z. total u (λ j. L r j ⊗ x j) ⊕ z) (product_one (L r u) b)

-- the coefficients take z to 0 where the rows take z, followed by 0, to 0
pub zero_kept : (rows u : ℕ) (M N : ℕ → ℕ → ℕ) → SameKernel rows (suc u) M N → (z : ℕ → ℕ)
    → ((i : ℕ) → i < rows → total u (λ j. M i j ⊗ z j) ≡ 0)
    → (i : ℕ) → i < rows → total u (λ j. N i j ⊗ z j) ≡ 0
zero_kept rows u M N k z h i l =
    sym (without_side N i) ∙ k.forth (followed u 0 z) (λ r a. without_side M r ∙ h r a) i l
  where
    without_side : (L : ℕ → ℕ → ℕ) (r : ℕ)
        → total (suc u) (λ j. L r j ⊗ followed u 0 z j) ≡ total u (λ j. L r j ⊗ z j)
    without_side L r =
        total-followed u 0 L z r
        ∙ ap (λ y. total u (λ j. L r j ⊗ z j) ⊕ y) (product_zero (L r u))
        ∙ xor_zero_r (total u (λ j. L r j ⊗ z j))
