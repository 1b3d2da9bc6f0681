-- A solution of the system gives an error locator, and the values where it is not 0 give the near
-- codeword.
use Rattle.std.proofs.Common.{ℕ, suc, ◌≡◌, ◌<◌, ◌≤◌, ◌+◌, ◌-◌, ◌/◌, sym, ap, ◌∙◌, subst, List, [], ◌∷◌, length, get_or, ◌⊎◌, inl, inr, arith, slice_index}
use Rattle.std.proofs.lemmas.Bool.{cases_lt}
use Rattle.gf256.specs.Field.{◌⊗◌}
use Rattle.gf256.proofs.Sums.{total_agree}
use Rattle.gf_linear.specs.System.{IsSolution}
use Rattle.gf_linear.specs.Differences.{differences}
use Rattle.gf_linear.specs.Lagrange.{interpolated}
use Rattle.gf_linear.specs.Polynomial.{horner, Bytes, Apart}
use Rattle.gf_linear.proofs.Lagrange.{AreBytes, lagrange_poly, lagrange_only, differences_agree}
use Rattle.rs_stripe.specs.Codeword.{share}
use Rattle.bw_decode.specs.Near.{IsNearData, Rises}
use Rattle.bw_decode.specs.Equations.{system, IsLocator}
use Rattle.bw_decode.proofs.Welch.{Solution, IsNear, solution_from_near, right_there, enough_there, near_only}
use Rattle.bw_decode.proofs.Equations.{solved_by, read_from}

pub rising_apart : (xs : List ℕ) → Rises xs → Apart (length xs) (slice_index xs)
rising_apart xs h i j hi hj ne e = go (cases_lt i j)
  where
    go : (i < j) ⊎ (j ≤ i) → ⊥
    go (inl l) = omega (arith, h i j l hj)
    go (inr l) = omega (arith, h j i (omega arith) hi)

bytes_of : (cs : List ℕ) → ((i : ℕ) → get_or cs i 0 < 256) → Bytes cs
bytes_of [] h = tt
bytes_of (c ∷ cs) h = (h 0, bytes_of cs (λ i. h (suc i)))

pub near_of : (r k : ℕ) (X Y d : ℕ → ℕ) → IsNearData r k X Y d → IsNear r k ((r - k) / 2) X Y (share k d)
near_of r k X Y d h = record { poly = lagrange_poly k (λ i. i) d; few = h }

-- the codewords of data that are near the same values are the same
pub same_codeword : (r k : ℕ) (X Y d e : ℕ → ℕ) → Apart r X → AreBytes r X → k ≤ r
    → IsNearData r k X Y d → IsNearData r k X Y e → (x : ℕ) → share k d x ≡ share k e x
same_codeword r k X Y d e apart bytes size near_d near_e x =
    near_only r k ((r - k) / 2) X Y (share k d) (share k e) apart bytes (omega arith)
    (near_of r k X Y d near_d) (near_of r k X Y e near_e) x

-- two tables with the same entries have the same solutions
solution_agree : (r u : ℕ) (M N : ℕ → ℕ → ℕ) (x : ℕ → ℕ)
    → ((i j : ℕ) → i < r → j < u + 1 → M i j ≡ N i j) → IsSolution r u M x → IsSolution r u N x
solution_agree r u M N x e s i h =
    sym (total_agree u (λ j. M i j ⊗ x j) (λ j. N i j ⊗ x j) (λ j l. ap (λ z. z ⊗ x j) (e i j h (omega arith))))
    ∙ s i h ∙ e i u h (omega arith)

-- where data are near, the system has a solution
pub has_solution : (r k : ℕ) (X Y : ℕ → ℕ) (M : ℕ → ℕ → ℕ) → Apart r X → AreBytes r X → k ≤ r
    → ((i c : ℕ) → i < r - (k + (r - k) / 2) → c < (r - k) / 2 + 1 → M i c ≡ system (k + (r - k) / 2) X Y i c)
    → (d : ℕ → ℕ) → IsNearData r k X Y d
    → (x : ℕ → ℕ) × IsSolution (r - (k + (r - k) / 2)) ((r - k) / 2) M x
has_solution r k X Y M apart bx size entries d near =
    let e = (r - k) / 2 in
    let w = k + e in
    let s = solution_from_near r k e X Y (share k d) (near_of r k X Y d near) in
    let solved = solved_by r w X Y s.q s.l s.q_size s.q_bytes s.l_bytes (omega arith) apart bx s.solves in (
      slice_index s.l,
      solution_agree (r - w) e (system w X Y) M (slice_index s.l) (λ i j a b. sym (entries i j a b))
          (subst (λ n. IsSolution (r - w) n (system w X Y) (slice_index s.l)) s.l_size solved),
    )

-- the values zs are bytes, and solve the table that holds the system
pub record IsSolved (r k : ℕ) (X Y : ℕ → ℕ) (M : ℕ → ℕ → ℕ) (zs : List ℕ) : Type 0 where
  pub size : length zs ≡ (r - k) / 2
  pub entries :
      (i c : ℕ) → i < r - (k + (r - k) / 2) → c < length zs + 1
      → M i c ≡ system (k + (r - k) / 2) X Y i c
  pub bytes : (i : ℕ) → get_or zs i 0 < 256
  pub solved : IsSolution (r - (k + (r - k) / 2)) (length zs) M (slice_index zs)

-- with the polynomial through the first values, each times the locator's, a solution is a pair
solution_of : (r k : ℕ) (X Y : ℕ → ℕ) (M : ℕ → ℕ → ℕ) (zs : List ℕ) → IsSolved r k X Y M zs
    → Apart r X → AreBytes r X → k ≤ r → Solution r k ((r - k) / 2) X Y
solution_of r k X Y M zs given apart bx size =
    let e = (r - k) / 2 in
    let w = k + e in
    let l_bytes = bytes_of zs given.bytes in
    let p = lagrange_poly w X (λ j. Y j ⊗ horner 1 zs (X j)) in
    let solved = solution_agree (r - w) (length zs) M (system w X Y) (slice_index zs) given.entries given.solved in
    record {
      q = p.cs;
      l = zs;
      q_size = p.size;
      l_size = given.size;
      q_bytes = p.bytes;
      l_bytes = l_bytes;
      solves = record { at_each = λ i h. sym (p.is (X i)) ∙ read_from r w X Y zs l_bytes (omega arith) apart bx solved i h };
    }

-- its second polynomial is an error locator
pub locator : (r k : ℕ) (X Y : ℕ → ℕ) (M : ℕ → ℕ → ℕ) (zs : List ℕ) → IsSolved r k X Y M zs
    → Apart r X → AreBytes r X → AreBytes r Y → k ≤ r → IsLocator r k X Y zs
unfolding solution_of
locator r k X Y M zs given apart bx by size = record {
  right = λ d near i h ne. right_there r k ((r - k) / 2) X Y (share k d) apart bx by (omega arith) (near_of r k X Y d near) (solution_of r k X Y M zs given apart bx size) i h ne;
  enough = λ d near. enough_there r k ((r - k) / 2) X Y (share k d) apart bx by (omega arith) (near_of r k X Y d near) (solution_of r k X Y M zs given apart bx size);
}

-- ---- the codeword that is read off
-- the values V at the k points C are right where some data are near
pub record AreRight (r k : ℕ) (X Y C V : ℕ → ℕ) : Type 0 where
  pub apart : Apart k C
  pub bytes : AreBytes k C
  pub right : (d : ℕ → ℕ) → IsNearData r k X Y d → (j : ℕ) → j < k → share k d (C j) ≡ V j

-- then the polynomial through them is the near codeword
pub through_right : (r k : ℕ) (X Y C V : ℕ → ℕ) → AreRight r k X Y C V → (d : ℕ → ℕ) → IsNearData r k X Y d
    → (x : ℕ) → interpolated k C V x ≡ share k d x
through_right r k X Y C V are d near x =
    lagrange_only k C V are.apart are.bytes (lagrange_poly k (λ i. i) d) (are.right d near) x

-- so that it is near
pub few_errors : (r k : ℕ) (X Y C V : ℕ → ℕ) → AreRight r k X Y C V → (d : ℕ → ℕ) → IsNearData r k X Y d
    → differences r (λ i. interpolated k C V (X i)) Y ≤ (r - k) / 2
few_errors r k X Y C V are d near =
    subst (λ n. n ≤ (r - k) / 2)
    (differences_agree r (λ i. share k d (X i)) (λ i. interpolated k C V (X i)) Y
    (λ i h. sym (through_right r k X Y C V are d near (X i))))
    near

-- its values at 0 up to k - 1 are data with this codeword
pub data_of : (k : ℕ) (C V out : ℕ → ℕ) → k ≤ 256 → ((j : ℕ) → j < k → out j ≡ interpolated k C V j)
    → (x : ℕ) → share k out x ≡ interpolated k C V x
data_of k C V out size is x =
    lagrange_only k (λ i. i) out (λ i j hi hj ne. ne) (λ i h. omega arith) (lagrange_poly k C V)
    (λ j h. sym (is j h)) x

pub near_data : (r k : ℕ) (X Y C V out : ℕ → ℕ) → k ≤ 256 → ((j : ℕ) → j < k → out j ≡ interpolated k C V j)
    → differences r (λ i. interpolated k C V (X i)) Y ≤ (r - k) / 2 → IsNearData r k X Y out
near_data r k X Y C V out size is few =
    subst (λ n. n ≤ (r - k) / 2)
    (differences_agree r (λ i. interpolated k C V (X i)) (λ i. share k out (X i)) Y
    (λ i h. sym (data_of k C V out size is (X i))))
    few
