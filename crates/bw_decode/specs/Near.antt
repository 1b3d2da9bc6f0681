-- Data near the values of a column, and stripes near answers.
use Rattle.std.specs.Prelude.{ℕ, ◌-◌, ◌/◌, ◌<◌, ◌≤◌, List, length, slice_index}
use Rattle.gf_linear.specs.Differences.{differences}
use Rattle.rs_stripe.specs.Codeword.{share}
use Rattle.sat_base.specs.declared.items.Share.{Share}
use Rattle.bw_decode.specs.Altered.{altered}

-- the numbers rise
abbrev pub Rises : List ℕ → Type 0
Rises xs = (i j : ℕ) → i < j → j < length xs → slice_index xs i < slice_index xs j

-- the codeword of the k data bytes d differs from the values Y at no more than (r - k) / 2 of the
-- r points X
abbrev pub IsNearData : ℕ → ℕ → (ℕ → ℕ) → (ℕ → ℕ) → (ℕ → ℕ) → Type 0
IsNearData r k X Y d = differences r (λ i. share k d (X i)) Y ≤ (r - k) / 2

-- there are r answers, which are at least k, and at most (r - k) / 2 of them are altered
pub record IsNear (k size : ℕ) (stripe : List ℕ) (answers : List Share) : Type 0 where
  pub enough : k ≤ length answers
  pub few : altered k size stripe answers ≤ (length answers - k) / 2
