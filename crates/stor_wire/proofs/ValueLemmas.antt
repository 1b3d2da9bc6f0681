-- What the values of Content-Length say.
use Rattle.std.proofs.Common.{◌≡◌, ◌≢◌, ℕ, ◌≤◌, List, [], ◌∷◌, length, refl, arith, Some, None}
use Rattle.sat_base.specs.Text.{number_up_to}
use Rattle.sat_base.proofs.TextLemmas.{number_small}
use Rattle.http_parts.proofs.HeaderLemmas.{first}
use Rattle.stor_wire.specs.Values.{only_number}

pub only_none : (most : ℕ) (vs : List (List ℕ)) → first vs ≡ None → only_number most vs ≡ None
only_none most [] e = refl
only_none most (v ∷ vs) e = cc

pub only_many : (most : ℕ) (vs : List (List ℕ)) (v : List ℕ) → first vs ≡ Some v → length vs ≢ 1 → only_number most vs ≡ None
only_many most [] v e n = cc
only_many most (w ∷ []) v e n = absurd (n refl)
only_many most (w ∷ x ∷ vs) v e n = refl

pub only_one : (most : ℕ) (vs : List (List ℕ)) (v : List ℕ) → first vs ≡ Some v → length vs ≡ 1 → only_number most vs ≡ number_up_to most v
only_one most [] v e n = cc
only_one most (w ∷ []) v e n = let same : w ≡ v = cc in rw same refl
only_one most (w ∷ x ∷ vs) v e n = absurd (omega (arith, n))

pub only_small : (most : ℕ) (vs : List (List ℕ)) (n : ℕ) → only_number most vs ≡ Some n → n ≤ most
only_small most [] n e = cc
only_small most (v ∷ []) n e = number_small most v n e
only_small most (v ∷ w ∷ vs) n e = cc
