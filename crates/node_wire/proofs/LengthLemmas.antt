-- What the values of Content-Length say.
use Rattle.std.proofs.Common.{◌≡◌, ◌≢◌, ℕ, List, [], ◌∷◌, length, refl, sym, ap, arith, true, false, nat_le, Some, None}
use Rattle.std.specs.Str.Parse.{digits_value}
use Rattle.std.proofs.lemmas.Grind.{common_steps}
use Rattle.http_parts.proofs.HeaderLemmas.{first}
use Rattle.sat_base.specs.Text.{numeral, up_to}
use Rattle.sat_base.proofs.TextLemmas.{up_to_some, up_to_too_great}
use Rattle.node_wire.specs.Heard.{of_lengths}
use Rattle.node_wire.specs.declared.head.Says.TheVariants.{NoAnswer, Long, Body}

pub lengths_none : (len : ℕ) (vs : List (List ℕ)) → first vs ≡ None → of_lengths len vs ≡ NoAnswer
lengths_none len [] e = refl
lengths_none len (v ∷ vs) e = cc

pub lengths_many : (len : ℕ) (vs : List (List ℕ)) (v : List ℕ) → first vs ≡ Some v → length vs ≢ 1 → of_lengths len vs ≡ NoAnswer
lengths_many len [] v e n = cc
lengths_many len (w ∷ []) v e n = absurd (n refl)
lengths_many len (w ∷ x ∷ vs) v e n = refl

one_value : (vs : List (List ℕ)) (v : List ℕ) → first vs ≡ Some v → length vs ≡ 1 → vs ≡ v ∷ []
one_value [] v e n = cc
one_value (w ∷ []) v e n = cc
one_value (w ∷ x ∷ vs) v e n = absurd (omega (arith, n))

pub lengths_bad : (len : ℕ) (vs : List (List ℕ)) (v : List ℕ) → first vs ≡ Some v → length vs ≡ 1 → numeral v ≡ false → of_lengths len vs ≡ NoAnswer
lengths_bad len vs v e n b = rw (one_value vs v e n, b) refl

pub lengths_great : (len : ℕ) (vs : List (List ℕ)) (v : List ℕ) → first vs ≡ Some v → length vs ≡ 1 → numeral v ≡ true → None ≡ up_to len (digits_value 10 v) → of_lengths len vs ≡ Long
lengths_great len vs v e n b u = rw (one_value vs v e n, b, up_to_too_great len (digits_value 10 v) u) refl

pub lengths_good : (len : ℕ) (vs : List (List ℕ)) (v : List ℕ) (m : ℕ) → first vs ≡ Some v → length vs ≡ 1 → numeral v ≡ true → Some m ≡ up_to len (digits_value 10 v) → of_lengths len vs ≡ Body m
lengths_good len vs v m e n b u =
    let small = up_to_some len (digits_value 10 v) m u in
    let test : nat_le (digits_value 10 v) len ≡ true = grind (arith, common_steps, small.0) in
    rw (one_value vs v e n, b, test) (ap (λ n. Body n) (sym small.1))
