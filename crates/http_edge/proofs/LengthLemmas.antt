-- Numerals, and what Content-Length says.
use Rattle.std.proofs.Common.{◌≡◌, ◌≢◌, ℕ, List, [], ◌∷◌, length, refl, sym, ap, arith, true, false, nat_le, Some, None}
use Rattle.std.specs.Str.Parse.{digits_value}
use Rattle.std.proofs.lemmas.Grind.{common_steps}
use Rattle.sat_base.specs.Text.{numeral, up_to}
use Rattle.sat_base.proofs.TextLemmas.{up_to_some, up_to_too_great}
use Rattle.http_parts.proofs.HeaderLemmas.{first}
use Rattle.http_edge.specs.Demands.{of_lengths}
use Rattle.http_edge.specs.declared.routes.Route.{Route}
use Rattle.http_edge.specs.declared.demand.Demand.TheVariants.{Refused, Body}
use Rattle.http_edge.specs.declared.errors.EdgeErr.TheVariants.{NoLength, BadLength, BodySize}

pub lengths_none : (r : Route) (vs : List (List ℕ)) → first vs ≡ None → of_lengths r vs ≡ Refused NoLength
lengths_none r [] e = refl
lengths_none r (v ∷ vs) e = cc

pub lengths_many : (r : Route) (vs : List (List ℕ)) (v : List ℕ) → first vs ≡ Some v → length vs ≢ 1 → of_lengths r vs ≡ Refused BadLength
lengths_many r [] v e n = cc
lengths_many r (w ∷ []) v e n = absurd (n refl)
lengths_many r (w ∷ x ∷ vs) v e n = refl

pub lengths_one : (r : Route) (vs : List (List ℕ)) (v : List ℕ) → first vs ≡ Some v → length vs ≡ 1 → vs ≡ v ∷ []
lengths_one r [] v e n = cc
lengths_one r (w ∷ []) v e n = cc
lengths_one r (w ∷ x ∷ vs) v e n = absurd (omega (arith, n))

pub lengths_bad : (r : Route) (vs : List (List ℕ)) (v : List ℕ) → first vs ≡ Some v → length vs ≡ 1 → numeral v ≡ false → of_lengths r vs ≡ Refused BadLength
lengths_bad r vs v e n b = rw (lengths_one r vs v e n, b) refl

pub lengths_great : (r : Route) (vs : List (List ℕ)) (v : List ℕ) → first vs ≡ Some v → length vs ≡ 1 → numeral v ≡ true → None ≡ up_to 65536 (digits_value 10 v) → of_lengths r vs ≡ Refused BodySize
lengths_great r vs v e n b u = rw (lengths_one r vs v e n, b, up_to_too_great 65536 (digits_value 10 v) u) refl

pub lengths_good : (r : Route) (vs : List (List ℕ)) (v : List ℕ) (m : ℕ) → first vs ≡ Some v → length vs ≡ 1 → numeral v ≡ true → Some m ≡ up_to 65536 (digits_value 10 v) → of_lengths r vs ≡ Body r m
lengths_good r vs v m e n b u =
    let small = up_to_some 65536 (digits_value 10 v) m u in
    let test : nat_le (digits_value 10 v) 65536 ≡ true = grind (arith, common_steps, small.0) in
    rw (lengths_one r vs v e n, b, test) (ap (Body r) (sym small.1))
