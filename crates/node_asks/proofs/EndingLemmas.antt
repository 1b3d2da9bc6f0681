-- Of sources that answered and weren't altered there are at most as many as are neither altered nor missing.
use Rattle.std.proofs.Common.{◌≡◌, ℕ, ◌≤◌, Bool, true, false, not, List, [], ◌∷◌, length, get_or, refl, sym, ap, subst, ◌∙◌, arith}
use Rattle.std.specs.Prelude.{All, filter, ◌&&◌}
use Rattle.std.proofs.lemmas.Bool.Decides.{nat_tests}
use Rattle.std.proofs.lemmas.List.Elements.{All-head, All-tail}
use Rattle.bw_decode.specs.Near.{Rises}
use Rattle.repair_core.specs.Indexes.{has_index, others}
use Rattle.repair_core.proofs.Rising.{kept_are, member_has}
use Rattle.node_asks.specs.Ending.{sound_of}

-- what passes one test after another passes both
filter_both : (p q : ℕ → Bool) (xs : List ℕ) → filter p (filter q xs) ≡ filter (λ x. q x && p x) xs
filter_both p q [] = refl
filter_both p q (x ∷ xs) = grind (arith, filter_both p q xs)

-- what passes a test passes a wider one
filter_wider : (p q : ℕ → Bool) (xs : List ℕ) → ((x : ℕ) → p x ≡ true → q x ≡ true) → length (filter p xs) ≤ length (filter q xs)
filter_wider p q [] wider = omega arith
filter_wider p q (x ∷ xs) wider = grind (arith, wider x, filter_wider p q xs wider)

both_pass : (answered blamed missing : Bool) → (answered ≡ true → missing ≡ false) → (answered && not blamed) ≡ true → (not blamed && not missing) ≡ true
both_pass true true missing apart h = cc
both_pass true false missing apart h = ap not (apart refl)
both_pass false blamed missing apart h = cc

pub enough : (sources blamed answered missing : List ℕ) → Rises sources → Rises answered → All (λ index. has_index sources index ≡ true) answered
    → All (λ index. has_index missing index ≡ false) answered → length (sound_of blamed answered) ≤ length (others sources blamed missing)
enough sources blamed answered missing rising rises among apart =
    let same : filter (has_index answered) sources ≡ answered = kept_are sources answered rising rises among in
    let all : sound_of blamed answered ≡ filter (λ i. has_index answered i && not (has_index blamed i)) sources
    = ap (λ (xs : List ℕ). filter (λ i. not (has_index blamed i)) xs) (sym same) ∙ filter_both (λ i. not (has_index blamed i)) (has_index answered) sources in
    let few = filter_wider (λ i. has_index answered i && not (has_index blamed i)) (λ i. not (has_index blamed i) && not (has_index missing i)) sources
    (λ i. both_pass (has_index answered i) (has_index blamed i) (has_index missing i) (member_has (λ j. has_index missing j ≡ false) i answered apart)) in
    subst (λ (n : ℕ). n ≤ length (others sources blamed missing)) (sym (ap length all)) few
