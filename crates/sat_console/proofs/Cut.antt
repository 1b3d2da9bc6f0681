-- The first line of the input is cut off at its newline.
use Rattle.std.proofs.Common.{◌≡◌, ℕ, zero, suc, ◌+◌, ◌-◌, ◌<◌, true, false, List, [], ◌∷◌, ◌++◌, length, get_or, take, drop, eqb, cond, refl, ◌∙◌, append_assoc, add-one, arith}
use Rattle.std.proofs.lemmas.List.{append-nil, take_rest, drop_all}
use Rattle.std.proofs.lemmas.Bool.{ne_eqb, eq-eqb}
use Rattle.std.specs.Str.Lines.{strip_carriage_return}
use Rattle.sat_console.specs.Lines.{lines_from, lines_of}

cut_at : (front xs : List ℕ) (i : ℕ) → i < length xs → eqb (get_or xs i 0) 10 ≡ true → ((k : ℕ) → k < i → eqb (get_or xs k 0) 10 ≡ false) → lines_from front xs ≡ strip_carriage_return (front ++ take i xs) ∷ lines_from [] (drop (suc i) xs)
cut_at front [] i lt e none = absurd (omega arith)
cut_at front (b ∷ bs) zero lt e none = rw (e, append-nil front) refl
cut_at front (b ∷ bs) (suc i) lt e none =
    rw (none 0 (omega arith)) (cut_at (front ++ b ∷ []) bs i (omega arith) e (λ k less. none (suc k) (omega arith)) ∙ rw (append_assoc front (b ∷ []) (take i bs)) refl)

uncut : (front xs : List ℕ) → ((k : ℕ) → k < length xs → eqb (get_or xs k 0) 10 ≡ false) → lines_from front xs ≡ cond (eqb (length (front ++ xs)) 0) [] ((front ++ xs) ∷ [])
uncut front [] none = rw (append-nil front) refl
uncut front (b ∷ bs) none = rw (none 0 (omega arith)) (uncut (front ++ b ∷ []) bs (λ k less. none (suc k) (omega arith)) ∙ rw (append_assoc front (b ∷ []) bs) refl)

pub first_cut : (xs : List ℕ) (i : ℕ) → i < length xs → get_or xs i 0 ≡ 10 → ((k : ℕ) → k < i → get_or xs k 0 ≡ 10 → ⊥) → lines_of xs ≡ strip_carriage_return (take i xs) ∷ lines_of (take (length xs - (i + 1)) (drop (i + 1) xs))
unfolding lines_of
first_cut xs i lt e none = cut_at [] xs i lt (eq-eqb _ _ e) (λ k less. ne_eqb _ _ (none k less)) ∙ rw (take_rest xs (i + 1), add-one) refl

pub last_line : (xs : List ℕ) (n : ℕ) → 0 < length xs → n ≡ length xs → ((k : ℕ) → k < n → get_or xs k 0 ≡ 10 → ⊥) → lines_of xs ≡ xs ∷ lines_of (take (length xs - n) (drop n xs))
unfolding lines_of
last_line xs n some whole none = uncut [] xs (λ k less. ne_eqb _ _ (none k (omega arith))) ∙ rw (ne_eqb (length xs) 0 (λ e. omega arith), take_rest xs n, drop_all n xs (omega arith)) refl

pub no_lines : (xs : List ℕ) → length xs ≡ 0 → lines_of xs ≡ []
unfolding lines_of
no_lines [] e = refl
no_lines (b ∷ bs) e = absurd (omega arith)
