-- Bytes of one length are the same exactly where they differ in no bit.
use Rattle.std.proofs.Common.{◌≡◌, ℕ, zero, suc, List, [], ◌∷◌, length, Bool, true, false, ◌&&◌, nat_eq, bit_or, bit_xor, fold, zip, refl, sym, ap, ◌∙◌, inl, inr, arith}
use Rattle.std.specs.Cmp.Lexicographic.{pointwise}
use Rattle.std.specs.Int.Bits.{xor_self, xor_add_and, or_zero_l}
use Rattle.std.proofs.lemmas.Nat.{and_le_l, and_le_r, le_or_l}
use Rattle.std.proofs.lemmas.Bool.{cases_eq, eq-eqb, ne_eqb}

-- the bits so far, and those in which a pair differs
abbrev pub bits_with : ℕ → ℕ × ℕ → ℕ
bits_with bits pair = bit_or bits (bit_xor pair.0 pair.1)

equal : (x y : ℕ) → bit_xor x y ≡ 0 → x ≡ y
equal x y h = omega (arith, xor_add_and x y, and_le_l x y, and_le_r x y)

same_pair : (x y : ℕ) → nat_eq (bit_xor x y) 0 ≡ nat_eq x y
same_pair x y =
    elim (cases_eq x y) [
      | inl e ↦ rw (e, xor_self y, eq-eqb y y refl) refl
      | inr n ↦ ne_eqb (bit_xor x y) 0 (λ h. n (equal x y h)) ∙ sym (ne_eqb x y n)
    ]

no_bit_of_both : (a b : ℕ) → nat_eq (bit_or a b) 0 ≡ (nat_eq a 0 && nat_eq b 0)
no_bit_of_both zero b = ap (λ n. nat_eq n 0) (or_zero_l b)
no_bit_of_both (suc a) b =
    let some : nat_eq (suc a) 0 ≡ false = ne_eqb (suc a) 0 (λ h. absurd (omega arith)) in
    rw some (ne_eqb (bit_or (suc a) b) 0 (λ h. absurd (omega (arith, le_or_l (suc a) b))))

and_true : (b : Bool) → b ≡ (b && true)
and_true true = refl
and_true false = refl

and_assoc : (a b c : Bool) → ((a && b) && c) ≡ (a && (b && c))
and_assoc true b c = refl
and_assoc false b c = refl

-- by induction over both lists: no bit is left where none came in and each pair is one number
pub no_bits : (xs ys : List ℕ) (bits : ℕ) → length xs ≡ length ys → nat_eq (fold bits_with bits (zip xs ys)) 0 ≡ (nat_eq bits 0 && pointwise nat_eq xs ys)
no_bits [] [] bits h = and_true (nat_eq bits 0)
no_bits [] (y ∷ ys) bits h = absurd (omega arith)
no_bits (x ∷ xs) [] bits h = absurd (omega arith)
no_bits (x ∷ xs) (y ∷ ys) bits h =
    let rest = no_bits xs ys (bits_with bits (x, y)) (omega arith) in
    let pair = no_bit_of_both bits (bit_xor x y) ∙ ap (λ t. nat_eq bits 0 && t) (same_pair x y) in
    rest ∙ ap (λ t. t && pointwise nat_eq xs ys) pair ∙ and_assoc (nat_eq bits 0) (nat_eq x y) (pointwise nat_eq xs ys)
