-- Names tell pieces apart: the digits before the dash are the segment's, and those behind it the index's.
use Rattle.std.proofs.Common.{lit<, ◌≡◌, ℕ, ◌^◌, ◌<◌, List, length, get_or, sym, ◌∙◌, ap, arith, decimal, Option, Some, None, IsTrue, All}
use Rattle.std.proofs.lemmas.Fmt.{decimal_injective, digits_decimal}
use Rattle.std.proofs.lemmas.Grind.{common_steps}
use Rattle.std.proofs.lemmas.List.Elements.{All-from_get_or}
use Rattle.std.proofs.lemmas.Option.{same_Some}
use Rattle.std.proofs.lemmas.Str.Parse.{IsNumeralModel, numerals_by_value, tells_by_index}
use Rattle.std.specs.Char.{is_ascii_digit}
use Rattle.std.specs.Int.{IsInRange}
use Rattle.std.specs.Str.Parse.{digits_value}
use Rattle.sat_base.specs.Text.{cut_of}
use Rattle.sat_base.specs.declared.ids.SegId.{SegId}
use Rattle.sat_base.proofs.TextLemmas.{cut_front}
use Rattle.stor_devices.specs.Files.{part_name, piece_name}

abbrev AreDigits : List ℕ → Type 0
AreDigits ds = (i : ℕ) → i < length ds → IsInRange 48 57 (get_or ds i 0)

own : IsNumeralModel AreDigits (digits_value 10)
own = numerals_by_value AreDigits tells_by_index

digit_test : (c : ℕ) → IsInRange 48 57 c → IsTrue (is_ascii_digit c)
digit_test c h = grind (arith, common_steps, h.0, h.1)

decimal_digits : (n : ℕ) → n < 2 ^ 64 → All (λ b. IsTrue (is_ascii_digit b)) (decimal n)
decimal_digits n fits = All-from_get_or (λ b. IsTrue (is_ascii_digit b)) (decimal n) 0 (λ i lt. digit_test _ (digits_decimal own n fits i lt))

cut_name : (segment : SegId) (index : ℕ) → segment.0 < 2 ^ 64 → cut_of 45 (piece_name segment index) ≡ Some (decimal segment.0, decimal index)
cut_name segment index fits = cut_front 45 (lit< tt) (decimal segment.0) (decimal index) (decimal_digits segment.0 fits)

pub one_name : (s t : SegId) (i j : ℕ) → s.0 < 2 ^ 64 → t.0 < 2 ^ 64 → i < 2 ^ 8 → j < 2 ^ 8 → piece_name s i ≡ piece_name t j → (s ≡ t) × (i ≡ j)
one_name s t i j s_fits t_fits i_fits j_fits e =
    let same = same_Some _ _ (sym (cut_name s i s_fits) ∙ ap (cut_of 45) e ∙ cut_name t j t_fits) in
    let segment : s.0 ≡ t.0 = decimal_injective s.0 t.0 s_fits t_fits (ap (λ (parts : List ℕ × List ℕ). parts.0) same) in
    let index : i ≡ j = decimal_injective i j (omega arith) (omega arith) (ap (λ (parts : List ℕ × List ℕ). parts.1) same) in
    let segment_of : ℕ → SegId = λ n. record { 0 = n } in
    (ap segment_of segment, index)

not_none : {A : Type 0} (x : A) → Some x ≡ None → ⊥
not_none x e = cc

pub no_part : (segment : SegId) (index : ℕ) → segment.0 < 2 ^ 64 → piece_name segment index ≡ part_name → ⊥
no_part segment index fits e = not_none (decimal segment.0, decimal index) (sym (cut_name segment index fits) ∙ ap (cut_of 45) e)
