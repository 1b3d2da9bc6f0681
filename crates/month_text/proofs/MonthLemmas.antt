-- The text of a month is read as that month.
use Rattle.std.proofs.Common.{lit<, ◌≡◌, ℕ, zero, suc, ◌+◌, ◌-◌, ◌*◌, ◌/◌, ◌%◌, ◌^◌, ◌<◌, ◌≤◌, List, [], ◌∷◌, ◌++◌, length, get_or, refl, ◌∙◌, ap, codes, cond, decimal, nat_lt, nat_le, ◌==◌, Bool, true, false, arith, Some, IsTrue}
use Rattle.std.specs.Fmt.{digits}
use Rattle.std.specs.Char.{is_ascii_digit}
use Rattle.std.specs.Int.{IsInRange}
use Rattle.std.specs.Str.Parse.{digits_value}
use Rattle.std.proofs.lemmas.Fmt.{decimal_is_IsNumeral, digits_decimal, digits_value-decimal, decimal_nonempty, length-decimal-le}
use Rattle.std.proofs.lemmas.Grind.{common_steps}
use Rattle.std.proofs.lemmas.Int.Digits.{digits_value-lt}
use Rattle.std.proofs.lemmas.List.Elements.{All-from_get_or}
use Rattle.std.proofs.lemmas.Str.Parse.{IsNumeralModel, numerals_by_value, tells_by_index}
use Rattle.sat_base.specs.Limits.{IsMonthWithin}
use Rattle.sat_base.specs.Text.{IsNumber}
use Rattle.sat_base.proofs.TextLemmas.{cut_front, number_is}
use Rattle.month_text.specs.MonthText.{digits_of, month_in, month_of_parts, month_text, month_with}

abbrev AreDigits : List ℕ → Type 0
AreDigits ds = (i : ℕ) → i < length ds → IsInRange 48 57 (get_or ds i 0)

own : IsNumeralModel AreDigits (digits_value 10)
own = numerals_by_value AreDigits tells_by_index

digit_test : (c : ℕ) → IsInRange 48 57 c → IsTrue (is_ascii_digit c)
digit_test c h = grind (arith, common_steps, h.0, h.1)

-- ---- the year

at_least_four : (k y : ℕ) → y < 10 ^ k → 1000 ≤ y → 4 ≤ k
at_least_four zero y lt le = absurd (omega (arith, lt, le))
at_least_four (suc zero) y lt le = absurd (omega (arith, lt, le))
at_least_four (suc (suc zero)) y lt le = absurd (omega (arith, lt, le))
at_least_four (suc (suc (suc zero))) y lt le = absurd (omega (arith, lt, le))
at_least_four (suc (suc (suc (suc k)))) y lt le = omega arith

four_digits : (y : ℕ) → 1000 ≤ y → y < 10000 → length (decimal y) ≡ 4
four_digits y low high =
    let fits : y < 2 ^ 64 = omega arith in
    let most : length (decimal y) ≤ 4 = length-decimal-le 4 y (omega arith) (omega arith) fits in
    let n = decimal_is_IsNumeral y fits in
    let above : digits_value 10 (decimal y) < 10 ^ length (decimal y) = digits_value-lt 10 (decimal y) n.0.1 in
    let least : 4 ≤ length (decimal y) = at_least_four (length (decimal y)) y (rw n.1 at above) low in
    omega (arith, most, least)

year_number : (y : ℕ) → 1000 ≤ y → y < 4148 → IsNumber (decimal y) y 4148
year_number y low high =
    let fits : y < 2 ^ 64 = omega arith in
    let four = four_digits y low (omega arith) in
    record {
      numeral = record {
        some = decimal_nonempty y fits;
        few = omega (arith, four);
        digits = All-from_get_or (λ b. IsTrue (is_ascii_digit b)) (decimal y) 0 (λ i lt. digit_test _ (digits_decimal own y fits i lt));
      };
      value = digits_value-decimal own y fits;
      small = high;
    }

year_is : (y : ℕ) → 1970 ≤ y → y < 4148 → digits_of 4 1970 4147 (decimal y) ≡ Some y
year_is y low high =
    let four : (length (decimal y) == 4) ≡ true = grind (arith, common_steps, four_digits y (omega arith) (omega arith)) in
    let test : nat_le 1970 y ≡ true = grind (arith, common_steps, low) in
    rw (four, number_is 4147 4148 (decimal y) y refl (year_number y (omega arith) high), test) refl

-- ---- the month of the year

abbrev place_text : ℕ → List ℕ
place_text place = cond (nat_lt place 10) (codes "0") [] ++ decimal place

place_is : (p : ℕ) → 1 ≤ p → p ≤ 12 → digits_of 2 1 12 (place_text p) ≡ Some p
unfolding digits
place_is zero low high = absurd (omega (arith, low))
place_is (suc zero) low high = refl
place_is (suc (suc zero)) low high = refl
place_is (suc (suc (suc zero))) low high = refl
place_is (suc (suc (suc (suc zero)))) low high = refl
place_is (suc (suc (suc (suc (suc zero))))) low high = refl
place_is (suc (suc (suc (suc (suc (suc zero)))))) low high = refl
place_is (suc (suc (suc (suc (suc (suc (suc zero))))))) low high = refl
place_is (suc (suc (suc (suc (suc (suc (suc (suc zero)))))))) low high = refl
place_is (suc (suc (suc (suc (suc (suc (suc (suc (suc zero))))))))) low high = refl
place_is (suc (suc (suc (suc (suc (suc (suc (suc (suc (suc zero)))))))))) low high = refl
place_is (suc (suc (suc (suc (suc (suc (suc (suc (suc (suc (suc zero))))))))))) low high = refl
place_is (suc (suc (suc (suc (suc (suc (suc (suc (suc (suc (suc (suc zero)))))))))))) low high = refl
place_is (suc (suc (suc (suc (suc (suc (suc (suc (suc (suc (suc (suc (suc p))))))))))))) low high = absurd (omega (arith, high))

-- ---- both

dash_first : (b : Bool) (ds : List ℕ) → cond b (codes "-0") (codes "-") ++ ds ≡ 45 ∷ (cond b (codes "0") [] ++ ds)
dash_first true ds = refl
dash_first false ds = refl

parts_are : (y p : ℕ) → 1970 ≤ y → y < 4148 → 1 ≤ p → p ≤ 12 → month_in (decimal y ++ 45 ∷ place_text p) ≡ Some (y * 12 + p - 1)
parts_are y p low high some few =
    ap month_of_parts (cut_front 45 (lit< tt) (decimal y) (place_text p) (year_number y (omega arith) high).numeral.digits)
    ∙ ap (λ o. month_with o (digits_of 2 1 12 (place_text p))) (year_is y low high)
    ∙ ap (month_with (Some y)) (place_is p some few)

pub reads_back : (m : ℕ) → IsMonthWithin m → month_in (month_text m) ≡ Some m
reads_back m within =
    ap (λ l. month_in (decimal (m / 12) ++ l)) (dash_first (nat_lt (m % 12 + 1) 10) (decimal (m % 12 + 1)))
    ∙ parts_are (m / 12) (m % 12 + 1) (omega (arith, within.0)) (omega (arith, within.1)) (omega arith) (omega arith)
    ∙ ap (λ n. Some n) (omega arith)
