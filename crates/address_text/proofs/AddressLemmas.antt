-- The number of an address is that of the four numbers which its text joins by dots.
use Rattle.std.proofs.Common.{◌≡◌, ℕ, suc, zero, ◌+◌, ◌*◌, ◌<◌, ◌≤◌, ◌^◌, List, ◌∷◌, ◌++◌, length, get_or, refl, sym, ◌∙◌, ap, subst, cond, true, arith, inl, inr, decimal, Option, Some, None, option_map, option_and_then, IsTrue, lit<}
use Rattle.std.proofs.lemmas.Fmt.{digits_decimal, digits_value-decimal, decimal-digits_value, decimal_nonempty, decimal_digit, length-decimal-le, first_decimal}
use Rattle.std.proofs.lemmas.Grind.{common_steps}
use Rattle.std.proofs.lemmas.List.Elements.{All-from_get_or}
use Rattle.std.proofs.lemmas.Str.Parse.{IsNumeralModel, numerals_by_value, tells_by_index}
use Rattle.std.specs.Char.{is_ascii_digit}
use Rattle.std.specs.Int.{IsInRange}
use Rattle.std.specs.Str.Parse.{digits_value}
use Rattle.address_text.specs.Address.{is_plain, octet_of, last_of, joined, next_of, address_of, IsAddress}
use Rattle.sat_base.specs.Text.{IsNumber, cut_of, number_up_to}
use Rattle.sat_base.proofs.TextLemmas.{digit_in, then_some, map_some, test_some, cut_front, cut_back, number_is, number_found}

abbrev AreDigits : List ℕ → Type 0
AreDigits ds = (i : ℕ) → i < length ds → IsInRange 48 57 (get_or ds i 0)

own : IsNumeralModel AreDigits (digits_value 10)
own = numerals_by_value AreDigits tells_by_index

plain_is : (ds : List ℕ) → is_plain ds ≡ true → get_or ds 0 0 ≡ 48 → length ds ≡ 1
plain_is ds h e = grind (arith, common_steps, h, e)

octet_found : (ds : List ℕ) (n : ℕ) → octet_of ds ≡ Some n → (n < 256) × (ds ≡ decimal n)
octet_found ds n e =
    elim (test_some (is_plain ds) n (number_up_to 255 ds) None e) [
      | inl p ↦
          let number = number_found 255 256 ds n refl p.1 in
          let small : digits_value 10 ds < 2 ^ 64 = omega (arith, number.value, number.small) in
          let text : decimal (digits_value 10 ds) ≡ ds = decimal-digits_value own ds (λ i lt. digit_in ds i lt number.numeral) number.numeral.some (plain_is ds p.0) small in
          (number.small, sym text ∙ ap decimal number.value)
      | inr p ↦ let no : Some n ≡ None = sym p.1 in cc
    ]

digit_test : (c : ℕ) → IsInRange 48 57 c → IsTrue (is_ascii_digit c)
digit_test c h = grind (arith, common_steps, h.0, h.1)

decimal_number : (n : ℕ) → n < 256 → IsNumber (decimal n) n 256
decimal_number n h =
    let fits : n < 2 ^ 64 = omega arith in
    let short : length (decimal n) ≤ 3 = length-decimal-le 3 n (omega arith) (omega arith) fits in
    record {
      numeral = record {
        some = decimal_nonempty n fits;
        few = omega arith;
        digits = All-from_get_or (λ b. IsTrue (is_ascii_digit b)) (decimal n) 0 (λ i lt. digit_test _ (digits_decimal own n fits i lt));
      };
      value = digits_value-decimal own n fits;
      small = h;
    }

plain_above : (ds : List ℕ) → 48 < get_or ds 0 0 → is_plain ds ≡ true
plain_above ds h = grind (arith, common_steps, h)

decimal_plain : (n : ℕ) → n < 256 → is_plain (decimal n) ≡ true
decimal_plain zero h = rw (decimal_digit 0 (omega arith)) refl
decimal_plain (suc n) h = plain_above (decimal (suc n)) (first_decimal (suc n) (omega arith) (omega arith))

octet_is : (n : ℕ) → n < 256 → octet_of (decimal n) ≡ Some n
octet_is n h = ap (λ b. cond b (number_up_to 255 (decimal n)) None) (decimal_plain n h) ∙ number_is 255 256 (decimal n) n refl (decimal_number n h)

-- ---- what a text is whose number is found

last_found : (high : ℕ) (text : List ℕ) (n : ℕ) → last_of high text ≡ Some n → (a : ℕ) × (a < 256) × (text ≡ decimal a) × (n ≡ high * 256 + a)
last_found high text n e =
    let m = map_some (λ (a : ℕ). high * 256 + a) (octet_of text) n e in
    let o = octet_found text m.0 m.1 in
    (m.0, o.0, o.1, sym m.2)

next_found : (p q : ℕ × List ℕ) → next_of p ≡ Some q → (a : ℕ) × (a < 256) × (p.1 ≡ decimal a ++ 46 ∷ q.1) × (q.0 ≡ p.0 * 256 + a)
next_found p q e =
    let t = then_some (joined p.0) (cut_of 46 p.1) q e in
    let m = map_some (λ (n : ℕ). (n, t.0.1)) (last_of p.0 t.0.0) q t.2 in
    let l = last_found p.0 t.0.0 m.0 m.1 in
    let P : ℕ × List ℕ → Type 0 = λ q. (a : ℕ) × (a < 256) × (p.1 ≡ decimal a ++ 46 ∷ q.1) × (q.0 ≡ p.0 * 256 + a) in
    subst P m.2 (l.0, l.1, cut_back 46 p.1 t.0 t.1 ∙ ap (λ d. d ++ 46 ∷ t.0.1) l.2, l.3)

-- four parts that are cut one after the other
parts_of : (text a rest b more c last d : List ℕ) → text ≡ a ++ 46 ∷ rest → rest ≡ b ++ 46 ∷ more → more ≡ c ++ 46 ∷ last → last ≡ d → text ≡ a ++ 46 ∷ (b ++ 46 ∷ (c ++ 46 ∷ d))
parts_of text a rest b more c last d p q r s = rw (p, q, r, s) refl

pub address_found : (text : List ℕ) (n : ℕ) → address_of text ≡ Some n → IsAddress text n
address_found text n e =
    let t = then_some (λ (p : ℕ × List ℕ). last_of p.0 p.1) (option_and_then next_of (option_and_then next_of (next_of (0, text)))) n e in
    let u = then_some next_of (option_and_then next_of (next_of (0, text))) t.0 t.1 in
    let v = then_some next_of (next_of (0, text)) u.0 u.1 in
    let a = next_found (0, text) v.0 v.1 in
    let b = next_found v.0 u.0 v.2 in
    let c = next_found u.0 t.0 u.2 in
    let d = last_found t.0.0 t.0.1 n t.2 in
    record {
      first = a.0;
      second = b.0;
      third = c.0;
      fourth = d.0;
      small = (a.1, b.1, c.1, d.1);
      dotted = parts_of text (decimal a.0) v.0.1 (decimal b.0) u.0.1 (decimal c.0) t.0.1 (decimal d.0) a.2 b.2 c.2 d.2;
      value = omega (arith, a.3, b.3, c.3, d.3);
    }

-- ---- the number of four numbers that are joined

next_is : (high a : ℕ) (rest : List ℕ) → a < 256 → next_of (high, decimal a ++ 46 ∷ rest) ≡ Some (high * 256 + a, rest)
next_is high a rest h =
    ap (option_and_then (joined high)) (cut_front 46 (lit< tt) (decimal a) rest (decimal_number a h).numeral.digits)
    ∙ ap (λ o. option_map (λ n. (n, rest)) (option_map (λ n. high * 256 + n) o)) (octet_is a h)

pub address_is : (text : List ℕ) (n : ℕ) → IsAddress text n → address_of text ≡ Some n
address_is text n h =
    let last : ℕ × List ℕ → Option ℕ = λ p. last_of p.0 p.1 in
    ap address_of h.dotted
    ∙ ap (λ o. option_and_then last (option_and_then next_of (option_and_then next_of o))) (next_is 0 h.first (decimal h.second ++ 46 ∷ (decimal h.third ++ 46 ∷ decimal h.fourth)) h.small.0)
    ∙ ap (λ o. option_and_then last (option_and_then next_of o)) (next_is (0 * 256 + h.first) h.second (decimal h.third ++ 46 ∷ decimal h.fourth) h.small.1)
    ∙ ap (option_and_then last) (next_is ((0 * 256 + h.first) * 256 + h.second) h.third (decimal h.fourth) h.small.2)
    ∙ ap (option_map (λ n. (((0 * 256 + h.first) * 256 + h.second) * 256 + h.third) * 256 + n)) (octet_is h.fourth h.small.3)
    ∙ ap (λ m. Some m) (omega (arith, h.value))
