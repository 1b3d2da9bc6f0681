-- Numbers of decimal digits, one digit after the other; and what stands before and behind a mark.
use Rattle.std.proofs.Common.{lit<, ◌≡◌, ◌≢◌, ℕ, suc, zero, ◌+◌, ◌-◌, ◌*◌, ◌<◌, ◌≤◌, ◌↔◌, ◌⊎◌, inl, inr, List, [], ◌∷◌, ◌++◌, length, take, drop, get_or, refl, sym, ap, ◌∙◌, arith, Bool, true, false, IsTrue, cond, nat_le, nat_lt, ◌&&◌, ◌==◌, Option, Some, None, IfSome, option_map, option_and_then, All}
use Rattle.std.specs.Char.{is_ascii_digit}
use Rattle.std.specs.List.{list_all, AllPass}
use Rattle.std.specs.Str.Parse.{digits_value}
use Rattle.std.proofs.lemmas.Int.Digits.{digits_value_more}
use Rattle.std.proofs.lemmas.List.Elements.{All-get_or}
use Rattle.std.proofs.lemmas.List.Sums.{AllPass-from_list_all, list_all-from_AllPass}
use Rattle.std.proofs.lemmas.Grind.{common_steps}
use Rattle.sat_base.specs.Text.{numeral, IsNumeral, IsNumber, up_to, number_up_to, with_first, cut_of}

-- ---- choices

pub then_some : {A B : Type 0} (f : A → Option B) (o : Option A) (r : B) → option_and_then f o ≡ Some r → (x : A) × (o ≡ Some x) × (f x ≡ Some r)
then_some f None r e = cc
then_some f (Some x) r e = (x, refl, e)

pub map_some : {A B : Type 0} (f : A → B) (o : Option A) (r : B) → option_map f o ≡ Some r → (x : A) × (o ≡ Some x) × (f x ≡ r)
map_some f None r e = cc
map_some f (Some x) r e = (x, refl, cc)

pub cond_some : {A : Type 0} (b : Bool) (x r : A) (o : Option A) → cond b (Some x) o ≡ Some r → ((b ≡ true) × (x ≡ r)) ⊎ ((b ≡ false) × (o ≡ Some r))
cond_some true x r o e = inl (refl, cc)
cond_some false x r o e = inr (refl, e)

pub test_some : {A : Type 0} (b : Bool) (r : A) (o p : Option A) → cond b o p ≡ Some r → ((b ≡ true) × (o ≡ Some r)) ⊎ ((b ≡ false) × (p ≡ Some r))
test_some true r o p e = inl (refl, e)
test_some false r o p e = inr (refl, e)

-- ---- digits

digit_range : (c : ℕ) → IsTrue (is_ascii_digit c) → (48 ≤ c) × (c ≤ 57)
digit_range c h = grind (arith, common_steps)

-- each byte of a numeral is a digit
pub digit_in : (ds : List ℕ) (i : ℕ) → i < length ds → IsNumeral ds → (48 ≤ get_or ds i 0) × (get_or ds i 0 ≤ 57)
digit_in ds i h n = digit_range _ (All-get_or (λ b. IsTrue (is_ascii_digit b)) ds i 0 h n.digits)

-- one digit more
pub value_step : (ds : List ℕ) (i : ℕ) → i < length ds → IsNumeral ds → digits_value 10 (take (i + 1) ds) ≡ digits_value 10 (take i ds) * 10 + (get_or ds i 0 - 48)
value_step ds i h n =
    let range = digit_in ds i h n in
    digits_value_more 10 ds i h ∙ ap (λ d. digits_value 10 (take i ds) * 10 + d) (grind (arith, common_steps, range.0, range.1))

-- ---- numerals

decided : (a b : Bool) → (IsTrue a ↔ IsTrue b) → a ≡ b
decided true true h = refl
decided false false h = refl
decided true false h = sym (h.0 refl)
decided false true h = h.1 refl

both_true : (a b : Bool) → IsTrue (a && b) → (a ≡ true) × (b ≡ true)
both_true true true h = (refl, refl)
both_true true false h = cc
both_true false b h = cc

pub numeral_from : (ds : List ℕ) → IsNumeral ds → IsTrue (numeral ds)
numeral_from ds n =
    let every : list_all is_ascii_digit ds ≡ true = list_all-from_AllPass is_ascii_digit ds n.digits in
    grind (arith, common_steps, n.some, n.few, every)

pub numeral_to : (ds : List ℕ) → IsTrue (numeral ds) → IsNumeral ds
numeral_to ds h =
    let parts = both_true (nat_lt 0 (length ds) && nat_le (length ds) 20) (list_all is_ascii_digit ds) h in
    let lengths = both_true (nat_lt 0 (length ds)) (nat_le (length ds) 20) parts.0 in
    let every : AllPass is_ascii_digit ds = AllPass-from_list_all is_ascii_digit ds parts.1 in
    record { some = grind (arith, common_steps, lengths.0); few = grind (arith, common_steps, lengths.1); digits = every }

-- the function's test, as that of the definitions
pub numeral_is : (b : Bool) (ds : List ℕ) → (IsTrue b ↔ IsNumeral ds) → numeral ds ≡ b
numeral_is b ds h = decided (numeral ds) b (λ t. h.1 (numeral_to ds t), λ t. numeral_from ds (h.0 t))

-- ---- numbers up to a bound

none_case : (b : Bool) (n : ℕ) → None ≡ cond b (Some n) None → b ≡ false
none_case true n e = cc
none_case false n e = refl

some_case : (b : Bool) (most n m : ℕ) → nat_le n most ≡ b → Some m ≡ cond b (Some n) None → (n ≤ most) × (m ≡ n)
some_case true most n m t e = (grind (arith, common_steps, t), cc)
some_case false most n m t e = cc

pub up_to_none : (most n : ℕ) → most < n → None ≡ up_to most n
up_to_none most n h = grind (arith, common_steps)

pub up_to_some : (most n m : ℕ) → Some m ≡ up_to most n → (n ≤ most) × (m ≡ n)
up_to_some most n m e = some_case (nat_le n most) most n m refl e

pub up_to_small : (most n : ℕ) (o : Option ℕ) → o ≡ up_to most n → IfSome o (λ m. m ≤ most)
up_to_small most n None e = tt
up_to_small most n (Some m) e = let s = up_to_some most n m e in omega (arith, s.0, s.1)

pub up_to_too_great : (most n : ℕ) → None ≡ up_to most n → nat_le n most ≡ false
up_to_too_great most n e = none_case (nat_le n most) n e

up_to_is : (most n : ℕ) → n ≤ most → up_to most n ≡ Some n
up_to_is most n h = grind (arith, common_steps)

pub number_is : (most bound : ℕ) (ds : List ℕ) (n : ℕ) → bound ≡ most + 1 → IsNumber ds n bound → number_up_to most ds ≡ Some n
number_is most bound ds n b h =
    let t : numeral ds ≡ true = numeral_from ds h.numeral in
    rw (t, h.value) (up_to_is most n (omega (arith, h.small)))

pub number_found : (most bound : ℕ) (ds : List ℕ) (n : ℕ) → bound ≡ most + 1 → number_up_to most ds ≡ Some n → IsNumber ds n bound
number_found most bound ds n b e =
    elim (test_some (numeral ds) n (up_to most (digits_value 10 ds)) None e) [
      | inl p ↦ elim (cond_some (nat_le (digits_value 10 ds) most) (digits_value 10 ds) n None p.1) [
        | inl q ↦ let le : digits_value 10 ds ≤ most = grind (arith, common_steps, q.0) in
            record { numeral = numeral_to ds p.0; value = q.1; small = omega (arith, q.1, le) }
        | inr q ↦ let no : Some n ≡ None = sym q.1 in cc
      ]
      | inr p ↦ let no : Some n ≡ None = sym p.1 in cc
    ]

-- a number that is found is no greater than the bound
pub number_small : (most : ℕ) (ds : List ℕ) (n : ℕ) → number_up_to most ds ≡ Some n → n ≤ most
number_small most ds n e = let found = number_found most (most + 1) ds n refl e in omega (arith, found.small)

-- ---- what stands before a mark, and behind it

digit_is_other : (mark x : ℕ) → mark < 48 → IsTrue (is_ascii_digit x) → (x == mark) ≡ false
digit_is_other mark x m h = grind (arith, common_steps)

-- digits hold no mark
pub cut_front : (mark : ℕ) → mark < 48 → (ds rest : List ℕ) → All (λ b. IsTrue (is_ascii_digit b)) ds → cut_of mark (ds ++ mark ∷ rest) ≡ Some (ds, rest)
cut_front mark m [] rest h =
    let t : (mark == mark) ≡ true = grind (arith, common_steps) in
    rw t refl
cut_front mark m (d ∷ ds) rest h =
    let first : IsTrue (is_ascii_digit d) = h 0 0 (omega arith) in
    rw (digit_is_other mark d m first, cut_front mark m ds rest (λ k x lt. h (suc k) x (omega arith))) refl

cut_case : (b : Bool) (mark x : ℕ) (xs : List ℕ) (o : Option (List ℕ × List ℕ)) (p : List ℕ × List ℕ) → (x == mark) ≡ b → ((q : List ℕ × List ℕ) → o ≡ Some q → xs ≡ q.0 ++ mark ∷ q.1)
    → cond b (Some ([], xs)) (option_map (with_first x) o) ≡ Some p → x ∷ xs ≡ p.0 ++ mark ∷ p.1
cut_case true mark x xs o p t ih e =
    let q : ([], xs) ≡ p = cc in
    let same : x ≡ mark = grind (arith, common_steps, t) in
    ap (λ y. y ∷ xs) same ∙ ap (λ (r : List ℕ × List ℕ). r.0 ++ mark ∷ r.1) q
cut_case false mark x xs o p t ih e =
    let m = map_some (with_first x) o p e in
    ap (λ l. x ∷ l) (ih m.0 m.1) ∙ ap (λ (r : List ℕ × List ℕ). r.0 ++ mark ∷ r.1) m.2

pub cut_back : (mark : ℕ) (xs : List ℕ) (p : List ℕ × List ℕ) → cut_of mark xs ≡ Some p → xs ≡ p.0 ++ mark ∷ p.1
cut_back mark [] p e = cc
cut_back mark (x ∷ xs) p e = cut_case (x == mark) mark x xs (cut_of mark xs) p refl (λ q h. cut_back mark xs q h) e

-- where the first mark is found
pub cut_at : (mark : ℕ) (xs : List ℕ) (i : ℕ) → i < length xs → ((k : ℕ) → k < i → get_or xs k 0 ≡ mark → ⊥) → get_or xs i 0 ≡ mark → cut_of mark xs ≡ Some (take i xs, drop (suc i) xs)
cut_at mark [] i h before at = absurd (omega arith)
cut_at mark (x ∷ xs) zero h before at =
    let t : (x == mark) ≡ true = grind (arith, common_steps, at) in
    rw t refl
cut_at mark (x ∷ xs) (suc i) h before at =
    let other : x ≢ mark = before 0 (omega arith) in
    let t : (x == mark) ≡ false = grind (arith, common_steps, other) in
    rw (t, cut_at mark xs i (omega arith) (λ k lt e. before (suc k) (omega arith) e) at) refl

pub cut_none : (mark : ℕ) (xs : List ℕ) → ((k : ℕ) → k < length xs → get_or xs k 0 ≡ mark → ⊥) → cut_of mark xs ≡ None
cut_none mark [] before = refl
cut_none mark (x ∷ xs) before =
    let other : x ≢ mark = before 0 (omega arith) in
    let t : (x == mark) ≡ false = grind (arith, common_steps, other) in
    rw (t, cut_none mark xs (λ k lt e. before (suc k) (omega arith) e)) refl
