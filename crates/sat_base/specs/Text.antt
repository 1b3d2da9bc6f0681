-- Numbers in decimal digits, the parts of a text, and equal texts.
use Rattle.std.specs.Prelude.{◌≡◌, ℕ, ◌<◌, ◌≤◌, List, [], ◌∷◌, length, cond, nat_le, ◌==◌, Option, Some, None, option_map, IsTrue, All, Bool, nat_eq, nat_lt, ◌&&◌}
use Rattle.std.specs.List.{list_all}
use Rattle.std.specs.Char.{is_ascii_digit}
use Rattle.std.specs.Str.Parse.{digits_value}
use Rattle.std.specs.Cmp.Lexicographic.{pointwise}

-- two texts are the same
abbrev pub same : List ℕ → List ℕ → Bool
same a b = pointwise nat_eq a b

-- one to twenty decimal digits, as a test
abbrev pub numeral : List ℕ → Bool
numeral bytes = (nat_lt 0 (length bytes) && nat_le (length bytes) 20) && list_all is_ascii_digit bytes

-- one to twenty decimal digits
pub record IsNumeral (bytes : List ℕ) : Type 0 where
  pub some : 0 < length bytes
  pub few : length bytes ≤ 20
  pub digits : All (λ b. IsTrue (is_ascii_digit b)) bytes

-- one to twenty decimal digits, in which zeros may lead, of a number below the bound
pub record IsNumber (bytes : List ℕ) (n bound : ℕ) : Type 0 where
  pub numeral : IsNumeral bytes
  pub value : digits_value 10 bytes ≡ n
  pub small : n < bound

-- the number, where it is at most so great
abbrev pub up_to : ℕ → ℕ → Option ℕ
up_to most n = cond (nat_le n most) (Some n) None

-- the number that one to twenty digits write, where it is at most so great
abbrev pub number_up_to : ℕ → List ℕ → Option ℕ
number_up_to most bytes = cond (numeral bytes) (up_to most (digits_value 10 bytes)) None

-- a byte before what stands before the first mark
abbrev pub with_first : ℕ → List ℕ × List ℕ → List ℕ × List ℕ
with_first b parts = (b ∷ parts.0, parts.1)

-- what stands before the first mark, and behind it
abbrev pub cut_of : ℕ → List ℕ → Option (List ℕ × List ℕ)
cut_of mark [] = None
cut_of mark (b ∷ bs) = cond (b == mark) (Some ([], bs)) (option_map (with_first b) (cut_of mark bs))
