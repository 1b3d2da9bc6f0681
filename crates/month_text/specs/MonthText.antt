-- Months as texts: a year in four digits, a dash, and the month of the year in two.
use Rattle.std.specs.Prelude.{ℕ, ◌+◌, ◌-◌, ◌*◌, ◌/◌, ◌%◌, List, ◌++◌, codes, decimal, length, Option, Some, None, nat_le, nat_lt, cond, ◌==◌, if◌then◌else◌}
use Rattle.sat_base.specs.Text.{cut_of, number_up_to}

abbrev pub at_least : ℕ → Option ℕ → Option ℕ
at_least low None = None
at_least low (Some n) = if nat_le low n then Some n else None

-- the number that so many decimal digits write, if it is from low to high
abbrev pub digits_of : (count low high : ℕ) → List ℕ → Option ℕ
digits_of count low high text = if length text == count then at_least low (number_up_to high text) else None

abbrev pub month_with : Option ℕ → Option ℕ → Option ℕ
month_with None place = None
month_with (Some year) None = None
month_with (Some year) (Some place) = Some (year * 12 + place - 1)

abbrev pub month_of_parts : Option (List ℕ × List ℕ) → Option ℕ
month_of_parts None = None
month_of_parts (Some parts) = month_with (digits_of 4 1970 4147 parts.0) (digits_of 2 1 12 parts.1)

-- the month that a text writes
abbrev pub month_in : List ℕ → Option ℕ
month_in text = month_of_parts (cut_of 45 text)

-- the text of a month
abbrev pub month_text : ℕ → List ℕ
month_text month =
    let place = month % 12 + 1 in
    decimal (month / 12) ++ (cond (nat_lt place 10) (codes "-0") (codes "-") ++ decimal place)
