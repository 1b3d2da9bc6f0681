-- The values on a command line, beside those of any pairs.
use Rattle.std.specs.Prelude.{ℕ, List, Option, Some, None}
use Rattle.month_text.specs.MonthText.{month_in}

-- a month as a text
abbrev pub month_of : Option (List ℕ) → Option ℕ
month_of None = None
month_of (Some text) = month_in text
