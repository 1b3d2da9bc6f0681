-- The least of some numbers.
use Rattle.std.specs.Prelude.{ℕ, List, [], ◌∷◌, min, Option, Some, None}

abbrev pub least_with : ℕ → Option ℕ → ℕ
least_with x None = x
least_with x (Some y) = min x y

abbrev pub least : List ℕ → Option ℕ
least [] = None
least (x ∷ rest) = Some (least_with x (least rest))
