-- The form of a command line: behind the command stand pairs of a name and a value, in any order.
use Rattle.std.specs.Prelude.{Bool, true, false, ℕ, List, map, [], ◌∷◌, Option, Some, None, ◌==◌, ◌&&◌, is_none, if◌then◌else◌, not}
use Rattle.std.specs.List.{list_any}
use denote.Ref.{Bor}
use Rattle.sat_base.specs.Text.{same}

-- the texts behind references
abbrev pub texts : List (Bor (List ℕ)) → List (List ℕ)
texts names = map (λ (n : Bor (List ℕ)). n.now) names

abbrev pub is_named : List (Bor (List ℕ)) → List ℕ → Bool
is_named names name = list_any (λ n. same n.now name) names

-- a value isn't empty and doesn't begin with '-'
abbrev pub is_value : List ℕ → Bool
is_value [] = false
is_value (b ∷ bs) = not (b == 45)

-- the value of a name, among pairs
abbrev pub value_of : List ℕ → List (List ℕ) → Option (List ℕ)
value_of name [] = None
value_of name (word ∷ []) = None
value_of name (word ∷ value ∷ words) = if same word name then Some value else value_of name words

-- the words begin with a name out of the command's table and a value, and the name doesn't come again
abbrev pub is_pair : List (List ℕ) → List (List ℕ) → Bool
is_pair names [] = false
is_pair names (name ∷ []) = false
is_pair names (name ∷ value ∷ words) = list_any (λ n. same n name) names && (is_value value && is_none (value_of name words))

-- the words are such pairs
abbrev pub is_form : List (List ℕ) → List (List ℕ) → Bool
is_form names [] = true
is_form names (name ∷ []) = false
is_form names (name ∷ value ∷ words) = is_pair names (name ∷ value ∷ words) && is_form names words
