-- A word and a number.
use Rattle.std.specs.Prelude.{ℕ, List, [], ◌∷◌, ◌++◌, codes}
use Rattle.std.specs.Fmt.{decimal}
use Rattle.hex.specs.Hex.{encode_lower}

-- a word and a number
unfoldable pub numbered : List ℕ → ℕ → List ℕ
numbered word n = word ++ decimal n

-- the line of a word and a number
abbrev pub numbered_text : List ℕ → ℕ → List ℕ
numbered_text word n = numbered word n ++ 10 ∷ []

-- the line of a store that isn't one: the rule that it breaks, or 0, and the kind and id of what breaks it
abbrev pub store_text : ℕ → ℕ → List ℕ → List ℕ
store_text rule kind id = numbered (codes "error: bad-store ") rule ++ numbered (codes " ") kind ++ codes " " ++ encode_lower id ++ 10 ∷ []
