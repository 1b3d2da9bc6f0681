-- How the piece of a path is found, step by step. That it is the piece of the path's relation is proved.
use Rattle.std.specs.Prelude.{ℕ, List, length, take, drop, codes, cond, Bool, Option, None, option_map, option_and_then}
use Rattle.sat_base.specs.Text.{same, cut_of, number_up_to}
use Rattle.sat_base.specs.declared.ids.SegId.{SegId}

-- the text begins with that one
abbrev pub starts : List ℕ → List ℕ → Bool
starts text path = same (take (length text) path) text

abbrev pub with_index : List ℕ → ℕ → Option (SegId × ℕ)
with_index text segment = option_map (λ index. (record { 0 = segment }, index)) (number_up_to 255 text)

-- the segment's number before the slash, and the index behind it
abbrev pub numbers_of : List ℕ × List ℕ → Option (SegId × ℕ)
numbers_of parts = option_and_then (with_index parts.1) (number_up_to 18446744073709551615 parts.0)

abbrev pub piece_at : List ℕ → Option (SegId × ℕ)
piece_at path = cond (starts (codes "/piece/") path) (option_and_then numbers_of (cut_of 47 (drop 7 path))) None
