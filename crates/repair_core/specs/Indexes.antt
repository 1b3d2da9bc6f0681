-- Lists of indexes.
use Rattle.std.specs.Prelude.{ℕ, ◌==◌, ◌&&◌, ◌||◌, not, Bool, List, map, filter}
use Rattle.std.specs.List.{list_any}
use Rattle.sat_base.specs.declared.records.At.{At}

abbrev pub place_indexes : List At → List ℕ
place_indexes places = map (λ place. place.index) places

-- whether the index stands in the list
abbrev pub has_index : List ℕ → ℕ → Bool
has_index indexes index = list_any (λ one. one == index) indexes

-- those that stand in one list or in the other, in the order of `all`
abbrev pub joined : List ℕ → List ℕ → List ℕ → List ℕ
joined all first second = filter (λ index. has_index first index || has_index second index) all

-- those that stand in neither list
abbrev pub others : List ℕ → List ℕ → List ℕ → List ℕ
others all first second = filter (λ index. not (has_index first index) && not (has_index second index)) all
