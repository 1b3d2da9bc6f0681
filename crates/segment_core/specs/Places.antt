-- The places of a segment's pieces.
use Rattle.std.specs.Prelude.{◌≡◌, ℕ, ◌<◌, List, map, AllPairs}
use Rattle.std.specs.List.{range_with_len}
use Rattle.sat_base.specs.declared.records.At.{At}

abbrev pub index_of : At → ℕ
index_of place = place.index

-- the indexes rise, so none comes twice
abbrev pub IsByIndex : List At → Type 0
IsByIndex places = AllPairs (λ earlier later. earlier.index < later.index) places

-- an offer has a place for each index below n, in order
abbrev pub IsOffer : ℕ → List At → Type 0
IsOffer n places = map index_of places ≡ range_with_len 0 n
