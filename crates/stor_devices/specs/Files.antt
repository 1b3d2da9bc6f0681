-- The names of pieces in a folder.
use Rattle.std.specs.Prelude.{ℕ, List, ◌++◌, codes, decimal}
use Rattle.sat_base.specs.declared.ids.SegId.{SegId}

-- S-J, in decimal, of the piece of index J of the segment S
abbrev pub piece_name : SegId → ℕ → List ℕ
piece_name segment index = decimal segment.0 ++ (codes "-" ++ decimal index)

-- the name of what isn't whole yet
abbrev pub part_name : List ℕ
part_name = codes "put.part"

-- the path of a name within a folder
abbrev pub path_in : List ℕ → List ℕ → List ℕ
path_in folder name = folder ++ (codes "/" ++ name)
