-- The paths of pieces.
use Rattle.std.specs.Prelude.{◌≡◌, ℕ, ◌^◌, List, ◌++◌, codes}
use Rattle.sat_base.specs.Text.{IsNumber}
use Rattle.sat_base.specs.declared.ids.SegId.{SegId}

-- the path of a segment's piece
pub record IsPath (path : List ℕ) (segment : SegId) (index : ℕ) : Type 0 where
  pub s : List ℕ
  pub j : List ℕ
  pub segment_is : IsNumber s segment.0 (2 ^ 64)
  pub index_is : IsNumber j index (2 ^ 8)
  pub spelled : path ≡ codes "/piece/" ++ (s ++ (codes "/" ++ j))
