-- What contracts see of a rebuilding in windows.
use Rattle.std.specs.Prelude.{ℕ, List}
use Rattle.sat_base.specs.declared.items.Share.{Share}

pub record Progress : Type 0 where
  -- the scheme's numbers: a stripe is k rows of size bytes, and indexes are below n
  pub k : ℕ
  pub size : ℕ
  pub n : ℕ
  -- the stripes of a window, but for the last one
  pub window : ℕ
  -- the stripes of the segment
  pub count : ℕ
  -- the indexes of the sources
  pub sources : List ℕ
  -- the stripes that are finished
  pub done : ℕ
  -- the sources that are altered in a stripe that is finished
  pub blamed : List ℕ
  -- for each target the piece, as far as the stripes are finished
  pub fresh : List Share
