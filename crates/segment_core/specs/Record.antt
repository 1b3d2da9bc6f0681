-- What contracts see of a segment.
use Rattle.std.specs.Prelude.{ℕ, List}
use Rattle.sat_base.specs.declared.ids.SegId.{SegId}
use Rattle.sat_base.specs.declared.ids.CustomerId.{CustomerId}
use Rattle.sat_base.specs.declared.records.At.{At}

pub record SegmentRecord : Type 0 where
  pub id : SegId
  pub customer : CustomerId
  pub len : ℕ
  pub version : ℕ
  pub pieces : List At

-- a segment stands by its id
abbrev pub segment_rank : SegmentRecord → ℕ
segment_rank segment = segment.id.0
