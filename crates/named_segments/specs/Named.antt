-- A segment that the reader names by its bytes.
use Rattle.std.specs.Prelude.{◌≡◌, ℕ, ◌<◌, List, length, Some, All}
use Rattle.segment_core.specs.Record.{SegmentRecord}
use Rattle.machine_step.specs.Tables.{Tables, segment_at}

-- these can be the bytes of the segment of this number: there are as many
pub record IsNamed (t : Tables) (id : ℕ) (named : List ℕ) : Type 0 where
  pub segment : SegmentRecord
  pub at : segment_at t.segments id ≡ Some segment
  pub len : length named ≡ segment.len
  pub bytes : All (λ byte. byte < 256) named
