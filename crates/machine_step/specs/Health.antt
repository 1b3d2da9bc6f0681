-- What nodes and segments are to plans: healthy, live, picked.
use Rattle.std.specs.Prelude.{ℕ, ◌%◌, Bool, List, [], ◌∷◌, length, filter, Option, Some, None, slice_get, if◌then◌else◌}
use Rattle.std.specs.List.{list_all}
use Rattle.sat_base.specs.declared.records.At.{At}
use Rattle.node_registry.specs.declared.node.Node.{Node}
use Rattle.node_registry.specs.declared.reputation.Outcome.{Outcome as Mark}
use Rattle.node_registry.specs.Standing.{is_serving}
use Rattle.node_registry.specs.Reputation.{after_of}
use Rattle.segment_core.specs.Record.{SegmentRecord}
use Rattle.segment_core.specs.Health.{is_healthy}
use Rattle.machine_step.specs.Tables.{Tables}
use Rattle.machine_step.specs.Containment.{has_piece, is_live}

-- ---- nodes

-- the node after an outcome, if it serves
abbrev pub after_outcome : Option Node → Mark → Option Node
after_outcome None mark = None
after_outcome (Some node) mark = if is_serving node.status then Some (after_of node mark) else None

-- ---- pieces

-- each of the places is one of the pieces
abbrev pub are_among : List At → List At → Bool
are_among pieces places = list_all (λ place. has_piece pieces place) places

-- ---- segments

abbrev pub live_segments : Tables → List SegmentRecord
live_segments t = filter is_live t.segments

-- the healthy pieces of a segment, by index
abbrev pub healthy_of : Tables → SegmentRecord → List At
healthy_of t segment = filter (is_healthy t.nodes) segment.pieces

abbrev pub healthy_count : Tables → SegmentRecord → ℕ
healthy_count t segment = length (healthy_of t segment)

-- ---- rows

-- the row that a word picks
abbrev pub picked : {R : Type 0} → List R → ℕ → Option R
picked rows word = slice_get rows (word % length rows)

abbrev pub first_of : {R : Type 0} → List R → Option R
first_of [] = None
first_of (row ∷ rest) = Some row
