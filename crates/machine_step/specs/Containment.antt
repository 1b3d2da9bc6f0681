-- The containment rule: after every step, a containment whose node doesn't serve or whose piece is gone is gone too.
use Rattle.std.specs.Prelude.{◌==◌, ◌&&◌, Bool, false, not, List, [], ◌∷◌, ◌++◌, map, filter, Option, Some, None}
use Rattle.std.specs.List.{list_any}
use Rattle.sat_base.specs.declared.records.At.{At}
use Rattle.sat_base.specs.declared.records.Containment.{Containment}
use Rattle.sat_base.specs.declared.records.Key.TheVariants as keys
use Rattle.node_registry.specs.declared.node.Node.{Node}
use Rattle.node_registry.specs.Registry.{node_at}
use Rattle.node_registry.specs.Standing.{is_serving}
use Rattle.segment_core.specs.Record.{SegmentRecord}
use Rattle.machine_calls.specs.declared.change.RecChange.{RecChange}
use Rattle.machine_calls.specs.declared.change.RecChange.TheVariants as changes
use Rattle.machine_step.specs.Tables.{Tables, segment_at, all_changed}
use Rattle.machine_step.specs.Outcome.{Outcome}

abbrev pub serves : Option Node → Bool
serves None = false
serves (Some node) = is_serving node.status

-- two places are one: the index and the node
abbrev pub same_place : At → At → Bool
same_place one other = (one.index == other.index) && (one.node.0 == other.node.0)

abbrev pub has_piece : List At → At → Bool
has_piece pieces place = list_any (λ piece. same_place piece place) pieces

-- from version 1 on a segment is live
abbrev pub is_live : SegmentRecord → Bool
is_live segment = not (segment.version == 0)

abbrev pub has_live_piece : Option SegmentRecord → At → Bool
has_live_piece None place = false
has_live_piece (Some segment) place = is_live segment && has_piece segment.pieces place

-- the place of the piece of which the node owes a share
abbrev pub place_of : Containment → At
place_of containment = record { index = containment.index; node = containment.node }

-- a containment stands while its node serves and its piece is one of a live segment
abbrev pub stands_in : List Node → List SegmentRecord → Containment → Bool
stands_in nodes segments containment = serves (node_at nodes containment.node) && has_live_piece (segment_at segments containment.segment.0) (place_of containment)

abbrev pub stands : Tables → Containment → Bool
stands t containment = stands_in t.nodes t.segments containment

-- those that don't stand
abbrev pub fallen : Tables → List Containment
fallen t = filter (λ containment. not (stands t containment)) t.containments

abbrev pub release : Containment → RecChange
release containment = changes.Remove (keys.Containment containment.node)

-- changes, and then the removal of the containments that they leave without a node that serves or without their piece. Where nothing changes, nothing is removed
abbrev pub with_releases : Tables → List RecChange → List RecChange
with_releases t [] = []
with_releases t (first ∷ rest) = (first ∷ rest) ++ map release (fallen (all_changed t (first ∷ rest)))

abbrev pub swept : Tables → Outcome → Outcome
swept t outcome = record { reply = outcome.reply; changes = with_releases t outcome.changes }
