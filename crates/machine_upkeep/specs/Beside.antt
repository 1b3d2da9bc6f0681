-- The nodes that are picked for fresh pieces beside sources.
use Rattle.std.specs.Prelude.{ℕ, ◌-◌, ◌*◌, ◌/◌, List, length, map, min}
use Rattle.sat_base.specs.declared.ids.NodeId.{NodeId}
use Rattle.sat_base.specs.declared.records.At.{At}
use Rattle.segment_core.specs.Record.{SegmentRecord}
use Rattle.placement.specs.Eligible.{subnet_count}
use Rattle.placement.specs.Placed.{id_of}
use Rattle.machine_step.specs.Tables.{Tables}
use Rattle.machine_step.specs.Health.{healthy_of}
use Rattle.machine_step.specs.Places.{picks_of}
use Rattle.machine_step.specs.Calls.PlanRepair.{terms_beside}

-- in so many subnets there are eligible nodes
abbrev pub subnets_beside : Tables → List At → ℕ → List ℕ → ℕ
subnets_beside t sources len words = subnet_count (terms_beside t sources len words)

-- the nodes for so many fresh pieces
abbrev pub ids_beside : Tables → List At → ℕ → List ℕ → ℕ → List NodeId
ids_beside t sources len words need = map id_of (picks_of (terms_beside t sources len words) need (need * t.setup.fresh / 100))

-- how many fresh pieces of a segment are wanted, and can be had
abbrev pub nodes_wanted : Tables → List ℕ → SegmentRecord → ℕ
nodes_wanted t words segment = min (t.setup.o - length (healthy_of t segment)) (subnets_beside t (healthy_of t segment) segment.len words)
