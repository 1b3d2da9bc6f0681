-- The sizes of segments that are found.
use Rattle.std.proofs.Common.{◌≡◌, ℕ, ◌%◌, ◌≤◌, ◌^◌, false, length, Some, arith}
use Rattle.std.specs.Prelude.{filter}
use Rattle.std.proofs.lemmas.Bool.Decides.{nat_tests}
use Rattle.std.proofs.lemmas.Bool.{not-true}
use Rattle.sat_base.specs.declared.ids.NodeId.{NodeId}
use Rattle.segment_core.specs.Record.{SegmentRecord, segment_rank}
use Rattle.placement.proofs.Picks.{Got, got-kept}
use Rattle.machine_step.specs.Bounds.{IsValid}
use Rattle.machine_step.specs.Calls.PlanExit.{is_movable}
use Rattle.machine_step.specs.Calls.PlanRepair.{needs_repair, to_repair}
use Rattle.machine_step.specs.Containment.{is_live}
use Rattle.machine_step.specs.Health.{first_of, healthy_count, live_segments, picked}
use Rattle.machine_step.specs.Tables.{Tables, is_no_size}
use Rattle.machine_step.proofs.Calls.PlanExit.{first-got}
use Rattle.machine_step.proofs.Calls.PlanRepair.{least-got}
use Rattle.machine_step.proofs.Fits.{fine_found}
use Rattle.machine_step.proofs.RowLemmas.{row_got}
use Rattle.machine_step.proofs.SegmentSizes.{size-most}

-- at least one byte, and at most 2^40
pub record IsSized (len : ℕ) : Type 0 where
  pub some : 1 ≤ len
  pub few : len ≤ 2 ^ 40

module _ (t : Tables) (v : IsValid t) where
  sized : (len : ℕ) → is_no_size t.setup len ≡ false → IsSized len
  sized len size =
      let scheme = v.bounds.setup.scheme in
      record {
        some = grind (arith, nat_tests, size);
        few = size-most t.setup len scheme.some_bytes (omega (arith, scheme.repairs_in_time, scheme.wants_more, scheme.tries_enough, scheme.few_pieces)) size;
      }

  got-sized : (found : SegmentRecord) → Got t.segments found → IsSized found.len
  got-sized found got =
      let at = row_got segment_rank t.segments v.order.segments got.0 found got.1 in
      sized found.len (not-true _ (fine_found t v found.id.0 found at).sized)

  pub picked-sized : (word : ℕ) (found : SegmentRecord) → picked (live_segments t) word ≡ Some found → IsSized found.len
  picked-sized word found is = got-sized found (got-kept is_live t.segments found (word % length (live_segments t)) is).1

  pub repair-sized : (found : SegmentRecord) → to_repair t ≡ Some found → IsSized found.len
  repair-sized found is =
      let got = least-got (healthy_count t) (filter (needs_repair t) t.segments) found is in
      got-sized found (got-kept (needs_repair t) t.segments found got.0 got.1).1

  pub movable-sized : (node : NodeId) (found : SegmentRecord) → first_of (filter (is_movable t node) t.segments) ≡ Some found → IsSized found.len
  movable-sized node found is =
      let got = first-got (filter (is_movable t node) t.segments) found is in
      got-sized found (got-kept (is_movable t node) t.segments found got.0 got.1).1
