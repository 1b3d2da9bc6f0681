use Rattle.std.proofs.Common.{◌≡◌, ◌<◌, ◌≤◌, ℕ, slice_index_or}
use Rattle.sat_base.specs.declared.items.Share.{Share}
use Rattle.repair_core.specs.Room.{IsWritten}
use Rattle.repair_core.proofs.making.write_shares.Given as goal

abbrev pub invariant-loop-i : goal.invariant-loop-i
invariant-loop-i l = record {
  written : (j : ℕ) (d : Share) → j < l.i
      → IsWritten l.encoder.k l.encoder.size l.done l.encoder.stripe (slice_index_or l.initial.fresh j d) (slice_index_or l.fresh j d);
  rest : (j : ℕ) (d : Share) → l.i ≤ j → slice_index_or l.fresh j d ≡ slice_index_or l.initial.fresh j d;
}
