use Rattle.std.proofs.Common.{◌≡◌, ◌||◌, ℕ, Bool, false, take, slice_index_or}
use Rattle.std.specs.Prelude.{map, filter}
use Rattle.sat_base.specs.declared.items.Share.{Share}
use Rattle.bw_decode.specs.Altered.{indexes_of}
use Rattle.repair_core.specs.Indexes.{has_index}
use Rattle.repair_core.proofs.making.mark.Given as goal

abbrev pub invariant-loop-i : goal.invariant-loop-i
invariant-loop-i l =
    (test : Share → Bool) → l.altered ≡ map test l.answers → (index : ℕ)
    → slice_index_or l.marks index false
    ≡ (slice_index_or l.initial.marks index false || has_index (indexes_of (filter test (take l.i l.answers))) index)
