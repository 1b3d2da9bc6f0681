use Rattle.std.proofs.Common.{◌≡◌, ℕ, ◌<◌, true, slice_index_or}
use Rattle.repair_core.specs.Indexes.{has_index}
use Rattle.trial_indexes.proofs.are_among.Given as goal

abbrev pub invariant-loop-index : goal.invariant-loop-index
invariant-loop-index l = (k d : ℕ) → k < l.index-index → has_index l.others (slice_index_or l.indexes k d) ≡ true
