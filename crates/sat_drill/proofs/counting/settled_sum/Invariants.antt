use Rattle.std.proofs.Common.{◌≡◌, ◌*◌, ◌^◌, ◌≤◌, take}
use Rattle.std.specs.List.{sum_by}
use Rattle.sat_drill.specs.Drill.{amount_of}
use Rattle.sat_drill.proofs.counting.settled_sum.Given as goal

abbrev pub invariant-loop-entry : goal.invariant-loop-entry
invariant-loop-entry l = record {
  so_far : l.sum ≡ sum_by (λ e. amount_of e.reply) (take l.entry-index l.history);
  few : l.sum ≤ l.entry-index * 2 ^ 64;
}
