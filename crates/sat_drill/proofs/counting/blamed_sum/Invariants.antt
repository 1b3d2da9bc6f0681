use Rattle.std.proofs.Common.{◌≡◌, ◌*◌, ◌^◌, ◌≤◌, take}
use Rattle.std.specs.List.{sum_by}
use Rattle.sat_drill.specs.Drill.{blamed_of}
use Rattle.sat_drill.proofs.counting.blamed_sum.Given as goal

abbrev pub invariant-loop-entry : goal.invariant-loop-entry
invariant-loop-entry l = record {
  so_far : l.sum ≡ sum_by (λ e. blamed_of e.reply) (take l.entry-index l.history);
  few : l.sum ≤ l.entry-index * 2 ^ 64;
}
