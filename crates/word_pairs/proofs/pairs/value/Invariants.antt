use Rattle.std.proofs.Common.{◌≡◌, ◌≤◌, ◌-◌, length, drop}
use Rattle.word_pairs.specs.Pairs.{value_of}
use Rattle.word_pairs.proofs.pairs.value.Given as goal

abbrev pub invariant-loop-i : goal.invariant-loop-i
invariant-loop-i l = record {
  in_range : l.i ≤ length l.line;
  so_far : value_of l.name (drop l.i l.line) ≡ value_of l.name (drop l.from l.line);
}

abbrev pub decreases-loop-i : goal.decreases-loop-i
decreases-loop-i l = length l.line - l.i
