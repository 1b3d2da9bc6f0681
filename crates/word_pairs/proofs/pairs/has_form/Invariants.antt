use Rattle.std.proofs.Common.{◌≡◌, ◌≤◌, ◌-◌, length, drop}
use Rattle.word_pairs.specs.Pairs.{is_form, texts}
use Rattle.word_pairs.proofs.pairs.has_form.Given as goal

abbrev pub invariant-loop-i : goal.invariant-loop-i
invariant-loop-i l = record {
  in_range : l.i ≤ length l.line;
  so_far : is_form (texts l.names) (drop l.i l.line) ≡ is_form (texts l.names) (drop 1 l.line);
}

abbrev pub decreases-loop-i : goal.decreases-loop-i
decreases-loop-i l = length l.line - l.i
