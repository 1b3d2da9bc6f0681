use Rattle.std.proofs.Common.{◌≡◌}
use Rattle.std.specs.Prelude.{option_copied, slice_get}
use Rattle.order_uses.proofs.WalkLemmas.{DueFrom}
use Rattle.order_uses.proofs.index.DueIndex.first_due.Given as goal

-- the next candidate, and that no row is due that stands before it
abbrev pub invariant-loop-i : goal.invariant-loop-i
invariant-loop-i l = record {
  at : option_copied l.next ≡ slice_get l.self.candidates.rows l._i;
  from : DueFrom l.key l.self.moment l.rows.rows (option_copied l.next);
}
