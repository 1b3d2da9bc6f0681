use Rattle.std.proofs.Common.{◌≡◌, drop}
use Rattle.std.specs.Prelude.{option_copied, slice_get}
use Rattle.order_uses.specs.Due.{due_of}
use Rattle.order_uses.proofs.DueLemmas.{due_in}
use Rattle.order_uses.proofs.due.first_due.Given as goal

-- the next row, and that the first that is due stands among those that are left
abbrev pub invariant-loop-i : goal.invariant-loop-i
invariant-loop-i l = record {
  at : option_copied l.next ≡ slice_get l.rows.rows l._i;
  rest : due_in l.key l.now (drop l._i l.rows.rows) ≡ due_of l.key l.rows.rows l.now;
}
