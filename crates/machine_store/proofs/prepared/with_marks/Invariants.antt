use Rattle.std.proofs.Common.{◌≡◌, ◌∷◌, ◌++◌}
use Rattle.std.specs.Vec.Iter.{into_iter_items}
use Rattle.machine_calls.specs.declared.change.RecChange.TheVariants as changes
use Rattle.machine_store.proofs.prepared.with_marks.Given as goal

-- the changes so far, and behind them the records that are left
abbrev pub invariant-loop-put : goal.invariant-loop-put
invariant-loop-put l = l.changes.items ++ into_iter_items l.put-iterator ≡ changes.Marks l.fn.marks ∷ l.fn.puts.items
