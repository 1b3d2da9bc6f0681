use Rattle.std.proofs.Common.{◌≡◌, ◌++◌, drop}
use Rattle.sat_console.specs.Judge.{indexes_text, blamed_text}
use Rattle.sat_console.proofs.judging.push_blamed.Given as goal

-- what was written, and behind it the rest of the indexes, are the whole
abbrev pub invariant-loop-index : goal.invariant-loop-index
invariant-loop-index l = l.text.items ++ indexes_text (drop l.index-index l.indexes) ≡ l.fn.text.items ++ blamed_text l.indexes
