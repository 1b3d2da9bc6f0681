use Rattle.std.proofs.Common.{◌≡◌, ◌++◌}
use Rattle.std.specs.BTreeMap.{values}
use Rattle.rows.specs.Entries.{kept_values}
use Rattle.rows.proofs.copying.rows_of.Given as goal

-- the rows so far, and those that are left
abbrev pub invariant-loop-slot : goal.invariant-loop-slot
invariant-loop-slot g l = l.rows.items ++ kept_values l.slot-iterator ≡ kept_values (values l.map)
