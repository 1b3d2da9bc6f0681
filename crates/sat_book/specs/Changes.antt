-- The change of a row that a change of a record is.
use Rattle.sat_base.specs.declared.rows.Change.{Change}
use Rattle.sat_base.specs.declared.rows.Change.TheVariants.{Put}
use Rattle.machine_calls.specs.Changes.{Doing, doing}
use Rattle.machine_calls.specs.Changes.Doing.{puts, removes}
use Rattle.machine_calls.specs.declared.change.RecChange.{RecChange}
use Rattle.record_rows.specs.Spelling.{row_of, removal}

abbrev pub row_done : Doing → Change
row_done (puts rec) = Put (row_of rec)
row_done (removes key) = removal key

abbrev pub row_change : RecChange → Change
row_change change = row_done (doing change)
