use Rattle.sat_book.proofs.ChangedRows.{rows_all}
use Rattle.sat_book.proofs.laws.rows_follow_changes.Goals as goal

pub returns : goal.returns
returns c = rows_all
