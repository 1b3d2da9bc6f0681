-- What a crash leaves of an open store is its last commit, and so are the rows in it.
use Rattle.std.proofs.Common.{◌≡◌, ap, sym, ◌∙◌}
use Rattle.sqlite.specs.Tree.{Trees}
use Rattle.sat_base.specs.Rows.{Rows}
use Rattle.keeper_sqlite.specs.Records.{rows_in}

pub rows_of_commit : (left committed : Trees) (rows : Rows) → rows_in left ≡ rows → left ≡ committed → rows ≡ rows_in committed
rows_of_commit left committed rows is same = sym is ∙ ap rows_in same
