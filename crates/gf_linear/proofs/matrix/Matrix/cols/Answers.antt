use Rattle.std.proofs.Common.{subst}
use Rattle.gf_linear.specs.Table.{IsTable}
use Rattle.gf_linear.proofs.Entries.{IsTable-table_of}
use Rattle.gf_linear.proofs.matrix.Matrix.cols.Goals as goal

pub returns-clause-table : goal.returns-clause-table
returns-clause-table c =
    let v = c.self.inside in
    subst IsTable c.self.view_is (IsTable-table_of v.rows v.cols v.cells.items c.self.invariant)
