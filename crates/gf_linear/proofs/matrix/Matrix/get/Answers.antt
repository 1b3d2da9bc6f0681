use Rattle.std.proofs.Common.{◌≡◌, ◌<◌, ◌+◌, ◌*◌, arith, sym, ap, ◌∙◌}
use Rattle.std.proofs.lemmas.List.{get_or_read}
use Rattle.gf_linear.specs.Table.{Table, at}
use Rattle.gf_linear.proofs.Entries.{place-lt, at-table_of}
use Rattle.gf_linear.proofs.matrix.Matrix.get.Goals as goal

pub returns : goal.returns
returns c =
    let v = c.self.inside in
    let rows : v.rows ≡ c.args.self.now.rows = ap (λ (t : Table). t.rows) c.self.view_is in
    let cols : v.cols ≡ c.args.self.now.cols = ap (λ (t : Table). t.cols) c.self.view_is in
    let in_rows : c.args.row < v.rows = omega arith in
    let in_cols : c.args.col < v.cols = omega arith in
    get_or_read v.cells.items (c.args.row * v.cols + c.args.col) c.index.result.now
    (omega (arith, place-lt v.rows v.cols c.args.row c.args.col in_rows in_cols, c.self.invariant.fits))
    c.index.ensures 0
    ∙ sym (at-table_of v.rows v.cols v.cells.items c.args.row c.args.col in_rows in_cols)
    ∙ ap (λ (t : Table). at t c.args.row c.args.col) c.self.view_is
