use Rattle.std.proofs.Common.{◌≡◌, length, replicate, arith, sym, ap, ◌∙◌}
use Rattle.std.proofs.lemmas.List.{take_all, with_items_is}
use Rattle.gf_linear.specs.Table.{Table, at}
use Rattle.gf_linear.proofs.Entries.{table_of-zeros_of, at-zeros_of}
use Rattle.gf_linear.proofs.matrix.Matrix.reset.Goals as goal

pub returns-clause-table : goal.returns-clause-table
returns-clause-table c =
    let items = c.loop-cell.cell-items in
    let room : length c.self.inside.cells.items ≡ c.args.self.now.room = ap (λ (t : Table). t.room) c.self.view_is in
    let end : c.loop-cell.cell-index ≡ length items = omega arith in
    let all : items ≡ replicate (length items) 0 =
    sym (take_all c.loop-cell.cell-index items (omega arith)) ∙ c.loop-cell.invariant ∙ ap (λ n. replicate n 0) end in
    table_of-zeros_of c.args.rows c.args.cols c.args.self.now.room _ items (with_items_is c.self.inside.cells items (omega arith))
    all (omega arith) (omega arith)

pub returns-clause-zero : goal.returns-clause-zero
returns-clause-zero c i j =
    ap (λ (t : Table). at t i j) (returns-clause-table c)
    ∙ at-zeros_of c.args.rows c.args.cols c.args.self.now.room i j
