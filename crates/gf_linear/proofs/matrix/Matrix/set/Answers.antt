use Rattle.std.proofs.Common.{◌≡◌, ◌<◌, ◌*◌, arith, ap, ◌∙◌}
use Rattle.std.proofs.lemmas.List.{length-take-le}
use Rattle.gf_linear.specs.Table.{Table, table_of, with_entry, at}
use Rattle.gf_linear.proofs.Entries.{place-lt, table_of-with_entry, at-with_entry, at-with_entry-other, SameShape-with_entry}
use Rattle.gf_linear.proofs.matrix.Matrix.set.Goals as goal

-- the row and the column are within the fields' table too
in_fields : (c : goal.After-self-1)
    → (c.args.row < c.self.inside.rows) × (c.args.col < c.self.inside.cols)
in_fields c =
    let v = c.self.inside in
    let rows : v.rows ≡ c.args.self.now.rows = ap (λ (t : Table). t.rows) c.self.view_is in
    let cols : v.cols ≡ c.args.self.now.cols = ap (λ (t : Table). t.cols) c.self.view_is in
    (omega arith, omega arith)

pub returns-clause-table : goal.returns-clause-table
returns-clause-table c =
    let v = c.self.inside in
    table_of-with_entry v.rows v.cols v.cells.items c.args.row c.args.col c.args.value (in_fields c).0 (in_fields c).1
    ∙ ap (λ (t : Table). with_entry t c.args.row c.args.col c.args.value) c.self.view_is

pub returns-clause-here : goal.returns-clause-here
returns-clause-here c =
    let v = c.self.inside in
    ap (λ (t : Table). at t c.args.row c.args.col)
    (table_of-with_entry v.rows v.cols v.cells.items c.args.row c.args.col c.args.value (in_fields c).0 (in_fields c).1)
    ∙ at-with_entry (table_of v.rows v.cols v.cells.items) c.args.row c.args.col c.args.value
    (omega (
      arith,
      place-lt v.rows v.cols c.args.row c.args.col (in_fields c).0 (in_fields c).1,
      length-take-le (v.rows * v.cols) v.cells.items c.self.invariant.fits,
    ))

pub returns-clause-others : goal.returns-clause-others
returns-clause-others c i j h ne =
    let v = c.self.inside in
    let cols : v.cols ≡ c.args.self.now.cols = ap (λ (t : Table). t.cols) c.self.view_is in
    let in_cols : j < v.cols = omega arith in
    ap (λ (t : Table). at t i j)
    (table_of-with_entry v.rows v.cols v.cells.items c.args.row c.args.col c.args.value (in_fields c).0 (in_fields c).1)
    ∙ at-with_entry-other (table_of v.rows v.cols v.cells.items) i j c.args.row c.args.col c.args.value in_cols (in_fields c).1 ne
    ∙ ap (λ (t : Table). at t i j) c.self.view_is

pub returns-clause-shape : goal.returns-clause-shape
returns-clause-shape c =
    SameShape-with_entry c.args.self.now _ c.args.row c.args.col c.args.value (returns-clause-table c)
