-- A row that is added where its key had none is found by it from then on, and each other row as before.
use Rattle.std.proofs.Common.{◌≡◌, ◌≢◌, ℕ, List, Some, None, refl, sym, ap, ◌∙◌}
use Rattle.std.proofs.lemmas.Bool.{eq-eqb, ne_eqb}
use Rattle.rows.proofs.Found.{row_at-added}
use Rattle.settlement.specs.declared.row.SettledRow.{SettledRow}
use Rattle.settlement.specs.Rows.{key, row_of, added}

pub row_added : (row : SettledRow) (rows : List SettledRow) → row_of rows (key row) ≡ None → row_of (added row rows) (key row) ≡ Some row
row_added row rows none = rw (eq-eqb (key row) (key row) refl) at (row_at-added key row rows (key row) none)

pub row_kept : (row : SettledRow) (rows : List SettledRow) → row_of rows (key row) ≡ None → (k : ℕ) (r : SettledRow) → row_of rows k ≡ Some r → row_of (added row rows) k ≡ Some r
row_kept row rows none k r there =
    let ne : key row ≢ k = λ same. let gone : row_of rows k ≡ None = ap (row_of rows) (sym same) ∙ none in cc in
    rw (ne_eqb (key row) k ne) at (row_at-added key row rows k none) ∙ there
