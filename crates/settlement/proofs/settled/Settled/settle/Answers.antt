use Rattle.std.proofs.Common.{◌≡◌, None, refl, ap, ◌∙◌}
use Rattle.settlement.specs.Rows.{key, row_of, added}
use Rattle.settlement.specs.Settle.{IsRowOf}
use Rattle.settlement.proofs.Once.{row_added, row_kept}
use Rattle.settlement.proofs.settled.Settled.settle.Goals as goal

pub returns-else-is_err-clause-first : goal.returns-else-is_err-clause-first
returns-else-is_err-clause-first c =
    let row = c.in-Ok-New.row in
    let good : IsRowOf c.args.keys.now c.args.node c.args.now c.args.bytes.now row = rw c.in-Ok-New.field-0-is at c.in-Ok-New.ensures.good in
    let absent : row_of c.args.self.now.rows (key row) ≡ None = rw c.in-Ok-New.field-0-is at c.in-Ok-New.ensures.absent in
    let rows : c.add.new.self.rows ≡ added row c.args.self.now.rows = c.add.ensures.rows ∙ ap (added row) c.reserve.ensures.rows in
    record {
      row = row;
      is_row = good;
      amount_is = refl;
      none_before = absent;
      there_now = rw rows (row_added row c.args.self.now.rows absent);
    }

pub returns-else-is_err-clause-kept : goal.returns-else-is_err-clause-kept
returns-else-is_err-clause-kept c =
    let row = c.in-Ok-New.row in
    let absent : row_of c.args.self.now.rows (key row) ≡ None = rw c.in-Ok-New.field-0-is at c.in-Ok-New.ensures.absent in
    let rows : c.add.new.self.rows ≡ added row c.args.self.now.rows = c.add.ensures.rows ∙ ap (added row) c.reserve.ensures.rows in
    rw rows (row_kept row c.args.self.now.rows absent)
