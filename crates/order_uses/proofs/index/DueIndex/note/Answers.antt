use Rattle.std.proofs.Common.{◌≤◌, refl, sym, arith}
use Rattle.order_uses.proofs.IndexLemmas.{noted_candidate, noted_none, noted_waiting}
use Rattle.order_uses.proofs.index.DueIndex.note.Goals as goal

pub returns-in-Err : goal.returns-in-Err
returns-in-Err c = λ rows fits indexed.
    let i = c.args.self.now in
    noted_none c.args.key.now rows i.moment i.waiting.rows i.candidates.rows indexed c.args.row.now c.in-Err.field-0 (sym c.in-Err.ensures.exact)

pub returns-then-row-order : goal.returns-then-row-order
returns-then-row-order c = λ rows fits indexed.
    let i = c.args.self.now in
    rw c.put_over.ensures.rows (noted_candidate c.args.key.now rows i.moment i.waiting.rows i.candidates.rows indexed c.args.row.now _ refl)

pub returns : goal.returns
returns c = λ rows fits indexed.
    let i = c.args.self.now in
    let order = c.in-Ok.order in
    let later : i.moment ≤ order.limit.expires = omega arith in
    rw c.put_over-2.ensures.rows (noted_waiting c.args.key.now rows i.moment i.waiting.rows i.candidates.rows indexed c.args.row.now order fits (sym c.in-Ok.ensures.exact) later (λ e. omega (arith, e)))
