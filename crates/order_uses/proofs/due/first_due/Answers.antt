use Rattle.std.proofs.Common.{◌≡◌, true, false, Some, sym, ap, ◌∙◌}
use Rattle.std.specs.Prelude.{option_copied, slice_get}
use Rattle.rows.specs.Rows.{first_above}
use Rattle.order_uses.specs.Due.{is_due}
use Rattle.order_uses.specs.Uses.{use_rank}
use Rattle.order_uses.proofs.DueLemmas.{due_here, due_later, next_row}
use Rattle.order_uses.proofs.due.first_due.Goals as goal

pub returns-then-is_due : goal.returns-then-is_due
returns-then-is_due c =
    let rows = c.args.rows.now.rows in
    let row = c.in-Some.row.now in
    let there : slice_get rows c.loop-i._i ≡ Some row = sym c.loop-i.invariant.at ∙ ap option_copied c.in-Some.is in
    let due : is_due c.args.key.now c.args.now row ≡ true = sym c.is_due.ensures ∙ c.if-is_due.true in
    sym (due_here c.args.key.now c.args.now rows c.loop-i._i row there due) ∙ c.loop-i.invariant.rest

pub loop-i-preserved : goal.loop-i-preserved
loop-i-preserved c =
    let rows = c.args.rows.now.rows in
    let row = c.in-Some.row.now in
    let there : slice_get rows c.loop-i._i ≡ Some row = sym c.loop-i.invariant.at ∙ ap option_copied c.in-Some.is in
    let not_due : is_due c.args.key.now c.args.now row ≡ false = sym c.is_due.ensures ∙ c.if-is_due.false in
    record {
      at = c.after-next.ensures.row ∙ ap (first_above use_rank rows) c.rank.ensures ∙ next_row use_rank rows c.loop-i._i row c.first-next.ensures.rising there;
      rest = sym (due_later c.args.key.now c.args.now rows c.loop-i._i row there not_due) ∙ c.loop-i.invariant.rest;
    }
