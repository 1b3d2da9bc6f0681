use Rattle.std.proofs.Common.{◌≡◌, Some, None, sym, ap, subst, ◌∙◌, arith}
use Rattle.std.specs.Prelude.{option_copied, slice_get}
use Rattle.std.proofs.lemmas.Option.{slice_get_past}
use Rattle.rows.specs.Rows.{first_above, row_at}
use Rattle.order_uses.specs.Due.{order_if_due}
use Rattle.order_uses.specs.Expiries.{candidate_rank}
use Rattle.order_uses.specs.Uses.{use_rank}
use Rattle.order_uses.proofs.DueLemmas.{next_row}
use Rattle.order_uses.proofs.WalkLemmas.{DueFrom, due_from_first, due_from_next, found_from, none_from, not_due_at}
use Rattle.order_uses.proofs.index.DueIndex.first_due.Goals as goal

pub loop-i-init : goal.loop-i-init
loop-i-init c =
    let i = c.args.self.now in
    record {
      at = c.first-next.ensures.row;
      from = subst (DueFrom c.args.key.now i.moment c.args.rows.now.rows) (sym c.first-next.ensures.row)
          (due_from_first c.args.key.now c.args.rows.now.rows i.moment i.waiting.rows i.candidates.rows c.requires.indexed c.requires.serials c.first-next.ensures.rising);
    }

pub returns-in_default : goal.returns-in_default
returns-in_default c =
    sym (none_from c.args.key.now c.args.self.now.moment c.args.rows.now.rows c.len-count.ensures.rising (option_copied c.loop-i.next) (ap option_copied c.in_default.is) c.loop-i.invariant.from)

pub returns-in-Some-order_if_due : goal.returns-in-Some-order_if_due
returns-in-Some-order_if_due c =
    let candidate = c.in-Some.candidate.now in
    let rows = c.args.rows.now.rows in
    let place : c.rank-place.result ≡ candidate.serial = c.rank-place.ensures in
    let found : order_if_due c.args.key.now c.args.self.now.moment (row_at use_rank rows candidate.serial) ≡ Some c.in-Some-order_if_due.order
    = ap (order_if_due c.args.key.now c.args.self.now.moment) (sym (c.get.ensures.row ∙ ap (row_at use_rank rows) place)) ∙ sym c.order_if_due.ensures ∙ c.in-Some-order_if_due.is in
    sym (found_from c.args.key.now c.args.self.now.moment rows (option_copied c.loop-i.next) candidate c.in-Some-order_if_due.order c.len-count.ensures.rising (ap option_copied c.in-Some.is) c.loop-i.invariant.from found)

pub loop-i-preserved : goal.loop-i-preserved
loop-i-preserved c =
    let i = c.args.self.now in
    let candidate = c.in-Some.candidate.now in
    let rows = c.args.rows.now.rows in
    let place : c.rank-place.result ≡ candidate.serial = c.rank-place.ensures in
    let there : slice_get i.candidates.rows c.loop-i._i ≡ Some candidate = sym c.loop-i.invariant.at ∙ ap option_copied c.in-Some.is in
    let none : order_if_due c.args.key.now i.moment (row_at use_rank rows candidate.serial) ≡ None
    = ap (order_if_due c.args.key.now i.moment) (sym (c.get.ensures.row ∙ ap (row_at use_rank rows) place)) ∙ sym c.order_if_due.ensures ∙ c.in_default-order_if_due.is in
    let next : option_copied c.after-next.result ≡ first_above candidate_rank i.candidates.rows candidate.serial = c.after-next.ensures.row ∙ ap (first_above candidate_rank i.candidates.rows) place in
    record {
      at = next ∙ next_row candidate_rank i.candidates.rows c.loop-i._i candidate c.first-next.ensures.rising there;
      from = subst (DueFrom c.args.key.now i.moment rows) (sym next)
          (due_from_next c.args.key.now rows i.moment i.waiting.rows i.candidates.rows c.requires.indexed c.requires.serials c.first-next.ensures.rising candidate
          (subst (DueFrom c.args.key.now i.moment rows) (ap option_copied c.in-Some.is) c.loop-i.invariant.from) (not_due_at c.args.key.now i.moment rows candidate.serial none));
    }

pub returns : goal.returns
returns c =
    let i = c.args.self.now in
    let none : slice_get i.candidates.rows c.loop-i._i ≡ None = slice_get_past i.candidates.rows c.loop-i._i (omega arith) in
    sym (none_from c.args.key.now i.moment c.args.rows.now.rows c.len-count.ensures.rising (option_copied c.loop-i.next) (c.loop-i.invariant.at ∙ none) c.loop-i.invariant.from)
