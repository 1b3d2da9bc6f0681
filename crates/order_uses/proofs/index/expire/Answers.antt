use Rattle.std.proofs.Common.{refl, sym, ap, ◌∙◌}
use Rattle.std.specs.Prelude.{option_copied}
use Rattle.rows.proofs.Found.{row_got}
use Rattle.order_uses.specs.Expiries.{expiry_rank}
use Rattle.order_uses.proofs.IndexLemmas.{expired_one, none_before_first, none_before_none}
use Rattle.order_uses.proofs.index.expire.Goals as goal

pub returns-in_default-clause-all : goal.returns-in_default-clause-all
returns-in_default-clause-all c = λ _. none_before_none c.loop-i.waiting.rows c.args.now (sym c.first.ensures.row ∙ ap option_copied c.in_default.is)

pub returns-then-expired-now-clause-all : goal.returns-then-expired-now-clause-all
returns-then-expired-now-clause-all c = λ _.
    none_before_first c.loop-i.waiting.rows c.in-Some.first.now c.args.now c.first.ensures.rising (sym c.first.ensures.row ∙ ap option_copied c.in-Some.is) c.if-expired-now.true

pub loop-i-preserved : goal.loop-i-preserved
loop-i-preserved c = λ key rows moment indexed.
    let first = c.in-Some.first.now in
    let there = row_got expiry_rank c.loop-i.waiting.rows c.first.ensures.rising 0 first (sym c.first.ensures.row ∙ ap option_copied c.in-Some.is) in
    rw (c.remove.ensures.rows, c.rank.ensures, c.put_over.ensures.rows, c.reserve.ensures.rows)
    (expired_one key rows moment c.loop-i.waiting.rows c.loop-i.candidates.rows (c.loop-i.invariant key rows moment indexed) first _ there refl)

pub returns-then-is_err-clause-kept : goal.returns-then-is_err-clause-kept
returns-then-is_err-clause-kept c = λ key rows moment indexed. rw c.reserve.ensures.rows (c.loop-i.invariant key rows moment indexed)
