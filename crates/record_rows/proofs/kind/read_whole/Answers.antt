use Rattle.std.proofs.Common.{[], append-nil, arith, sym, ◌∙◌}
use Rattle.record_rows.proofs.kind.read_whole.Goals as goal

pub returns-in_err-x-clause-only : goal.returns-in_err-x-clause-only
returns-in_err-x-clause-only g c x fits is mem =
    let h = c.take.ensures.only x [] fits (is ∙ sym (append-nil (g.T.Spelled.spelling x))) in grind (arith, h)

pub returns-then-size-bytes-clause-only : goal.returns-then-size-bytes-clause-only
returns-then-size-bytes-clause-only g c x fits is mem =
    let h = c.take.ensures.only x [] fits (is ∙ sym (append-nil (g.T.Spelled.spelling x))) in grind (arith, h)

pub returns-else-size-bytes-clause-only : goal.returns-else-size-bytes-clause-only
returns-else-size-bytes-clause-only g c x fits is mem =
    let h = c.take.ensures.only x [] fits (is ∙ sym (append-nil (g.T.Spelled.spelling x))) in grind (arith, h)
