use Rattle.std.proofs.Common.{◌+◌, sym, arith, add-one}
use Rattle.std.proofs.lemmas.List.{take_rest}
use Rattle.sat_base.proofs.TextLemmas.{cut_at, cut_none}
use Rattle.sat_base.proofs.text.cut.Goals as goal

pub returns-then-b-mark : goal.returns-then-b-mark
returns-then-b-mark c =
    rw (take_rest c.args.text.now (c.loop-i.i + 1), add-one)
    (sym (cut_at c.args.mark c.args.text.now c.loop-i.i (omega arith) c.loop-i.invariant c.if-b-mark.true))

pub returns : goal.returns
returns c = sym (cut_none c.args.mark c.args.text.now (λ k lt e. c.loop-i.invariant k (omega arith) e))
