use Rattle.std.proofs.Common.{List}
use Rattle.order_uses.specs.Index.{IsIndexed}
use Rattle.order_uses.specs.declared.expiry.Expiry.{Expiry}
use Rattle.order_uses.proofs.index.prune.Given as goal

-- what was indexed is indexed
abbrev pub invariant-loop-i : goal.invariant-loop-i
invariant-loop-i l = (waiting : List Expiry) → IsIndexed l.key l.rows.rows l.moment waiting l.fn.candidates.rows → IsIndexed l.key l.rows.rows l.moment waiting l.candidates.rows
