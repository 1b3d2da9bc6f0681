use Rattle.std.proofs.Common.{ℕ, List}
use Rattle.order_uses.specs.Index.{IsIndexed}
use Rattle.order_uses.specs.declared.row.OrderUse.{OrderUse}
use Rattle.order_uses.proofs.index.expire.Given as goal

-- what was indexed is indexed
abbrev pub invariant-loop-i : goal.invariant-loop-i
invariant-loop-i l = (key : List ℕ) (rows : List OrderUse) (moment : ℕ) → IsIndexed key rows moment l.fn.waiting.rows l.fn.candidates.rows → IsIndexed key rows moment l.waiting.rows l.candidates.rows
