use Rattle.std.proofs.Common.{arith}
use Rattle.order_uses.proofs.IndexLemmas.{advanced}
use Rattle.order_uses.proofs.index.DueIndex.advance.Goals as goal

pub returns-then-expire : goal.returns-then-expire
returns-then-expire c = λ key rows indexed.
    let moment = c.args.self.now.moment in
    advanced key rows moment c.expire.new.waiting.rows c.expire.new.candidates.rows (c.expire.ensures.kept key rows moment indexed) c.args.now (omega arith) (c.expire.ensures.all c.if-expire.true)

pub returns-else-expire : goal.returns-else-expire
returns-else-expire c = λ key rows indexed. c.expire.ensures.kept key rows c.args.self.now.moment indexed
