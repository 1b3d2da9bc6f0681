use Rattle.std.proofs.Common.{rules, ◌≡◌, ◌++◌, ◌∙◌, arith}
use Rattle.http_edge.proofs.RequestLemmas.{whole_is, unread_says, unread_fails}
use Rattle.http_edge.proofs.request.with_body.Goals as goal

pub returns-in-Ok-wish_of-clause-outcome : goal.returns-in-Ok-wish_of-clause-outcome
returns-in-Ok-wish_of-clause-outcome g c = λ l o. let b = c.in-Ok.ensures.body l o in let same : c.deref.result.now ≡ c.in-Ok.body.items = search rules in whole_is c.args.route c.args.size (c.args.read.now ++ l) c.deref.result.now _ (same ∙ b.0) b.1 c.in-Ok-wish_of.ensures.wish

pub returns-in-Ok-clause-outcome : goal.returns-in-Ok-clause-outcome
returns-in-Ok-clause-outcome g c = λ l o n. let b = c.in-Ok.ensures.body l o in let same : c.deref.result.now ≡ c.in-Ok.body.items = search rules in whole_is c.args.route c.args.size (c.args.read.now ++ l) c.deref.result.now _ (same ∙ b.0) b.1 (c.in-Err-wish_of.ensures.wish n)

pub returns-clause-outcome : goal.returns-clause-outcome
returns-clause-outcome g c = λ l o. rw c.unread.ensures (unread_says c.args.route c.args.size (c.args.read.now ++ l) c.in-Err.e (c.in-Err.ensures.body l o))

pub returns-clause-took : goal.returns-clause-took
returns-clause-took g c =
    let m = c.in-Err.ensures.took in
    rw (c.unread.ensures, unread_fails c.in-Err.e) (m.0, m.1, omega (arith, m.2))
