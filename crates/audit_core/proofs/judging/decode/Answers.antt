use Rattle.std.proofs.Common.{ℕ, arith}
use Rattle.std.proofs.lemmas.Grind.{common_steps, elements}
use Rattle.audit_core.proofs.judging.decode.Goals as goal

pub returns-clause-bytes : goal.returns-clause-bytes
returns-clause-bytes c = λ k d within. let fits = c.type_inv.stripe k in grind (arith, elements, fits)

pub returns-clause-unclear : goal.returns-clause-unclear
returns-clause-unclear c = λ unclear enough stripe near. c.stripe.ensures.unclear unclear stripe near
