use Rattle.std.proofs.Common.{◌≡◌, List, [], ◌∷◌, refl, subst}
use Rattle.audit_core.specs.declared.verdict.Silent.{Silent}
use Rattle.audit_core.specs.Verdict.{IsVerdict, silent_indexes}
use Rattle.audit_core.proofs.judging.weigh.Goals as goal

none_silent : (silent : List Silent) → silent_indexes silent ≡ [] → silent ≡ []
none_silent [] e = refl
none_silent (one ∷ rest) e = cc

pub returns-clause-verdict : goal.returns-clause-verdict
returns-clause-verdict c =
    subst (λ (silent : List Silent). IsVerdict c.args.scheme.now.k c.args.scheme.now.share c.args.answers.now silent c.in_ok-verdict.verdict)
    (none_silent c.in_ok-verdict.field-0-0 c.in_ok-verdict.ensures.silent) c.in_ok-verdict.ensures.verdict
