use Rattle.gf_linear.proofs.PolynomialLaws.{only_one, one_exists}
use Rattle.gf_linear.proofs.laws.one_polynomial.Goals as goal

pub returns-clause-only : goal.returns-clause-only
returns-clause-only c = only_one

pub returns-clause-exists : goal.returns-clause-exists
returns-clause-exists c = one_exists
