use Rattle.gf_linear.proofs.PolynomialLaws.{roots_below}
use Rattle.gf_linear.proofs.laws.few_roots.Goals as goal

pub returns : goal.returns
returns c = roots_below
