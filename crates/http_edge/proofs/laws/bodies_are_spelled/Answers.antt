use Rattle.std.proofs.Common.{refl}
use Rattle.std.specs.Fmt.{digits}
use Rattle.serde_json.proofs.OnLiterals.{serde_json_on_literals}
use Rattle.http_edge.proofs.laws.bodies_are_spelled.Goals as goal

pub returns : goal.returns
unfolding serde_json_on_literals digits
returns c = record {
  settled = λ amount. refl;
  late = λ until. refl;
  few = λ have need. refl;
  field = refl;
}
