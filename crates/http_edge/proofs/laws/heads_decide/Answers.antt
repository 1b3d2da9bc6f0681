use Rattle.http_edge.proofs.HeadLaws.{head_decides, one_answer}
use Rattle.http_edge.proofs.laws.heads_decide.Goals as goal

pub returns : goal.returns
returns c = record {
  behind = λ secret bytes h rest said at says. head_decides secret bytes h rest at said says;
  one = λ secret bytes h rest a b at x y. one_answer secret bytes h rest at a b x y;
}
