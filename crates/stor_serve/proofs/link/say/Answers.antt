use Rattle.std.proofs.Common.{refl, inr}
use Rattle.stor_wire.specs.declared.answers.Answer.TheVariants as answers
use Rattle.stor_serve.proofs.LinkLemmas.{said_wrote}
use Rattle.stor_serve.proofs.link.say.Goals as goal

pub returns-in-Err : goal.returns-in-Err
returns-in-Err g c = record {
  said = answers.NoMemory;
  is_said = inr refl;
  status_is = c.status-in-Err.ensures;
  wrote = said_wrote _ _ _ _ _ _ c.memory_answer.ensures c.is_sent-in-Err.ensures c.send-in-Err.ensures;
}
