use Rattle.std.proofs.Common.{◌∙◌, ap}
use Rattle.http_parts.specs.Messages.{message}
use Rattle.stor_wire.proofs.answers.kept_answer.Goals as goal

pub returns : goal.returns
returns c = c.in_ok-message_of.ensures ∙ ap (message 200) c.in_ok-value.ensures
