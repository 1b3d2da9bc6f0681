use Rattle.machine_step.proofs.Replies.{step_answered, step_made}
use Rattle.machine_step.proofs.laws.each_step_is_answered.Goals as goal

pub returns : goal.returns
returns c = record { told = step_answered; made = step_made }
