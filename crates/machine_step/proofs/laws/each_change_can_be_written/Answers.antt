use Rattle.machine_step.proofs.StepLemmas.{writable_step}
use Rattle.machine_step.proofs.laws.each_change_can_be_written.Goals as goal

pub returns : goal.returns
returns c = writable_step
