use Rattle.askable_plans.proofs.Moves.{move_askable}
use Rattle.askable_plans.proofs.laws.a_planned_move_can_be_asked.Goals as goal

pub returns : goal.returns
returns c = move_askable
