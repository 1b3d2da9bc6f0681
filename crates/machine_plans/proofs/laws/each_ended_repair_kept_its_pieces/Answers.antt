use Rattle.machine_plans.proofs.MendEnds.{each_repair, each_move}
use Rattle.machine_plans.proofs.laws.each_ended_repair_kept_its_pieces.Goals as goal

pub returns : goal.returns
returns c = record { repair = each_repair; exit = each_move }
