use Rattle.machine_plans.proofs.MendEnds.{repairs_places, moves_places}
use Rattle.machine_plans.proofs.laws.a_repair_ends_on_its_pieces.Goals as goal

pub returns : goal.returns
returns c = record { repair = repairs_places; exit = moves_places }
