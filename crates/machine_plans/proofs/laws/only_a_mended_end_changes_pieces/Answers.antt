use Rattle.machine_plans.proofs.Leaving.{leaves_pieces}
use Rattle.machine_plans.proofs.laws.only_a_mended_end_changes_pieces.Goals as goal

pub returns : goal.returns
returns c = leaves_pieces
