use Rattle.machine_plans.proofs.Superseded.{superseded_audit, superseded_repair, superseded_move}
use Rattle.machine_plans.proofs.laws.an_end_is_superseded_by_the_version.Goals as goal

pub returns : goal.returns
returns c = record { audit = superseded_audit; repair = superseded_repair; exit = superseded_move }
