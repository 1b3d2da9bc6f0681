use Rattle.node_rounds.proofs.Keeping.{move_named, repair_named}
use Rattle.node_rounds.proofs.laws.a_repair_of_a_round_keeps_the_bytes.Goals as goal

pub returns : goal.returns
returns c = record { repair = repair_named; exit = move_named }
