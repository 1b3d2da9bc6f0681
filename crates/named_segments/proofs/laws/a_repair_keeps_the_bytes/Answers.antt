use Rattle.named_segments.proofs.Repaired.{move_keeps, repair_keeps}
use Rattle.named_segments.proofs.laws.a_repair_keeps_the_bytes.Goals as goal

pub returns : goal.returns
returns c = record { repair = repair_keeps; exit = move_keeps }
