use Rattle.node_rounds.proofs.Rechecked.{says_of_held, silent_rose}
use Rattle.node_rounds.proofs.laws.a_recheck_says_what_is_held.Goals as goal

pub returns : goal.returns
returns c = record { held = says_of_held; silent = silent_rose }
