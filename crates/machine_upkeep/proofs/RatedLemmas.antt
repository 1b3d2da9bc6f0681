-- The nodes of valid tables are rated.
use Rattle.machine_step.specs.Bounds.{IsValid}
use Rattle.machine_step.specs.Tables.{Tables}
use Rattle.machine_step.proofs.Rated.{rated-facts, rated-found}
use Rattle.machine_upkeep.specs.Rated.{AllRated}

pub all-rated : (t : Tables) → IsValid t → AllRated t.nodes
all-rated t v id node at = rated-facts node (rated-found t.setup t.marks t.nodes 0 id.0 node v.rules.nodes at)
