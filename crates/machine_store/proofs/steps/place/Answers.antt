use Rattle.std.proofs.Common.{refl}
use Rattle.machine_store.proofs.StoreLemmas.{kept-beside, on_ok}
use Rattle.machine_store.proofs.steps.place.Goals as goal

pub returns-in-Node-clause-keeps : goal.returns-in-Node-clause-keeps
returns-in-Node-clause-keeps c =
    on_ok c.place_node.result (kept-beside c.args.store.now c.place_node.new.nodes c.args.store.now.segments refl c.place_node.ensures.keeps (λ segment placed. placed))
