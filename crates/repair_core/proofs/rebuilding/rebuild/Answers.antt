use Rattle.std.proofs.Common.{◌≡◌, ◌<◌, ℕ, List, Ok, Err, refl}
use Rattle.std.specs.Prelude.{IfErr, Result}
use Rattle.sat_base.specs.declared.items.Share.{Share}
use Rattle.repair_core.specs.declared.rebuilt.Rebuilt.{Rebuilt}
use Rattle.repair_core.specs.declared.rebuilt.RebuildErr.{RebuildErr}
use Rattle.repair_core.specs.declared.rebuilt.RebuildErr.TheVariants.{Few, Unclear, NoMemory}
use Rattle.repair_core.specs.Answers.{answers_at}
use Rattle.repair_core.specs.Stripes.{HasNear}
use Rattle.repair_core.specs.Refusals.{IsRefusal}
use Rattle.repair_core.proofs.rebuilding.rebuild.Goals as goal

only_memory : (k size count : ℕ) (pieces : List Share) (result : Result Rebuilt RebuildErr) → IfErr result (IsRefusal k size count pieces)
    → ((s : ℕ) → s < count → HasNear k size (answers_at size count s pieces)) → IfErr result (λ err. err ≡ NoMemory)
only_memory k size count pieces (Ok made) refused near = tt
only_memory k size count pieces (Err (Few answered)) refused near = absurd refused
only_memory k size count pieces (Err (Unclear s)) refused near =
    let (stripe, is) = near s refused.within in absurd (refused.none stripe is)
only_memory k size count pieces (Err NoMemory) refused near = refl

pub returns-clause-complete : goal.returns-clause-complete
returns-clause-complete c = λ enough near.
    only_memory _ _ _ c.args.pieces.now c.rebuild_stripes.result c.rebuild_stripes.ensures.refused near
