use Rattle.std.proofs.Common.{◌≡◌, take}
use Rattle.std.specs.Prelude.{filter}
use Rattle.machine_step.specs.Mending.{is_kept}
use Rattle.machine_upkeep.proofs.mending.kept_sources.Given as goal

abbrev pub invariant-loop-source : goal.invariant-loop-source
invariant-loop-source l = l.kept.items ≡ filter (is_kept l.mended) (take l.source-index l.mended.plan.sources)
