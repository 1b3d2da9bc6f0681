use Rattle.std.proofs.Common.{◌≡◌, ◌∷◌, [], ◌++◌, ◌∙◌, take, subst, sym}
use Rattle.std.proofs.lemmas.List.{take_more}
use Rattle.std.specs.Prelude.{option_copied}
use Rattle.node_registry.specs.Registry.{node_at}
use Rattle.machine_step.specs.Tables.{all_changed}
use Rattle.machine_store.specs.Store.{tables_of}
use Rattle.sat_machine.proofs.SweepLemmas.{node-more}
use Rattle.sat_machine.proofs.sweep.node_after.Goals as goal

pub loop-change-preserved : goal.loop-change-preserved
loop-change-preserved c =
    let t = tables_of c.args.store.now in
    let so_far = take c.loop-change.change-index c.args.changes.now in
    let more = node-more t so_far c.change-item.result c.args.id _ c.loop-change.invariant in
    subst (λ cs. option_copied c.node_by-found.result ≡ node_at (all_changed t cs).nodes c.args.id) (sym (take_more c.args.changes.now c.loop-change.change-index c.change-item.result c.loop-change-test.true))
    (subst (λ x. option_copied c.node_by-found.result ≡ node_at (all_changed t (so_far ++ x ∷ [])).nodes c.args.id) c.change-item.is (c.node_by-found.ensures ∙ more))
