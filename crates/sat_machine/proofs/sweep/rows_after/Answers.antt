use Rattle.std.proofs.Common.{◌≡◌, ◌∷◌, [], ◌++◌, ◌∙◌, take, subst, sym}
use Rattle.std.proofs.lemmas.List.{take_more}
use Rattle.machine_step.specs.Tables.{all_changed}
use Rattle.machine_store.specs.Store.{tables_of}
use Rattle.sat_machine.proofs.SweepLemmas.{rows-more}
use Rattle.sat_machine.proofs.sweep.rows_after.Goals as goal

pub loop-change-preserved : goal.loop-change-preserved
loop-change-preserved c =
    let t = tables_of c.args.store.now in
    let so_far = take c.loop-change.change-index c.args.changes.now in
    let more = rows-more t so_far c.change-item.result _ c.loop-change.invariant in
    subst (λ cs. c.change_row.new.rows.rows ≡ (all_changed t cs).containments) (sym (take_more c.args.changes.now c.loop-change.change-index c.change-item.result c.loop-change-test.true))
    (subst (λ x. c.change_row.new.rows.rows ≡ (all_changed t (so_far ++ x ∷ [])).containments) c.change-item.is (c.in_ok-change_row.ensures ∙ more))
