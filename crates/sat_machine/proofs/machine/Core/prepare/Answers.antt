use Rattle.std.proofs.Common.{◌≡◌, subst, sym}
use Rattle.machine_step.specs.Bounds.{IsValid}
use Rattle.machine_step.specs.Step.{IsWellFormed}
use Rattle.machine_step.specs.Tables.{Tables}
use Rattle.machine_store.specs.Store.{tables_of, ArePlaceable}
use Rattle.sat_machine.proofs.StepLemmas.{placeable_held}
use Rattle.sat_machine.proofs.machine.Core.prepare.Goals as goal

pub place_all-requires-clause-placeable : goal.place_all-requires-clause-placeable
place_all-requires-clause-placeable c =
    let tables = tables_of c.refresh.new.store in
    let same : tables ≡ tables_of c.self.inside.store = c.refresh.ensures.tables in
    let formed = subst (λ m. IsWellFormed m.tables c.args.call.now) (sym c.self.view_is) c.requires.formed in
    subst (λ cs. ArePlaceable tables cs) (sym c.deref.ensures.value)
    (placeable_held tables c.args.call.now c.in_ok-prepared.prepared (subst IsValid (sym same) c.self.invariant.valid)
    (subst (λ (t : Tables). IsWellFormed t c.args.call.now) (sym same) formed) c.in_ok-prepared.ensures)
