use Rattle.std.proofs.Common.{◌≡◌, ◌/◌, ◌≤◌, Err, ap, sym, ◌∙◌, arith}
use Rattle.std.specs.Option.{option_map}
use Rattle.placement.specs.Placed.{id_of}
use Rattle.placement.specs.declared.placing.PlaceErr.{PlaceErr}
use Rattle.placement.specs.declared.placing.PlaceErr.TheVariants as causes
use Rattle.machine_step.specs.Calls.PlanRepair.{terms_beside}
use Rattle.machine_store.specs.Store.{tables_of}
use Rattle.machine_upkeep.specs.Beside.{subnets_beside}
use Rattle.machine_upkeep.proofs.BesideLemmas.{none-picked}
use Rattle.machine_upkeep.proofs.plan_exit.node_for.Goals as goal

pub returns-in-Err-Few : goal.returns-in-Err-Few
returns-in-Err-Few c =
    let t = tables_of c.args.store.now in
    let chosen = c.in-Err-Few.field-0-0 in
    let is : c.beside.result ≡ Err (causes.Few chosen) = c.in-Err-Few.is ∙ ap (λ (e : PlaceErr). Err e) c.in-Err-Few.field-0-is in
    let all = c.beside.ensures.few chosen is in
    let below = c.beside.ensures.wanting chosen is in
    let few : t.setup.fresh / 100 ≤ 1 = omega (arith, c.requires.valid.bounds.setup.fresh) in
    let none : subnets_beside t c.args.sources.now c.args.len c.args.words.now ≡ 0 = omega (arith, all, below) in
    sym (ap (option_map id_of) (none-picked (terms_beside t c.args.sources.now c.args.len c.args.words.now) (t.setup.fresh / 100) few none))
