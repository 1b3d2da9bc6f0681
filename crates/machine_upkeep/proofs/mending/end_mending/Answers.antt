use Rattle.std.proofs.Common.{◌≡◌, Some, option_copied, ap, sym, ◌∙◌, rules}
use Rattle.machine_step.specs.Tables.{segment_at}
use Rattle.machine_store.specs.Store.{tables_of}
use Rattle.machine_upkeep.proofs.MendLemmas.{can_mend}
use Rattle.machine_upkeep.proofs.mending.end_mending.Goals as goal

pub repair_ended-requires-clause-by_index : goal.repair_ended-requires-clause-by_index
repair_ended-requires-clause-by_index c =
    let at : segment_at c.args.store.now.segments.rows c.plan_of-plan.result.now.segment.0 ≡ Some c.in-Some.found.now = search rules in
    (can_mend (tables_of c.args.store.now) (option_copied c.args.opened) c.args.outcome.now c.plan_of-plan.result.now c.in-Mended.mended c.in-Some.found.now c.requires.can c.in-Mended.is c.plan_of-plan.ensures
    (sym c.is_open.ensures ∙ c.if-not-is_open.false) at (sym (ap (λ s. s.version) c.found.view_is) ∙ c.if-found-planned.false)).0

pub repair_ended-requires-clause-version : goal.repair_ended-requires-clause-version
repair_ended-requires-clause-version c =
    let at : segment_at c.args.store.now.segments.rows c.plan_of-plan.result.now.segment.0 ≡ Some c.in-Some.found.now = search rules in
    (can_mend (tables_of c.args.store.now) (option_copied c.args.opened) c.args.outcome.now c.plan_of-plan.result.now c.in-Mended.mended c.in-Some.found.now c.requires.can c.in-Mended.is c.plan_of-plan.ensures
    (sym c.is_open.ensures ∙ c.if-not-is_open.false) at (sym (ap (λ s. s.version) c.found.view_is) ∙ c.if-found-planned.false)).1
