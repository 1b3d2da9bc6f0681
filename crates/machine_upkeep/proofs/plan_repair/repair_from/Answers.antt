use Rattle.std.proofs.Common.{ap, sym, subst, ◌∙◌, IfOk, rules}
use Rattle.machine_step.specs.Calls.PlanRepair.{free_indexes, paired, repair_of, repair_planned}
use Rattle.machine_store.specs.Prepared.{Holds}
use Rattle.machine_store.specs.Store.{tables_of}
use Rattle.machine_upkeep.proofs.CountedLemmas.{ArePicked, counted-none, counted-some}
use Rattle.machine_upkeep.proofs.plan_repair.repair_from.Goals as goal

pub returns-then-is_empty : goal.returns-then-is_empty
returns-then-is_empty c =
    let t = tables_of c.args.store.now in
    let picked : ArePicked t c.args.words.now c.args.segment.now c.in_ok-sources.sources c.as_slice.result.now c.segment.inside.len c.saturating_sub-wanted.result c.in_ok-ids.ids
    = record {
      healthy = c.in_ok-sources.ensures.pieces;
      same = c.as_slice.ensures;
      long = ap (λ s. s.len) c.segment.view_is;
      want = search rules;
      are = c.in_ok-ids.ensures;
    } in
    subst (Holds c.refused.result) (counted-none t c.requires.valid c.args.time c.args.words.now c.args.segment.now c.in_ok-sources.sources c.as_slice.result.now c.segment.inside.len c.saturating_sub-wanted.result c.in_ok-ids.ids picked
    (sym c.is_empty.ensures ∙ c.if-is_empty.true)) c.refused.ensures

pub returns : goal.returns
returns c =
    let t = tables_of c.args.store.now in
    let picked : ArePicked t c.args.words.now c.args.segment.now c.in_ok-sources.sources c.as_slice.result.now c.segment.inside.len c.saturating_sub-wanted.result c.in_ok-ids.ids
    = record {
      healthy = c.in_ok-sources.ensures.pieces;
      same = c.as_slice.ensures;
      long = ap (λ s. s.len) c.segment.view_is;
      want = search rules;
      are = c.in_ok-ids.ensures;
    } in
    subst (λ o. IfOk c.repair_to.result (λ p. Holds p o)) (counted-some t c.requires.valid c.args.time c.args.words.now c.args.segment.now c.in_ok-sources.sources c.as_slice.result.now c.segment.inside.len c.saturating_sub-wanted.result c.in_ok-ids.ids picked
    (sym c.is_empty.ensures ∙ c.if-is_empty.false))
    (subst (λ ids. IfOk c.repair_to.result (λ p. Holds p (repair_planned t c.args.time (repair_of t c.args.time c.args.segment.now c.in_ok-sources.sources (paired (free_indexes t.setup.n c.in_ok-sources.sources) ids))))) c.as_slice-2.ensures c.repair_to.ensures)
