use Rattle.std.proofs.Common.{◌≡◌, ◌+◌, true, ◌∷◌, length, reverse, ap, subst, sym, ◌∙◌, arith}
use Rattle.std.specs.List.{list_all}
use Rattle.std.proofs.lemmas.Bool.{and_parts}
use Rattle.machine_step.specs.Tables.{all_changed}
use Rattle.machine_store.specs.Store.{tables_of, ArePlaced, spares, are_orderly}
use Rattle.machine_store.proofs.StoreLemmas.{placed-spared, reverse-last, length-last}
use Rattle.machine_store.proofs.steps.change_all.Goals as goal

pub loop-first-preserved : goal.loop-first-preserved
loop-first-preserved c =
    let turned : reverse c.loop-first.rest.items ≡ c.in-Some.first ∷ reverse c.pop.new.self.items = ap reverse c.in-Some.ensures.items ∙ reverse-last c.pop.new.self.items c.in-Some.first in
    let placed = subst (λ cs. ArePlaced c.loop-first.store cs) turned c.loop-first.invariant.placed in
    let orderly : are_orderly (c.in-Some.first ∷ reverse c.pop.new.self.items) ≡ true = ap are_orderly (sym turned) ∙ c.loop-first.invariant.orderly in
    let parts = and_parts (list_all (spares c.in-Some.first) (reverse c.pop.new.self.items)) (are_orderly (reverse c.pop.new.self.items)) orderly in
    let fewer : length c.loop-first.rest.items ≡ length c.pop.new.self.items + 1 = ap length c.in-Some.ensures.items ∙ length-last c.pop.new.self.items c.in-Some.first in
    record {
      losses = omega (arith, fewer, c.loop-first.invariant.losses, c.change.ensures.losses);
      placed = placed-spared c.loop-first.store c.change.new.store c.in-Some.first (reverse c.pop.new.self.items) c.change.ensures.keeps parts.0 placed.1;
      orderly = parts.1;
      own = c.change.ensures.own;
      leads = ap (λ t. all_changed t (reverse c.pop.new.self.items)) c.change.ensures.tables ∙ sym (ap (λ cs. all_changed (tables_of c.loop-first.store) cs) turned) ∙ c.loop-first.invariant.leads;
    }

pub change-requires-clause-losses : goal.change-requires-clause-losses
change-requires-clause-losses c =
    let fewer : length c.loop-first.rest.items ≡ length c.pop.new.self.items + 1 = ap length c.in-Some.ensures.items ∙ length-last c.pop.new.self.items c.in-Some.first in
    omega (arith, fewer, c.loop-first.invariant.losses)
