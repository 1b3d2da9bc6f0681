-- How a repair is planned, by the nodes that were picked for it.
use Rattle.std.proofs.Common.{◌≡◌, ℕ, ◌-◌, ◌*◌, ◌/◌, Bool, true, false, List, length, sym, ap, ◌∙◌, min, arith}
use Rattle.std.specs.Prelude.{◌==◌}
use Rattle.sat_base.specs.declared.ids.NodeId.{NodeId}
use Rattle.sat_base.specs.declared.records.At.{At}
use Rattle.segment_core.specs.Record.{SegmentRecord}
use Rattle.machine_calls.specs.declared.refusal.Refusal.TheVariants as refusals
use Rattle.machine_step.specs.Bounds.{IsValid}
use Rattle.machine_step.specs.Calls.PlanRepair.{terms_beside, free_indexes, paired, repair_of, repair_planned, repair_counted}
use Rattle.machine_step.specs.Health.{healthy_of}
use Rattle.machine_step.specs.Outcome.{refused, unless}
use Rattle.machine_step.specs.Tables.{Tables}
use Rattle.machine_upkeep.specs.Beside.{ids_beside, subnets_beside, nodes_wanted}
use Rattle.machine_upkeep.proofs.BesideLemmas.{number-ids}
use Rattle.machine_upkeep.proofs.FreshLemmas.{fresh-few}

-- the nodes were picked for the healthy pieces, in slices and under names of their own
pub record ArePicked (t : Tables) (words : List ℕ) (segment : SegmentRecord) (sources slice : List At) (len wanted : ℕ) (ids : List NodeId) : Type 0 where
  pub healthy : sources ≡ healthy_of t segment
  pub same : slice ≡ sources
  pub long : len ≡ segment.len
  pub want : wanted ≡ t.setup.o - length sources
  pub are : ids ≡ ids_beside t slice len words (min wanted (subnets_beside t slice len words))

module _ (t : Tables) (v : IsValid t) (time : ℕ) (words : List ℕ) (segment : SegmentRecord) (sources slice : List At) (len wanted : ℕ) (ids : List NodeId) (picked : ArePicked t words segment sources slice len wanted ids) where
  abbrev need : ℕ
  need = nodes_wanted t words segment

  are-ids : ids ≡ ids_beside t (healthy_of t segment) segment.len words need
  are-ids =
      let own : slice ≡ healthy_of t segment = picked.same ∙ picked.healthy in
      let want : wanted ≡ t.setup.o - length (healthy_of t segment) = picked.want ∙ ap (λ (xs : List At). t.setup.o - length xs) picked.healthy in
      picked.are
      ∙ ap (λ (xs : List At). ids_beside t xs len words (min wanted (subnets_beside t xs len words))) own
      ∙ ap (λ (l : ℕ). ids_beside t (healthy_of t segment) l words (min wanted (subnets_beside t (healthy_of t segment) l words))) picked.long
      ∙ ap (λ (w : ℕ). ids_beside t (healthy_of t segment) segment.len words (min w (subnets_beside t (healthy_of t segment) segment.len words))) want

  number : length ids ≡ need
  number = ap length are-ids ∙ number-ids (terms_beside t (healthy_of t segment) segment.len words) need (need * t.setup.fresh / 100) (fresh-few need t.setup.fresh v.bounds.setup.fresh) (omega arith)

  by-number : (b : Bool) → (length ids == 0) ≡ b
      → repair_counted t time words segment (healthy_of t segment) need
      ≡ unless b (refusals.Few 0) (repair_planned t time (repair_of t time segment sources (paired (free_indexes t.setup.n sources) ids)))
  by-number b is =
      ap (λ (k : ℕ). unless (k == 0) (refusals.Few 0) (repair_planned t time (repair_of t time segment (healthy_of t segment) (paired (free_indexes t.setup.n (healthy_of t segment)) (ids_beside t (healthy_of t segment) segment.len words need))))) (sym number)
      ∙ ap (λ (c : Bool). unless c (refusals.Few 0) (repair_planned t time (repair_of t time segment (healthy_of t segment) (paired (free_indexes t.setup.n (healthy_of t segment)) (ids_beside t (healthy_of t segment) segment.len words need))))) is
      ∙ ap (λ (xs : List NodeId). unless b (refusals.Few 0) (repair_planned t time (repair_of t time segment (healthy_of t segment) (paired (free_indexes t.setup.n (healthy_of t segment)) xs)))) (sym are-ids)
      ∙ ap (λ (ss : List At). unless b (refusals.Few 0) (repair_planned t time (repair_of t time segment ss (paired (free_indexes t.setup.n ss) ids)))) (sym picked.healthy)

  pub counted-none : (length ids == 0) ≡ true → refused (refusals.Few 0) ≡ repair_counted t time words segment (healthy_of t segment) (nodes_wanted t words segment)
  counted-none is = sym (by-number true is)

  pub counted-some : (length ids == 0) ≡ false → repair_planned t time (repair_of t time segment sources (paired (free_indexes t.setup.n sources) ids)) ≡ repair_counted t time words segment (healthy_of t segment) (nodes_wanted t words segment)
  counted-some is = sym (by-number false is)
