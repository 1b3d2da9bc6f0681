use Rattle.std.proofs.Common.{◌≡◌, ℕ, ◌*◌, ◌/◌, List, ap, subst, ◌∙◌}
use Rattle.std.proofs.lemmas.Result.{IfOk-weaker}
use Rattle.placement.specs.Eligible.{Terms, terms}
use Rattle.placement.specs.Placed.{IsPlaced}
use Rattle.machine_step.specs.Calls.PlanRepair.{terms_beside}
use Rattle.machine_step.specs.Places.{subnets_of}
use Rattle.machine_store.specs.Store.{tables_of}
use Rattle.machine_upkeep.proofs.BesideLemmas.{placed-ids}
use Rattle.machine_upkeep.proofs.beside.beside.Goals as goal

pub returns-clause-ids : goal.returns-clause-ids
returns-clause-ids c =
    let t = tables_of c.args.store.now in
    let fresh = c.args.need * t.setup.fresh / 100 in
    let at : List ℕ → ℕ → Terms = λ taken len. terms t.nodes t.setup.vet taken len c.args.words.now in
    let taken : c.as_slice.result.now ≡ subnets_of t.nodes c.args.sources.now = c.as_slice.ensures.value ∙ c.in_ok-taken.ensures in
    let same : at c.as_slice.result.now c.piece_len-piece_len.result ≡ terms_beside t c.args.sources.now c.args.len c.args.words.now
    = ap (λ (xs : List ℕ). at xs c.piece_len-piece_len.result) taken ∙ ap (at (subnets_of t.nodes c.args.sources.now)) c.piece_len-piece_len.ensures in
    IfOk-weaker c.place.result _ _ (λ ids placed. placed-ids (terms_beside t c.args.sources.now c.args.len c.args.words.now) c.args.need fresh ids (subst (λ (ts : Terms). IsPlaced ts c.args.need fresh ids) same placed)) c.place.ensures.placed
