use Rattle.std.proofs.Common.{◌≤◌, [], map, sym, ap, subst, ◌∙◌, IfOk}
use Rattle.placement.specs.Eligible.{terms, subnet_count}
use Rattle.placement.specs.Placed.{id_of, IsPlaced}
use Rattle.machine_step.specs.Calls.Begin.{terms_for, fresh_of}
use Rattle.machine_step.proofs.PickLemmas.{picks-only}
use Rattle.machine_store.specs.Prepared.{Holds}
use Rattle.machine_store.specs.Store.{tables_of}
use Rattle.machine_requests.proofs.CaseLemmas.{enough-placed}
use Rattle.machine_requests.proofs.begin.begin_placed.Goals as goal

pub begun-requires-clause-ids : goal.begun-requires-clause-ids
begun-requires-clause-ids c =
    let t = tables_of c.args.store.now in
    let placed = subst (λ p. IsPlaced (terms t.nodes t.setup.vet [] p c.args.words.now) t.setup.n (fresh_of t.setup) c.in-Ok.ids) c.piece_len-piece_len.ensures c.in-Ok.ensures.placed in
    c.as_slice.ensures ∙ placed.named ∙ sym (ap (map id_of) (picks-only (terms_for t c.args.len c.args.words.now) t.setup.n (fresh_of t.setup) placed.picks placed.are_picks))

pub returns-in-Ok : goal.returns-in-Ok
returns-in-Ok c =
    let t = tables_of c.args.store.now in
    let enough = subst (λ p. t.setup.n ≤ subnet_count (terms t.nodes t.setup.vet [] p c.args.words.now)) c.piece_len-piece_len.ensures c.in-Ok.ensures.enough in
    subst (λ o. IfOk c.begun.result (λ p. Holds p o)) (sym (enough-placed t c.args.asking.now c.args.len c.args.words.now enough)) c.begun.ensures
