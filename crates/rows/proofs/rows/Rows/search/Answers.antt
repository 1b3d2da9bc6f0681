use Rattle.std.proofs.Common.{rules}
use Rattle.std.proofs.lemmas.List.Sorted.{answers_always}
use Rattle.rows.proofs.Search.{searched}
use Rattle.rows.proofs.rows.Rows.search.Goals as goal

-- the closure gives a row's rank, and the slice is the rows
pub returns : goal.returns
returns g c =
    let facts = c.binary_search_by_key.ensures in
    let by_rank = facts.position g.R.Ranked.rank (answers_always _ _ _ (λ f a r g called. search rules)) in
    rw (← c.self.view_is, ← c.deref.ensures.value) (searched g.R.Ranked.rank _ (rw c.deref.ensures.value c.self.invariant) c.args.k _ facts.bound by_rank)
