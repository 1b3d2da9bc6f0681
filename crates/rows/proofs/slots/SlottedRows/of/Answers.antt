use Rattle.std.proofs.Common.{◌≡◌, [], ◌∷◌, ◌++◌, ap, ◌∙◌, append_assoc}
use Rattle.std.specs.Vec.Iter.{into_iter_items}
use Rattle.rows.specs.Slots.{with_row}
use Rattle.rows.proofs.RisingLemmas.{with_row-end}
use Rattle.rows.proofs.slots.SlottedRows.of.Goals as goal

pub loop-row-preserved : goal.loop-row-preserved
loop-row-preserved g c =
    let next : into_iter_items c.loop-row.row-iterator ≡ c.in-Some.row ∷ into_iter_items c.next.new.self = c.in-Some.ensures.steps.0 in
    let all : c.loop-row.yielded ++ c.in-Some.row ∷ into_iter_items c.next.new.self ≡ c.args.rows.items = rw (← next) c.loop-row.invariant.left in
    let same : c.place.new.self.rows ≡ c.loop-row.yielded = c.in_ok-place.ensures.rows ∙ c.loop-row.invariant.rows in
    record {
      rows = c.put.ensures.rows ∙ ap (λ rows. with_row g.R.Ranked.rank rows c.in-Some.row) same
          ∙ with_row-end g.R.Ranked.rank c.loop-row.yielded c.in-Some.row (into_iter_items c.next.new.self) (rw all c.requires);
      left = append_assoc c.loop-row.yielded (c.in-Some.row ∷ []) (into_iter_items c.next.new.self) ∙ all;
    }
