use Rattle.std.proofs.Common.{◌≡◌, [], ◌∷◌, ◌++◌, ap, sym, subst, ◌∙◌, append_assoc}
use Rattle.std.specs.Vec.Iter.{into_iter_items}
use Rattle.rows.specs.Rows.{IsRising}
use Rattle.settlement.specs.Rows.{key, row_of, added}
use Rattle.machine_store.proofs.OpeningLemmas.{added_last, absent_last}
use Rattle.machine_store.proofs.tables.settled_table.Goals as goal

pub add-requires-clause-absent : goal.add-requires-clause-absent
add-requires-clause-absent c =
    let next : into_iter_items c.loop-row.row-iterator ≡ c.in-Some.row ∷ into_iter_items c.next.new.self = c.in-Some.ensures.steps.0 in
    let all : c.loop-row.yielded ++ c.in-Some.row ∷ into_iter_items c.next.new.self ≡ c.args.rows.items = rw (← next) c.loop-row.invariant.left in
    let same : c.reserve.new.self.rows ≡ c.loop-row.yielded = c.in_ok-reserve.ensures.rows ∙ c.loop-row.invariant.rows in
    ap (λ rows. row_of rows (key c.in-Some.row)) same
    ∙ absent_last key c.loop-row.yielded c.in-Some.row (into_iter_items c.next.new.self) (subst (IsRising key) (sym all) c.requires.rising)

pub loop-row-preserved : goal.loop-row-preserved
loop-row-preserved c =
    let next : into_iter_items c.loop-row.row-iterator ≡ c.in-Some.row ∷ into_iter_items c.next.new.self = c.in-Some.ensures.steps.0 in
    let all : c.loop-row.yielded ++ c.in-Some.row ∷ into_iter_items c.next.new.self ≡ c.args.rows.items = rw (← next) c.loop-row.invariant.left in
    let same : c.reserve.new.self.rows ≡ c.loop-row.yielded = c.in_ok-reserve.ensures.rows ∙ c.loop-row.invariant.rows in
    record {
      rows = c.add.ensures.rows ∙ ap (λ rows. added c.in-Some.row rows) same
          ∙ added_last key c.loop-row.yielded c.in-Some.row (into_iter_items c.next.new.self) (subst (IsRising key) (sym all) c.requires.rising);
      cap = c.add.ensures.cap ∙ c.in_ok-reserve.ensures.cap ∙ c.loop-row.invariant.cap;
      left = append_assoc c.loop-row.yielded (c.in-Some.row ∷ []) (into_iter_items c.next.new.self) ∙ all;
    }
