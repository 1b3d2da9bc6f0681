use Rattle.std.proofs.Common.{ℕ, ◌∷◌, ◌<◌, Option, None, Some, inl, inr, sym, ap, ◌∙◌, subst, arith}
use Rattle.std.proofs.lemmas.Bool.{cases_order}
use Rattle.segment_index.specs.Counting.{HasKey}
use Rattle.segment_index.specs.Keys.{is_key, nodes_of}
use Rattle.segment_index.specs.Pairs.{IsNext}
use Rattle.segment_index.specs.Segments.{segment_at}
use Rattle.segment_index.proofs.Kept.{key_beside}
use Rattle.segment_index.proofs.Walks.{not_between}
use Rattle.segment_index.proofs.refreshing.count_all.Goals as goal

pub count_one-requires-clause-ready : goal.count_one-requires-clause-ready
count_one-requires-clause-ready c = c.loop-next.invariant.ready c.loop-next.id c.loop-next.invariant.low (omega arith) c.loop-next.invariant.here

pub loop-next-preserved : goal.loop-next-preserved
loop-next-preserved c =
    let pairs = c.args.by_node.now.rows in
    let gone = nodes_of c.args.counted.now.rows in
    let rows = c.args.segments.now.rows in
    let at = c.loop-next.id in
    let next = c.in-Some.next in
    let is = subst (λ (n : ℕ). IsNext pairs n at (Some next)) c.from.ensures c.in-Some.ensures in
    let later : at < next = is.0 in
    record {
      low = omega arith;
      here = inr is.1;
      counted = λ healthy id lt.
          elim (cases_order id at) [
            | inl e ↦ subst (λ (n : ℕ). HasKey c.args.limits (c.args.node ∷ gone) rows c.count_one.new.by_need.rows healthy n) (sym e) (c.count_one.ensures.after healthy)
            | inr other ↦
                elim other [
                  | inl before ↦ c.count_one.ensures.others healthy id (λ e. omega (arith, e, before)) ∙ c.loop-next.invariant.counted healthy id before
                  | inr after ↦
                      c.count_one.ensures.others healthy id (λ e. omega (arith, e, after)) ∙ c.loop-next.invariant.rest healthy id (omega (arith, after))
                      ∙ ap (λ (key : Option ℕ). is_key key healthy) (sym (key_beside c.args.limits c.args.node gone (segment_at rows id)
                      (sym (c.requires.by_node c.args.node.0 id) ∙ not_between pairs c.args.node at next id is after lt)))
                ]
          ];
      rest = λ healthy id le. c.count_one.ensures.others healthy id (λ e. omega (arith, e, le, later)) ∙ c.loop-next.invariant.rest healthy id (omega (arith, le, later));
      ready = λ id low le visited. c.count_one.ensures.room id low (λ e. omega (arith, e, le, later)) (c.loop-next.invariant.ready id low (omega (arith, le, later)) visited);
    }

pub returns-in-None : goal.returns-in-None
returns-in-None c =
    let pairs = c.args.by_node.now.rows in
    let gone = nodes_of c.args.counted.now.rows in
    let rows = c.args.segments.now.rows in
    let at = c.loop-next.id in
    let is = subst (λ (n : ℕ). IsNext pairs n at None) c.from.ensures c.in-None.ensures in
    record {
      by_need = λ healthy id.
          elim (cases_order id at) [
            | inl e ↦ subst (λ (n : ℕ). HasKey c.args.limits (c.args.node ∷ gone) rows c.count_one.new.by_need.rows healthy n) (sym e) (c.count_one.ensures.after healthy)
            | inr other ↦
                elim other [
                  | inl before ↦ c.count_one.ensures.others healthy id (λ e. omega (arith, e, before)) ∙ c.loop-next.invariant.counted healthy id before
                  | inr after ↦
                      c.count_one.ensures.others healthy id (λ e. omega (arith, e, after)) ∙ c.loop-next.invariant.rest healthy id (omega (arith, after))
                      ∙ ap (λ (key : Option ℕ). is_key key healthy) (sym (key_beside c.args.limits c.args.node gone (segment_at rows id)
                      (sym (c.requires.by_node c.args.node.0 id) ∙ is id after)))
                ]
          ];
    }
