use Rattle.std.proofs.Common.{rules, List, [], ◌≡◌, ◌∷◌, ◌++◌, ◌∙◌, append_assoc, length-append, count_by, arith, sym, subst, ap}
use Rattle.std.specs.List.{AllZip}
use Rattle.std.specs.Vec.Iter.{into_iter_items}
use Rattle.std.proofs.lemmas.Slice.Zip.{all_zipped_more}
use Rattle.sat_base.specs.declared.nodes.Fetched.{Fetched}
use Rattle.sat_base.specs.Nodes.{is_out_of_memory}
use Rattle.gather.specs.Rounds.{HeardAt, TakenFrom}
use Rattle.gather.proofs.CountLemmas.{count_none}
use Rattle.gather.proofs.tokio_nodes.answers_of.Goals as goal

pub loop-one-preserved : goal.loop-one-preserved
loop-one-preserved c =
    let before = c.loop-one.invariant in
    let yielded = c.loop-one.yielded in
    let one = c.in-Some.one in
    let answers = c.loop-one.answers.items in
    let answer = c.answer_of-answer.result in
    let pushed = c.push_reserved.ensures.items in
    let stepped : into_iter_items c.loop-one.one-iterator ≡ one ∷ into_iter_items c.next.new.self = search rules in
    record {
      each = subst (λ (all : List Fetched). AllZip TakenFrom (yielded ++ one ∷ []) all) (sym pushed)
          (all_zipped_more TakenFrom yielded answers one answer before.each c.answer_of-answer.ensures);
      none = ap (λ (all : List Fetched). count_by is_out_of_memory all) pushed ∙ count_none is_out_of_memory answers answer before.none (sym c.is_memory.ensures ∙ c.if-is_memory.false);
      split = append_assoc yielded (one ∷ []) (into_iter_items c.next.new.self) ∙ ap (λ (rest : List HeardAt). yielded ++ rest) (sym stepped) ∙ before.split;
      made = omega (arith, c.push_reserved.ensures.len, before.made, length-append yielded (one ∷ []));
      room = c.push_reserved.ensures.capacity ∙ before.room;
    }
