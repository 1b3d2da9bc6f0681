use Rattle.std.proofs.Common.{rules, ◌≡◌, ◌+◌, ◌<◌, ℕ, true, false, length, slice_set, slice_index_or, sym, ◌∙◌, arith, MatchBool, subst, ◌≤◌, inl, inr}
use Rattle.std.proofs.lemmas.Bool.{cases_Bool}
use Rattle.std.proofs.lemmas.List.Elements.{All-from_get_or}
use Rattle.std.proofs.lemmas.List.{get_or_default}
use Rattle.futures.specs.Task.{Covers, Keeps, IsArmed, Hears, armed, hears}
use Rattle.gather.specs.Gathered.{IsDone, IsWaiting, MayGive, Waits, AnyWaits}
use Rattle.gather.proofs.PartLemmas.{each_set, some_set, one_set, resumes_set, heard_part}
use Rattle.gather.proofs.gather.advance_all.Goals as goal
use Rattle.gather.proofs.gather.advance_all.Goals.{then-not-advance, else-not-advance}

pub loop-at-preserved : goal.loop-at-preserved
loop-at-preserved g c =
    let before = c.loop-at.invariant in
    let xs = c.loop-at.parts.items in
    let i = c.loop-at.at in
    let y = c.advance.new.self in
    let fits : i < length xs = search rules in (
      search rules,
      resumes_set (MayGive g.F.Future.gives) _ xs i y fits (λ d x h. subst (λ p. MayGive g.F.Future.gives p x) (c.index_mut.ensures.value ∙ get_or_default xs i _ d fits) (c.advance.ensures.same x h)) before.1,
      search rules,
      search rules,
      elim c.if-not-advance.branch [
        | then-not-advance w ↦ λ up. absurd cc
        | else-not-advance w ↦ λ up.
            let r : c.advance.result ≡ true = cc in
            let was : c.loop-at.done ≡ true = cc in
            each_set IsDone xs i y fits (rw r at c.advance.ensures.answer) (before.4 was)
      ],
      elim c.if-not-advance.branch [
        | then-not-advance w ↦ λ down.
            let r : c.advance.result ≡ false = cc in
            let here = rw r at c.advance.ensures.answer in
            (here.1.0, one_set IsWaiting xs i y fits here.0)
        | else-not-advance w ↦ λ down.
            let was : c.loop-at.done ≡ false = cc in
            (c.advance.ensures.kept armed (before.5 was).0, some_set IsWaiting xs i y (before.5 was).1)
      ],
      λ k d s below. each_set (λ p. Waits g.F.Future.needs p s → Hears c.advance.new.cx s) xs i y fits (λ w. heard_part g.F.Future.needs c.advance.new.cx y c.advance.result s c.advance.ensures.answer w) (λ j e less w. c.advance.ensures.kept (hears s) (before.6 j e s less w)) k d below,
    )

pub returns-clause-answer : goal.returns-clause-answer
returns-clause-answer g c =
    let kept = c.loop-at.invariant in
    let whole : length c.loop-at.parts.items ≤ c.loop-at.at = search rules in
    let upto : c.loop-at.at ≤ length c.loop-at.parts.items = search rules in
    elim (cases_Bool c.loop-at.done) [
      | inl t ↦ rw t (λ k d below. kept.4 t k d (omega (arith, below, whole)))
      | inr f ↦
          let down = kept.5 f in
          rw f ((down.1.0, omega (arith, down.1.1, upto), down.1.2), (down.0, λ s w. kept.6 w.0 w.1 s (omega (arith, w.2, whole)) w.3))
    ]
