use Rattle.std.proofs.Common.{◌≡◌, ◌<◌, ℕ, List, subst, sym, ap, ◌∙◌}
use Rattle.std.specs.Prelude.{All}
use Rattle.sat_base.specs.declared.items.Share.{Share}
use Rattle.bw_decode.specs.Altered.{indexes_of}
use Rattle.bw_decode.specs.Near.{Rises}
use Rattle.audit_core.specs.Heard.{answers_of, missing_of, silent_of, heard_indexes, place_indexes}
use Rattle.audit_core.specs.Verdict.{IsVerdict, NamesEach, silent_indexes}
use Rattle.audit_core.proofs.Parts.{answers_rise, missing_rise, silent_rise, all_answers, all_silent, each_once}
use Rattle.audit_core.proofs.judging.judge.Goals as goal

pub decide-requires-clause-rising : goal.decide-requires-clause-rising
decide-requires-clause-rising c =
    subst (λ (answers : List Share). Rises (indexes_of answers)) (sym (c.as_slice.ensures.value ∙ c.in-Ok.ensures.answers))
    (answers_rise c.args.heard (subst Rises (sym c.requires.heard) c.requires.rising))

pub decide-requires-clause-below : goal.decide-requires-clause-below
decide-requires-clause-below c =
    let P : ℕ → Type 0 = λ index. index < c.args.scheme.now.n in
    subst (λ (answers : List Share). All P (indexes_of answers)) (sym (c.as_slice.ensures.value ∙ c.in-Ok.ensures.answers))
    (all_answers P c.args.heard (subst (λ (indexes : List ℕ). All P indexes) (sym c.requires.heard) c.requires.below))

pub decide-requires-clause-silent_below : goal.decide-requires-clause-silent_below
decide-requires-clause-silent_below c =
    let P : ℕ → Type 0 = λ index. index < c.args.scheme.now.n in
    subst (λ (indexes : List ℕ). All P indexes) (sym (c.as_slice-silent.ensures.value ∙ c.in-Ok.ensures.silent))
    (all_silent P c.args.heard (subst (λ (indexes : List ℕ). All P indexes) (sym c.requires.heard) c.requires.below))

pub invariant_of-result : goal.invariant_of-result
invariant_of-result c =
    let heard = c.args.heard in
    let rises : Rises (heard_indexes heard) = subst Rises (sym c.requires.heard) c.requires.rising in
    let answers : c.of.result ≡ answers_of heard = c.of.ensures ∙ c.in-Ok.ensures.answers in
    let missing : c.of-2.result ≡ missing_of heard = c.of-2.ensures ∙ c.in-Ok.ensures.missing in
    let silent : silent_indexes c.in-Ok-decide.decided.0 ≡ silent_of heard
    = c.in-Ok-decide.ensures.silent ∙ c.as_slice-silent.ensures.value ∙ c.in-Ok.ensures.silent in
    let named : NamesEach (place_indexes c.args.plan.asked) (indexes_of c.of.result) c.of-2.result (silent_indexes c.in-Ok-decide.decided.0)
    = rw (answers, missing, silent, ← c.requires.heard) (each_once heard c.requires.heard_of) in
    let decided : IsVerdict c.args.scheme.now.k c.args.scheme.now.share c.of.result c.in-Ok-decide.decided.0 c.in-Ok-decide.decided.1
    = subst (λ (xs : List Share). IsVerdict c.args.scheme.now.k c.args.scheme.now.share xs c.in-Ok-decide.decided.0 c.in-Ok-decide.decided.1)
    (c.as_slice.ensures.value ∙ sym c.of.ensures) c.in-Ok-decide.ensures.verdict in
    record {
      answers_rise = subst (λ (xs : List Share). Rises (indexes_of xs)) (sym answers) (answers_rise heard rises);
      missing_rise = subst Rises (sym missing) (missing_rise heard rises);
      silent_rise = subst Rises (sym silent) (silent_rise heard rises);
      each_once = named;
      below = c.requires.below;
      exact = ∣ decided ∣₁;
    }

pub returns-clause-verdict : goal.returns-clause-verdict
returns-clause-verdict c =
    subst (λ (answers : List Share). IsVerdict c.args.scheme.now.k c.args.scheme.now.share answers c.in-Ok-decide.decided.0 c.in-Ok-decide.decided.1)
    (c.as_slice.ensures.value ∙ sym c.of.ensures) c.in-Ok-decide.ensures.verdict
