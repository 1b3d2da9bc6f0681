use Rattle.std.proofs.Common.{List, ◌∷◌, [], ◌++◌, ℕ, ap, sym, ◌∙◌}
use Rattle.std.specs.List.{cons_option}
use Rattle.sat_base.specs.declared.items.Share.{Share}
use Rattle.audit_core.specs.declared.plan.Heard.{Heard}
use Rattle.audit_core.specs.Heard.{share_in, missing_in, silent_in}
use Rattle.std.proofs.lemmas.List.Elements.{filter_map-append}
use Rattle.audit_core.proofs.judging.sort.Goals as goal

pub loop-one-preserved : goal.loop-one-preserved
loop-one-preserved c =
    let before = c.loop-one.invariant in
    let one = c.in-Some.one in
    record {
      answers = c.in_ok-add.ensures.answers ∙ ap (λ (xs : List Share). xs ++ cons_option (share_in one.index one.what) []) before.answers
          ∙ sym (filter_map-append (λ (h : Heard). share_in h.index h.what) c.loop-one.yielded (one ∷ []));
      missing = c.in_ok-add.ensures.missing ∙ ap (λ (xs : List ℕ). xs ++ cons_option (missing_in one.index one.what) []) before.missing
          ∙ sym (filter_map-append (λ (h : Heard). missing_in h.index h.what) c.loop-one.yielded (one ∷ []));
      silent = c.in_ok-add.ensures.silent ∙ ap (λ (xs : List ℕ). xs ++ cons_option (silent_in one.index one.what) []) before.silent
          ∙ sym (filter_map-append (λ (h : Heard). silent_in h.index h.what) c.loop-one.yielded (one ∷ []));
    }
