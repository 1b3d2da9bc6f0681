use Rattle.std.proofs.Common.{◌≡◌, false, ℕ, ◌<◌, List, All, refl, sym, ap, subst, ◌∙◌}
use Rattle.bw_decode.specs.Near.{Rises}
use Rattle.audit_core.specs.declared.plan.Heard.{Heard}
use Rattle.audit_core.specs.Heard.{is_out_of_memory, place_indexes}
use Rattle.trial_lines.proofs.audits.end_audit.Goals as goal

pub judge-requires-clause-rising : goal.judge-requires-clause-rising
judge-requires-clause-rising c =
    subst Rises (c.as_slice-2.ensures.value ∙ c.in_ok-indexes.ensures ∙ ap place_indexes c.as_slice.ensures) (c.if-not-are_rising.ensures.rising refl)

pub judge-requires-clause-below : goal.judge-requires-clause-below
judge-requires-clause-below c =
    subst (λ (xs : List ℕ). All (λ index. index < c.args.scheme.now.n) xs) (c.as_slice-2.ensures.value ∙ c.in_ok-indexes.ensures ∙ ap place_indexes c.as_slice.ensures)
    (c.if-not-are_rising.ensures.below refl)

pub judge-requires-clause-heard_of : goal.judge-requires-clause-heard_of
judge-requires-clause-heard_of c = subst (λ (heard : List Heard). All (λ one. is_out_of_memory one.what ≡ false) heard) (sym c.of-heard.ensures) c.in_ok-read_heard.ensures.told
