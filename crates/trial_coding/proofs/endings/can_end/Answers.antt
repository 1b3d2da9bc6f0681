use Rattle.std.proofs.Common.{◌≡◌, true, ℕ, List, All, ap, subst, ◌∙◌}
use Rattle.bw_decode.specs.Near.{Rises}
use Rattle.repair_core.specs.Indexes.{has_index, place_indexes}
use Rattle.trial_coding.proofs.endings.can_end.Goals as goal

pub returns : goal.returns
returns c = λ fine.
    let sources = c.as_slice-3.ensures.value ∙ c.in_ok-sources.ensures ∙ ap place_indexes c.as_slice.ensures in
    let targets = c.as_slice-4.ensures.value ∙ c.in_ok-targets.ensures ∙ ap place_indexes c.as_slice-2.ensures in
    let AreSources : List ℕ → List ℕ → Type 0 = λ some all. All (λ index. has_index all index ≡ true) some in
    record {
      sources_rise = subst Rises sources (c.is_told.ensures.sources fine);
      blamed_rise = c.is_told.ensures.blamed_rise fine;
      answered_rise = c.is_told.ensures.answered_rise fine;
      placed_rise = c.is_told.ensures.placed_rise fine;
      missing_rise = c.is_told.ensures.missing_rise fine;
      blamed_of_sources = subst (AreSources _) sources (c.is_told.ensures.blamed fine);
      answered_of_sources = subst (AreSources _) sources (c.is_told.ensures.answered fine);
      placed_at_targets = subst (AreSources _) targets (c.is_told.ensures.placed fine);
      missing_of_sources = subst (AreSources _) sources (c.is_told.ensures.missing fine);
      missing_silent = c.is_told.ensures.silent fine;
      missing_apart = c.is_told.ensures.apart fine;
    }
