use Rattle.std.proofs.Common.{◌∙◌, false, slice_index_or, rules}
use Rattle.std.proofs.lemmas.Fn.{filter_same}
use Rattle.repair_core.proofs.making.keep_marked.Goals as goal

pub returns : goal.returns
returns c = c.of.ensures ∙ filter_same _ (λ index. slice_index_or c.args.marks.now index false) _ (λ x b f' k. search rules) _ _ c.retain.ensures.filtered
