use Rattle.std.proofs.Common.{sym, ◌∙◌, arith}
use Rattle.segment_core.proofs.RisingLemmas.{sound, complete}
use Rattle.segment_core.proofs.places.are_places.Goals as goal

pub returns-clause-sound : goal.returns-clause-sound
returns-clause-sound c e = let r = sound 0 c.args.places.now (sym c.is_rising.ensures ∙ e) in (r.0, r.1.0)

pub returns-clause-complete : goal.returns-clause-complete
returns-clause-complete c rise low = c.is_rising.ensures ∙ complete 0 c.args.places.now rise low (λ k d lt. omega arith)
