use Rattle.std.proofs.Common.{◌∙◌}
use Rattle.std.proofs.lemmas.List.{take_more}
use Rattle.placement.specs.Draft.{terms_of}
use Rattle.placement.proofs.DraftLemmas.{struck-draft}
use Rattle.placement.proofs.draft.Draft.new.Goals as goal

pub loop-subnet-preserved : goal.loop-subnet-preserved
loop-subnet-preserved c = record {
  draft = rw (take_more c.args.request.now.taken.now c.loop-subnet.subnet-index 0 c.loop-subnet-test.true) (struck-draft (terms_of c.args.request.now) _ _ c.loop-subnet.draft c.strike.new.self c.loop-subnet.invariant.draft c.strike.ensures.chains c.strike.ensures.vetted c.strike.ensures.unvetted);
  picks = c.strike.ensures.picks ∙ c.loop-subnet.invariant.picks;
}
