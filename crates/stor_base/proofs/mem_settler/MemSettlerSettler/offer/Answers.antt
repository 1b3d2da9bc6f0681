use Rattle.std.proofs.Common.{◌≡◌, ap, ◌∙◌}
use Rattle.sat_base.specs.Outside.{raised}
use Rattle.stor_base.specs.Offers.{Settling}
use Rattle.stor_base.proofs.OfferLemmas.{chosen_by}
use Rattle.stor_base.proofs.mem_settler.MemSettlerSettler.offer.Goals as goal

pub returns-clause-answer : goal.returns-clause-answer
returns-clause-answer c =
    let counted = c.self.view_is ∙ c.fails-fails.ensures.counted in
    let later : c.self.inside.later.items ≡ c.args.self.now.later = ap (λ (settler : Settling). settler.later) counted in
    let calls : c.self.inside.calls ≡ raised c.args.self.now.calls = ap (λ (settler : Settling). settler.calls) counted in
    rw c.answer_by-answer.ensures
    (chosen_by c.args.self.now c.fails-fails.result c.waits.result c.fails-fails.ensures.failing (rw (← later, ← calls) c.waits.ensures))
