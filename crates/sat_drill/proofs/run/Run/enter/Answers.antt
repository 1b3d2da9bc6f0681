use Rattle.std.proofs.Common.{subst, sym}
use Rattle.machine_step.specs.Step.{IsWellFormed}
use Rattle.sat_book.specs.Book.{start_of}
use Rattle.sat_drill.specs.Run.{Replies}
use Rattle.sat_drill.proofs.RunLemmas.{formed_now, replies_of}
use Rattle.sat_drill.proofs.run.Run.enter.Goals as goal

pub apply-answered-requires-clause-formed : goal.apply-answered-requires-clause-formed
apply-answered-requires-clause-formed c =
    let was = subst (λ b. IsWellFormed (start_of b.opening) c.args.call) (sym c.self.view_is) c.requires.formed in
    formed_now c.self.inside.book c.self.inside.store.keys c.self.inside.store.scheme c.self.inside.scratch.points c.args.call c.self.invariant was

pub returns-clause-replies : goal.returns-clause-replies
returns-clause-replies c =
    let reply = c.apply-answered.result.reply in
    let out = replies_of c.self.inside.book c.self.inside.store.keys c.self.inside.store.scheme c.self.inside.scratch.points c.args.call reply c.self.invariant c.apply-answered.ensures.answers.right in
    subst (λ b. Replies (start_of b.opening) c.args.call reply) c.self.view_is out
