use Rattle.std.proofs.Common.{subst, sym}
use Rattle.machine_step.specs.Step.{IsWellFormed}
use Rattle.sat_book.specs.Book.{start_of}
use Rattle.sat_book.proofs.LegalLemmas.{formed-behind}
use Rattle.sat_book.proofs.book.Book.admits.Goals as goal

pub returns : goal.returns
returns g c =
    let is = c.self.invariant.1 in
    let was = subst (λ b. IsWellFormed (start_of b.opening) c.args.call.now) (sym c.self.view_is) c.requires in
    subst (λ b. IsWellFormed b.tables c.args.call.now) c.self.view_is (formed-behind _ _ _ _ c.args.call.now is.spelled.valid is.lawful is.tables was)
