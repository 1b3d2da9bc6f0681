use Rattle.std.proofs.Common.{refl, ◌∙◌}
use Rattle.sat_book.proofs.BookLemmas.{book-one, grown_by}
use Rattle.sat_book.proofs.book.Book.apply.Goals as goal

pub invariant_of-self : goal.invariant_of-self
invariant_of-self g c = (
  c.take_step-told.ensures.pending,
  book-one g.K.Keeper.about _ _ _ c.self.invariant.1 c.take_step-told.ensures.answers c.take_step-told.ensures.bytes refl refl refl refl
      (grown_by c.self.inside.history.items c.push_reserved.new.self.items c.len-place.result c.args.pass c.args.call
      c.take_step-told.result.told c.take_step-told.result.kept (c.len-place.ensures ∙ c.self.inside.history.ok.0) c.take_step-told.ensures.same c.push_reserved.ensures.items),
)

pub returns-clause-lawful : goal.returns-clause-lawful
returns-clause-lawful g c = (invariant_of-self g c).1.lawful

pub returns-clause-tables : goal.returns-clause-tables
returns-clause-tables g c = (invariant_of-self g c).1.tables

pub returns-clause-keeps : goal.returns-clause-keeps
returns-clause-keeps g c = (invariant_of-self g c).1.keeps
