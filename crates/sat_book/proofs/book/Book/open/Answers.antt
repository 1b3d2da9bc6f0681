use Rattle.std.proofs.Common.{refl, ap}
use Rattle.sat_book.proofs.OpeningLemmas.{book_opened}
use Rattle.sat_book.proofs.book.Book.open.Goals as goal

pub invariant_of-result : goal.invariant_of-result
invariant_of-result g c = (
  c.in-Ok.ensures.ok.is_ready.free,
  book_opened g.K.Keeper.about g.met.K.Keeper.leaves_no_other c.args.keeper c.make_ready.new.keeper c.args.term c.in-Ok.ready c.in-Ok.ensures.ok
      _ c.of-first.ensures c.of-opened.ensures refl refl (ap (λ m. m.tables) c.of.ensures) c.count.ensures refl c.in-Ok.ensures.ok.is_ready.none_yet,
)
