use Rattle.std.proofs.Common.{map, subst}
use Rattle.machine_history.proofs.OrderLemmas.{settle_once}
use Rattle.sat_book.specs.Book.{IsBook, start_of}
use Rattle.sat_book.specs.Legal.{said_of}
use Rattle.sat_book.proofs.PaidLemmas.{pays_by_tariff, closed_months}
use Rattle.sat_book.proofs.book.Book.close.Goals as goal

pub returns-clause-once : goal.returns-clause-once
returns-clause-once g c =
    let book = subst (IsBook g.K.Keeper.about) c.self.view_is c.self.invariant.1 in
    settle_once (start_of c.args.self.opening) (map said_of c.args.self.history) book.spelled.valid book.lawful.legal book.lawful.bytes

pub returns-clause-pays : goal.returns-clause-pays
returns-clause-pays g c =
    let book = subst (IsBook g.K.Keeper.about) c.self.view_is c.self.invariant.1 in
    pays_by_tariff (start_of c.args.self.opening) c.args.self.history book.spelled.valid book.lawful.legal

pub returns-clause-closed : goal.returns-clause-closed
returns-clause-closed g c =
    let book = subst (IsBook g.K.Keeper.about) c.self.view_is c.self.invariant.1 in
    closed_months (start_of c.args.self.opening) c.args.self.history book.spelled.valid book.lawful.legal
