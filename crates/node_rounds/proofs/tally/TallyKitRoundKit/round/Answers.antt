use Rattle.sat_book.specs.Book.{opening_of}
use Rattle.node_rounds.specs.Tally.{tally_view}
use Rattle.node_rounds.proofs.Tallying.{tally_does}
use Rattle.node_rounds.proofs.tally.TallyKitRoundKit.round.Goals as goal

pub returns-clause-does : goal.returns-clause-does
returns-clause-does g c =
    let view = tally_view g.T.Clock.coming g.I.Ticks.about in
    tally_does (opening_of c.args.pass.base) (view c.args.self.now) c.args.pass c.tally_round.result.1 (view c.tally_round.new.kit) c.tally_round.result.0 c.tally_round.ensures
