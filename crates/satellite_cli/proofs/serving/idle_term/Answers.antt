use Rattle.satellite_cli.proofs.Terms.{stands_of}
use Rattle.satellite_cli.proofs.serving.idle_term.Goals as goal

pub returns-clause-stands : goal.returns-clause-stands
returns-clause-stands g c =
    stands_of g.K.Keeper.about c.args.book c.close-keeper.result.0 c.args.book.history c.close-keeper.result.2.items
    c.close-keeper.ensures.history c.close-keeper.ensures.spell c.close-keeper.ensures.once c.close-keeper.ensures.pays c.close-keeper.ensures.closed c.close-keeper.ensures.keeps c.close-keeper.ensures.shown
