use Rattle.node_rounds.proofs.Answering.{store_of}
use Rattle.node_rounds.proofs.kit.RoundStore.of.Goals as goal

pub returns : goal.returns
returns g c =
    store_of c.args.book.now.opening c.args.book.now.history c.args.book.now.tables c.core-core.result.now.tables c.settings-settings.result.now c.new.result c.requires c.core-core.ensures.replay c.core-core.ensures.tables
    c.marks.ensures.valid c.settings-settings.ensures c.new.ensures
