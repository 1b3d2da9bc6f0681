use Rattle.sat_book.specs.Book.{start_of}
use Rattle.sat_drill.proofs.driver.Driver.settle.Goals as goal

pub enter-requires-clause-formed : goal.enter-requires-clause-formed
enter-requires-clause-formed c = c.in_ok-call.ensures (start_of c.args.self.now.run.opening)
