use Rattle.node_wire.proofs.ReadingLemmas.{ended_open}
use Rattle.node_wire.proofs.reading.Reading.end.Goals as goal

pub returns-clause-told : goal.returns-clause-told
returns-clause-told c = ended_open c.args.self.now.question c.args.self.now.bytes.items c.args.self.now.stage c.requires.at
