use Rattle.std.proofs.Common.{arith, false, ◌+◌, ◌<◌, ◌≤◌, length}
use Rattle.node_wire.proofs.HeadLemmas.{body_small}
use Rattle.node_wire.proofs.ReadingLemmas.{body_whole, body_short, body_unwhole}
use Rattle.node_wire.proofs.reading.Reading.behind.Goals as goal

pub returns-then-len-start-clause-told : goal.returns-then-len-start-clause-told
returns-then-len-start-clause-told c =
    let within = c.requires.head.within in
    let le : c.args.start + c.args.size ≤ length c.args.self.now.bytes.items = omega arith in
    λ all x. (body_whole c.args.self.now.question c.args.start c.args.size c.args.self.now.bytes.items all c.requires.head le x, (le, body_small c.args.self.now.question c.requires.head.head.0 c.args.size c.requires.head.head.2))

pub returns-else-len-start-clause-told : goal.returns-else-len-start-clause-told
returns-else-len-start-clause-told c =
    let bytes = c.args.self.now.bytes.items in
    let within = c.requires.head.within in
    let less : length bytes < c.args.start + c.args.size = omega arith in
    λ all x.
    let same = body_short c.args.self.now.question c.args.start c.args.size bytes all c.requires.head less x in
    (rw same at (body_unwhole c.args.self.now.question c.args.start c.args.size bytes false c.requires.head less), record { at = (c.requires.head, less); roomy = record { room = c.requires.roomy.room; there = c.requires.roomy.there; fits = c.requires.roomy.fits } }, same)
