use Rattle.std.proofs.Common.{arith, rules, ◌≡◌, ◌++◌, take, ◌+◌, ◌-◌, length, min, sym, subst}
use Rattle.node_wire.specs.Readings.{IsFront, HasBody}
use Rattle.node_wire.proofs.ReadingLemmas.{front_min, body_more}
use Rattle.node_wire.proofs.reading.Reading.feed.Goals as goal

pub returns-in-Head-clause-told : goal.returns-in-Head-clause-told
returns-in-Head-clause-told c =
    let old = c.args.self.now.bytes.items in
    let items : c.extend_from_slice.new.self.items ≡ old ++ take c.min.result c.args.piece.now = search rules in
    c.look.ensures.told _ (front_min c.args.self.now.question c.min.result old c.args.piece.now _ (search rules) (search rules) items)

pub returns-in-Body-clause-told : goal.returns-in-Body-clause-told
returns-in-Body-clause-told c =
    let old = c.args.self.now.bytes.items in
    let items : c.extend_from_slice.new.self.items ≡ old ++ take c.min.result c.args.piece.now = search rules in
    c.behind.ensures.told _ (front_min c.args.self.now.question c.min.result old c.args.piece.now _ (search rules) (search rules) items)
