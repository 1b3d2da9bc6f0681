use Rattle.std.proofs.Common.{arith, refl}
use Rattle.rows.proofs.Lengths.{length-added}
use Rattle.rows.proofs.OrderLemmas.{none_front, none_behind, added_to_front, added_to_end}
use Rattle.rows.proofs.moving.add_to_either.Goals as goal

pub add-requires-clause-absent : goal.add-requires-clause-absent
add-requires-clause-absent g c = none_front g.R.Ranked.rank (g.R.Ranked.rank c.args.row) c.args.lower.now.rows c.args.upper.now.rows c.requires.absent

pub add-requires-else-begins_above-clause-absent : goal.add-requires-else-begins_above-clause-absent
add-requires-else-begins_above-clause-absent g c = none_behind g.R.Ranked.rank (g.R.Ranked.rank c.args.row) c.args.lower.now.rows c.args.upper.now.rows c.requires.absent

pub returns-then-begins_above-clause-rows : goal.returns-then-begins_above-clause-rows
returns-then-begins_above-clause-rows g c =
    rw c.add.ensures.rows
    (added_to_front g.R.Ranked.rank c.args.row c.args.lower.now.rows c.args.upper.now.rows c.requires.rising (rw (← c.rank.ensures) (c.if-begins_above.ensures.above refl).1))

pub returns-then-begins_above-clause-lower_room : goal.returns-then-begins_above-clause-lower_room
returns-then-begins_above-clause-lower_room g c =
    rw c.add.ensures.rows (omega (arith, c.add.ensures.spare, length-added g.R.Ranked.rank c.args.row c.args.lower.now.rows))

pub returns-then-begins_above-clause-lower_len : goal.returns-then-begins_above-clause-lower_len
returns-then-begins_above-clause-lower_len g c =
    let more = length-added g.R.Ranked.rank c.args.row c.args.lower.now.rows in
    rw c.add.ensures.rows (omega (arith, more), omega (arith, more, (c.if-begins_above.ensures.above refl).0), omega (arith, more))

pub returns-else-begins_above-clause-rows : goal.returns-else-begins_above-clause-rows
returns-else-begins_above-clause-rows g c =
    rw c.add-else-begins_above.ensures.rows
    (added_to_end g.R.Ranked.rank c.args.row c.args.lower.now.rows c.args.upper.now.rows c.requires.rising c.requires.behind (rw (← c.rank.ensures) (c.if-begins_above.ensures.by refl)))

pub returns-else-begins_above-clause-upper_room : goal.returns-else-begins_above-clause-upper_room
returns-else-begins_above-clause-upper_room g c =
    rw c.add-else-begins_above.ensures.rows (omega (arith, c.add-else-begins_above.ensures.spare, length-added g.R.Ranked.rank c.args.row c.args.upper.now.rows))

pub returns-else-begins_above-clause-upper_len : goal.returns-else-begins_above-clause-upper_len
returns-else-begins_above-clause-upper_len g c =
    let more = length-added g.R.Ranked.rank c.args.row c.args.upper.now.rows in
    rw c.add-else-begins_above.ensures.rows (omega (arith, more), omega (arith, more))
