use Rattle.std.proofs.Common.{arith}
use Rattle.rows.proofs.OrderLemmas.{moved_absent, moved_rows, moved_one, moved_more}
use Rattle.rows.proofs.moving.move_last.Goals as goal

pub add-requires-clause-absent : goal.add-requires-clause-absent
add-requires-clause-absent g c =
    moved_absent g.R.Ranked.rank c.args.from.now.rows c.args.to.now.rows c.index-as_slice-len.result c.requires.rows
    (rw (← c.len.ensures, ← c.as_slice.ensures.rows) c.index-as_slice-len.is) c.requires.rising

pub returns-clause-rows : goal.returns-clause-rows
returns-clause-rows g c =
    rw (c.remove.ensures.rows, c.add.ensures.rows, c.rank.ensures)
    (moved_rows g.R.Ranked.rank c.args.from.now.rows c.args.to.now.rows c.index-as_slice-len.result c.requires.rows
    (rw (← c.len.ensures, ← c.as_slice.ensures.rows) c.index-as_slice-len.is) c.requires.rising)

pub returns-clause-one : goal.returns-clause-one
returns-clause-one g c =
    rw (c.remove.ensures.rows, c.rank.ensures)
    (moved_one g.R.Ranked.rank c.args.from.now.rows c.args.to.now.rows c.index-as_slice-len.result c.requires.rows
    (rw (← c.len.ensures, ← c.as_slice.ensures.rows) c.index-as_slice-len.is) c.requires.rising)

pub returns-clause-to_room : goal.returns-clause-to_room
returns-clause-to_room g c =
    rw c.add.ensures.rows
    (omega (
      arith,
      c.add.ensures.spare,
      moved_more g.R.Ranked.rank c.args.from.now.rows c.args.to.now.rows c.index-as_slice-len.result c.requires.rows
          (rw (← c.len.ensures, ← c.as_slice.ensures.rows) c.index-as_slice-len.is) c.requires.rising,
    ))
