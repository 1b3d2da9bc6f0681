use Rattle.rows.proofs.moving.move_behind.Goals as goal

pub move_last-requires-clause-rising : goal.move_last-requires-clause-rising
move_last-requires-clause-rising g c = rw c.loop-from.invariant.rows c.requires.rising
