use Rattle.std.proofs.Common.{◌≡◌, true, IsTrue, refl, rules, arith}
use Rattle.sqlite.specs.State.{HasCleanDisk}
use Rattle.sqlite.specs.Held.{state}
use Rattle.keeper_sqlite.proofs.LoadedRows.{reads_rows, reads_shown}
use Rattle.keeper_sqlite.proofs.transactions.read.Goals as goal

pub returns-clause-rows : goal.returns-clause-rows
returns-clause-rows g c clean opened list order is m holds =
    let last = c.rollback.new.self.0 in
    let mid = state g.S.Store c.select.new.tx.conn.now in
    let same : last ≡ c.conn-2-1.given.0 = search rules in
    let late : HasCleanDisk (state g.S.Store last) = search rules in
    let up : IsTrue (state g.S.Store last).is_open = search rules in
    let early : HasCleanDisk mid = omega (arith, c.rollback.ensures.survives.clean) in
    let there = (c.rollback.ensures.undone late).was_open up in
    let begun = c.transaction-tx.ensures.begun in
    let was = rw begun at (c.select.ensures.kept.still early there).0 in
    let settled = c.is_autocommit-settled.ensures.settled (search rules) was in
    reads_rows (state g.S.Store c.args.conn.now) (state g.S.Store (record c.args.conn.now { in_transaction = true })) mid refl settled _ (rw begun at (c.in_ok-rows.ensures.shown early)) list order is m holds

pub returns-clause-shown : goal.returns-clause-shown
returns-clause-shown g c clean opened has =
    let last = c.rollback.new.self.0 in
    let mid = state g.S.Store c.select.new.tx.conn.now in
    let same : last ≡ c.conn-2-1.given.0 = search rules in
    let late : HasCleanDisk (state g.S.Store last) = search rules in
    let up : IsTrue (state g.S.Store last).is_open = search rules in
    let early : HasCleanDisk mid = omega (arith, c.rollback.ensures.survives.clean) in
    let there = (c.rollback.ensures.undone late).was_open up in
    let begun = c.transaction-tx.ensures.begun in
    let was = rw begun at (c.select.ensures.kept.still early there).0 in
    let settled = c.is_autocommit-settled.ensures.settled (search rules) was in
    reads_shown (state g.S.Store c.args.conn.now) (state g.S.Store (record c.args.conn.now { in_transaction = true })) mid refl settled has _ (rw begun at (c.in_ok-rows.ensures.shown early))
