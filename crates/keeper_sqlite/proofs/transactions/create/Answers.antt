use Rattle.std.proofs.Common.{◌≡◌, IsTrue, OnOk, rules, subst}
use Rattle.sqlite.specs.State.{HasCleanDisk}
use Rattle.sqlite.specs.Held.{Held, state}
use Rattle.sat_base.specs.Rows.{Rows}
use Rattle.keeper_sqlite.specs.Records.{Holds}
use Rattle.keeper_sqlite.specs.Transitions.{Commits, Keeps}
use Rattle.keeper_sqlite.proofs.LastCommit.{commits, commit_opens, keeps_begun}
use Rattle.keeper_sqlite.proofs.transactions.create.Goals as goal

pub returns-clause-commits : goal.returns-clause-commits
returns-clause-commits g c =
    let last = c.commit.new.self.0 in
    let first = state g.S.Store c.args.conn.now in
    let mid = state g.S.Store c.create_table.new.tx.conn.now in
    let same : last ≡ c.conn-2-1.given.0 = search rules in
    let begun = c.transaction-tx.ensures.begun in
    let kept : Keeps first mid = keeps_begun g.S.Store c.args.conn.now mid (rw begun at c.create_table.ensures.kept) in
    let went = λ (clean : HasCleanDisk mid). let it : IsTrue first.is_open = rw begun at (c.in_ok-create_table.ensures.makes clean).was_open in it in
    let rows = λ (clean : HasCleanDisk mid) (rs : Rows) (h : Holds first.now rs). let it : Holds mid.now rs = (rw begun at (c.in_ok-create_table.ensures.makes clean).rows) rs h in it in
    let settled = λ (up : IsTrue first.is_open). c.is_autocommit-settled.ensures.settled (search rules) up in
    subst (λ (h : Held _). Commits first (state g.S.Store h) (λ rows. rows) c.commit.result) same
    (commits first mid (state g.S.Store last) (λ rows. rows) kept went settled rows c.commit.ensures.survives c.commit.result c.commit.ensures.ok c.commit.ensures.err)

pub returns-clause-open : goal.returns-clause-open
returns-clause-open g c =
    let last = c.commit.new.self.0 in
    let same : last ≡ c.conn-2-1.given.0 = search rules in
    subst (λ (h : Held _). HasCleanDisk (state g.S.Store h) → OnOk c.commit.result (IsTrue (state g.S.Store h).is_open)) same
    (commit_opens (state g.S.Store c.create_table.new.tx.conn.now) (state g.S.Store last) c.commit.result c.commit.ensures.ok)
