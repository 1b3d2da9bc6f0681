use Rattle.std.proofs.Common.{◌≡◌, ◌<◌, ◌+◌, IsTrue, OnOk, List, take, subst, rules, arith}
use Rattle.std.proofs.lemmas.Grind.{common_steps}
use Rattle.std.proofs.lemmas.Bool.Decides.{nat_tests}
use Rattle.sqlite.specs.State.{HasCleanDisk}
use Rattle.sqlite.specs.Held.{Held, state}
use Rattle.sat_base.specs.Rows.{changed, change_of, Rows}
use Rattle.keeper_sqlite.specs.Records.{Holds}
use Rattle.keeper_sqlite.specs.Transitions.{Commits}
use Rattle.keeper_sqlite.proofs.LastCommit.{commits, commit_opens, one_more, steps}
use Rattle.keeper_sqlite.proofs.transactions.write.Goals as goal

pub changes-preserved : goal.changes-preserved
changes-preserved g c =
    let at = c.changes.change-index in
    let first = state g.S.Store c.args.conn.now in
    let mid = state g.S.Store c.changes.tx.conn.now in
    let last = state g.S.Store c.apply.new.tx.conn.now in
    let made = λ (clean : HasCleanDisk last). c.in_ok-apply.ensures.makes clean in
    let all = steps first mid last (changed (take at c.args.changes.now)) (changed (take (at + 1) c.args.changes.now)) (change_of c.change-item.result) c.changes.invariant.kept c.apply.ensures.kept made c.changes.invariant.rows
    (one_more c.args.changes.now at c.change-item.result (search rules) c.change-item.is) in
    record { name = search rules; kept = all.kept; went = λ clean _. all.went clean; rows = all.rows }

pub returns-clause-commits : goal.returns-clause-commits
returns-clause-commits g c =
    let last = c.commit.new.self.0 in
    let first = state g.S.Store c.args.conn.now in
    let mid = state g.S.Store c.changes.tx.conn.now in
    let same : last ≡ c.conn-2-1.given.0 = search rules in
    let whole : take c.changes.change-index c.args.changes.now ≡ c.args.changes.now = grind (arith, common_steps) in
    let some : 0 < c.changes.change-index = grind (arith, common_steps, nat_tests) in
    let rows = λ (clean : HasCleanDisk mid) (rs : Rows) (h : Holds first.now rs). subst (λ (cs : List _). Holds mid.now (changed cs rs)) whole (c.changes.invariant.rows clean rs h) in
    let settled = λ (up : IsTrue first.is_open). c.is_autocommit-settled.ensures.settled (search rules) up in
    subst (λ (h : Held _). Commits first (state g.S.Store h) (changed c.args.changes.now) c.commit.result) same
    (commits first mid (state g.S.Store last) (changed c.args.changes.now) c.changes.invariant.kept (λ clean. c.changes.invariant.went clean some) settled rows c.commit.ensures.survives c.commit.result c.commit.ensures.ok c.commit.ensures.err)

pub returns-clause-open : goal.returns-clause-open
returns-clause-open g c =
    let last = c.commit.new.self.0 in
    let same : last ≡ c.conn-2-1.given.0 = search rules in
    subst (λ (h : Held _). HasCleanDisk (state g.S.Store h) → OnOk c.commit.result (IsTrue (state g.S.Store h).is_open)) same
    (commit_opens (state g.S.Store c.changes.tx.conn.now) (state g.S.Store last) c.commit.result c.commit.ensures.ok)
