use Rattle.std.proofs.Common.{◌≡◌, rules}
use Rattle.machine_step.specs.PlanRules.{bad_left, bad_lefts, missing_lefts}
use Rattle.machine_store.proofs.OpeningLemmas.{least-append}
use Rattle.machine_store.proofs.table_tests.test_left.Goals as goal

pub returns-in-Some : goal.returns-in-Some
returns-in-Some c =
    let both = least-append (bad_lefts c.args.rows.now.marks c.args.rows.now.nodes.nodes c.args.rows.now.left.rows) (missing_lefts c.args.rows.now.left.rows c.args.rows.now.nodes.nodes) in
    let found : c.least_of.result ≡ bad_left c.args.rows.now.marks c.args.rows.now.nodes.nodes c.args.rows.now.left.rows = cc both in
    search (rules, found)

pub returns-in-None : goal.returns-in-None
returns-in-None c =
    let both = least-append (bad_lefts c.args.rows.now.marks c.args.rows.now.nodes.nodes c.args.rows.now.left.rows) (missing_lefts c.args.rows.now.left.rows c.args.rows.now.nodes.nodes) in
    let found : c.least_of.result ≡ bad_left c.args.rows.now.marks c.args.rows.now.nodes.nodes c.args.rows.now.left.rows = cc both in
    search (rules, found)
