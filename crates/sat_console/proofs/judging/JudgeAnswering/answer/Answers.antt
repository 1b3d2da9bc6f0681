use Rattle.std.proofs.Common.{◌≡◌, Ok}
use Rattle.sat_console.specs.Lines.{lines_of}
use Rattle.sat_console.specs.Judge.{shares_of}
use Rattle.sat_console.proofs.Shares.{rising}
use Rattle.sat_console.proofs.judging.JudgeAnswering.answer.Goals as goal

pub judge_shares-requires-clause-rising : goal.judge_shares-requires-clause-rising
judge_shares-requires-clause-rising c =
    let read : shares_of c.args.input.now ≡ Ok c.in-Ok.shares.items = rw c.in-Ok.is at c.in_ok-bad.ensures.shares in
    rw c.as_slice.ensures.value (rising 0 1 (lines_of c.args.input.now) c.in-Ok.shares.items read).rises

pub judge_shares-requires-clause-below : goal.judge_shares-requires-clause-below
judge_shares-requires-clause-below c =
    let read : shares_of c.args.input.now ≡ Ok c.in-Ok.shares.items = rw c.in-Ok.is at c.in_ok-bad.ensures.shares in
    let all = (rising 0 1 (lines_of c.args.input.now) c.in-Ok.shares.items read).below in
    rw (c.as_slice.ensures.value, c.args.self.now.tries_all) all

pub returns-in_ok-line-in-Ok : goal.returns-in_ok-line-in-Ok
returns-in_ok-line-in-Ok c =
    let read : shares_of c.args.input.now ≡ Ok c.in-Ok.shares.items = rw c.in-Ok.is at c.in_ok-bad.ensures.shares in
    let judged = rw c.as_slice.ensures.value at c.in_ok-line-in-Ok.ensures in
    record { shares = c.in-Ok.shares.items; are = read; verdict = judged.0; is = judged.1; line = judged.2 }
