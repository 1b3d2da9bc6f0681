use Rattle.std.proofs.Common.{◌≤◌, ◌<◌, ◌-◌, ◌/◌, refl, ap, length, arith}
use Rattle.bw_decode.specs.Near.{IsNear}
use Rattle.bw_decode.specs.Answers.{marked}
use Rattle.bw_decode.proofs.Rounds.{near_found, marks_found, none_beyond}
use Rattle.bw_decode.proofs.stripe.decode_rounds.Goals as goal
use Rattle.bw_decode.proofs.stripe.decode_rounds.Goals.{In-Found}

is_near : (c : In-Found) → IsNear c.args.scheme.now.k c.args.scheme.now.share c.decode_round.new.out c.args.answers.now
is_near c =
    let found = c.in-Found.ensures.found refl in
    let few : marked c.decode_round.new.blamed ≤ (length c.args.answers.now - c.args.scheme.now.k) / 2 =
    omega (arith, ap marked found.0, c.rounds-test.true, c.count_marked.ensures, c.from.ensures) in
    near_found c.args.scheme.now.k c.args.scheme.now.share c.decode_round.new.out c.args.answers.now c.decode_round.new.blamed
    (omega (arith, c.decode_round.auto.blamed)) c.requires.enough few found.1

pub returns-in-Found-clause-near : goal.returns-in-Found-clause-near
returns-in-Found-clause-near c same = is_near (goal.at.returns-in-Found-clause-near c).In-Found

pub returns-in-Found-clause-blamed : goal.returns-in-Found-clause-blamed
returns-in-Found-clause-blamed c same =
    marks_found c.args.scheme.now.k c.args.scheme.now.share c.decode_round.new.out c.args.answers.now c.decode_round.new.blamed
    (omega (arith, c.decode_round.auto.blamed)) c.in-Found.ensures.known (c.in-Found.ensures.found refl).1
    (is_near (goal.at.returns-in-Found-clause-blamed c).In-Found)

pub returns-in-Unclear-clause-unclear : goal.returns-in-Unclear-clause-unclear
returns-in-Unclear-clause-unclear c same = c.in-Unclear.ensures.unclear refl

pub returns-clause-unclear : goal.returns-clause-unclear
returns-clause-unclear c same =
    let many : (length c.args.answers.now - c.args.scheme.now.k) / 2 < marked c.rounds.blamed =
    omega (arith, c.rounds-test.false, c.count_marked.ensures, c.from.ensures) in
    none_beyond c.args.scheme.now.k c.args.scheme.now.share c.args.answers.now c.rounds.blamed
    (omega (arith, c.rounds.auto.blamed)) c.rounds.invariant.known many
