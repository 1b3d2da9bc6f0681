use Rattle.std.proofs.Common.{◌≡◌, ◌<◌, length, sym, ◌∙◌, arith}
use Rattle.std.proofs.lemmas.Bool.Decides.{nat_tests}
use Rattle.sat_console.proofs.Cut.{no_lines}
use Rattle.sat_console.proofs.Shares.{line_below, next_share, all_shares}
use Rattle.sat_console.proofs.judging.read_shares.Goals as goal

pub overflow_add-least : goal.overflow_add-least
overflow_add-least c =
    let below : c.in-Some.share.index < 128 = line_below c.next_line.result.0.now c.in-Some.share (sym c.in_ok-share.ensures ∙ c.in-Some.is) in
    omega arith

pub loop-rest-preserved : goal.loop-rest-preserved
loop-rest-preserved c =
    let some = sym c.in_ok-share.ensures ∙ c.in-Some.is in
    let below : c.in-Some.share.index < 128 = line_below c.next_line.result.0.now c.in-Some.share some in
    record {
      so_far = rw c.in_ok-push.ensures.items
          (sym (next_share c.loop-rest.shares.items c.loop-rest.least c.loop-rest.number c.next_line.result.0.now _ _ c.in-Some.share c.next_line.ensures.lines some c.if-share-least.false)
          ∙ c.loop-rest.invariant.so_far);
      lines = omega (arith, c.next_line.ensures.shorter);
      least = omega arith;
    }

pub returns-clause-shares : goal.returns-clause-shares
returns-clause-shares c =
    let empty : length c.loop-rest.rest.now ≡ 0 = grind (arith, nat_tests) in
    sym c.loop-rest.invariant.so_far ∙ all_shares c.loop-rest.shares.items c.loop-rest.least c.loop-rest.number _ (no_lines c.loop-rest.rest.now empty)
