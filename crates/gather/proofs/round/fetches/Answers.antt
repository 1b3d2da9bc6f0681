use Rattle.std.proofs.Common.{List, ◌+◌, ◌∙◌, take, arith, sym, subst}
use Rattle.std.specs.List.{AllZip}
use Rattle.tokio.specs.declared.time.timeout.Timeout.{Timeout}
use Rattle.gather.specs.declared.asking.Asking.{Asking}
use Rattle.gather.specs.declared.timed.Timed.{Timed}
use Rattle.gather.specs.Rounds.{FetchesFor}
use Rattle.gather.proofs.Zips.{zip_more}
use Rattle.gather.proofs.round.fetches.Goals as goal

pub loop-ask-preserved : goal.loop-ask-preserved
loop-ask-preserved g c =
    let before = c.loop-ask.invariant in
    let asked = c.args.asked.now in
    let i = c.loop-ask.ask-index in
    record {
      made = omega (arith, c.push_reserved.ensures.len, before.made);
      room = c.push_reserved.ensures.capacity ∙ before.room;
      each = subst (λ (parts : List (Timed (Timeout Asking) g.row.R.Denot)). AllZip FetchesFor (take (i + 1) asked) parts) (sym c.push_reserved.ensures.items)
          (zip_more FetchesFor asked i _ c.loop-ask.parts.items c.in_ok-part.part c.loop-ask-test.true before.each c.in_ok-part.ensures);
    }
