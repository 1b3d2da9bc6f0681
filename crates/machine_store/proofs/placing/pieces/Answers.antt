use Rattle.machine_store.proofs.PieceLemmas.{next-piece}
use Rattle.machine_store.proofs.placing.pieces.Goals as goal

pub loop-i-preserved : goal.loop-i-preserved
loop-i-preserved c = next-piece c.args.ids.now c.loop-i.i _ c.loop-i.pieces.items _ c.in_ok-push.ensures.items c.loop-i.invariant c.loop-i-test.true
