use Rattle.std.proofs.Common.{refl}
use Rattle.stor_serve.proofs.RunLemmas.{ran, runs_more, runs_none, waited}
use Rattle.stor_serve.proofs.lane.serve_links.Goals as goal
use Rattle.stor_serve.specs.Views.{run_view}
use Rattle.stor_serve.specs.declared.lane.NodeEnd.TheVariants as ends

pub loop-init : goal.loop-init
loop-init g c = runs_none g.K.Keeper.about _ _ c.new-served.ensures.items

pub returns-in-Ended : goal.returns-in-Ended
returns-in-Ended g c =
    ran g.K.Keeper.about _ _ _ _ _ ends.Over c.loop.invariant c.reserve.ensures.items
    (waited (run_view g.P.Pieces.held g.P.Pieces.faults g.L.Lane.about g.T.Clock.coming g.S.Settler.offers g.S.Settler.faults c.loop.node) _ _ c.in-Ended.ensures)

pub returns-in-Failed : goal.returns-in-Failed
returns-in-Failed g c =
    ran g.K.Keeper.about _ _ _ _ _ ends.Failed c.loop.invariant c.reserve.ensures.items
    (waited (run_view g.P.Pieces.held g.P.Pieces.faults g.L.Lane.about g.T.Clock.coming g.S.Settler.offers g.S.Settler.faults c.loop.node) _ _ c.in-Failed.ensures.1)

pub loop-preserved : goal.loop-preserved
loop-preserved g c =
    runs_more g.K.Keeper.about _ _ _ _ c.serve_link-one.result _ _ _ _ _ _ c.loop.invariant c.reserve.ensures.items c.push_reserved.ensures.items
    c.in-Conn.ensures.0 c.in-Conn.ensures.1 c.back.ensures c.serve_link-one.ensures c.offer_due.ensures refl

pub returns-then-is_err : goal.returns-then-is_err
returns-then-is_err g c = ran g.K.Keeper.about _ _ _ _ _ ends.NoMemory c.loop.invariant c.reserve.ensures.items refl

pub returns : goal.returns
returns g c = ran g.K.Keeper.about _ _ _ _ _ ends.NoMemory c.loop.invariant refl refl
