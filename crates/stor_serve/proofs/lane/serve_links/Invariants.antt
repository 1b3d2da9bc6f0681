use Rattle.stor_serve.specs.Runs.{Runs}
use Rattle.stor_serve.specs.Views.{run_view}
use Rattle.stor_serve.proofs.lane.serve_links.Given as goal

abbrev pub invariant-loop : goal.invariant-loop
invariant-loop g l =
    Runs g.K.Keeper.about (run_view g.P.Pieces.held g.P.Pieces.faults g.L.Lane.about g.T.Clock.coming g.S.Settler.offers g.S.Settler.faults l.initial.node) l.served.items
    (run_view g.P.Pieces.held g.P.Pieces.faults g.L.Lane.about g.T.Clock.coming g.S.Settler.offers g.S.Settler.faults l.node)
