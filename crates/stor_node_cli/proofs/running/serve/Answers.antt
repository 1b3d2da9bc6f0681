use Rattle.std.proofs.Common.{refl}
use Rattle.stor_serve.specs.Views.{run_view}
use Rattle.stor_node_cli.proofs.running.serve.Goals as goal

pub returns : goal.returns
returns g c = record {
  last = run_view g.P.Pieces.held g.P.Pieces.faults g.L.Lane.about g.T.Clock.coming g.S.Settler.offers g.S.Settler.faults c.serve_lane-served.new.node;
  end = c.serve_lane-served.result.end;
  ran = c.serve_lane-served.ensures.ran;
  counted = c.serve_lane-served.ensures.counted;
  settled = c.serve_lane-served.ensures.settled;
  held = c.serve_lane-served.ensures.held;
  hands_back = record {
    keeper = c.into_keeper.ensures.keeper;
    kept = c.into_keeper.ensures.kept;
    left = c.into_keeper.ensures.left;
    held = refl;
    piece_faults = refl;
    lane = refl;
    coming = refl;
    offers = refl;
    offer_faults = refl;
  };
  says = rw c.code.ensures c.say_end-status.ensures;
}
