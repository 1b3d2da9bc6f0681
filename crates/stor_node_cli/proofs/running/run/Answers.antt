use Rattle.std.proofs.Common.{refl, inr}
use Rattle.stor_serve.specs.Views.{run_view}
use Rattle.stor_node_cli.proofs.running.run.Goals as goal

pub returns-in-Ok : goal.returns-in-Ok
returns-in-Ok g c = inr (record {
  first = run_view g.P.Pieces.held g.P.Pieces.faults g.L.Lane.about g.T.Clock.coming g.S.Settler.offers g.S.Settler.faults (record {
    uses = c.in-Ok.uses;
    pieces = c.args.world.pieces;
    lane = c.args.world.lane;
    clock = c.args.world.clock;
    settler = c.args.world.settler;
  });
  begins = record {
    opens = c.in-Ok.ensures.opened;
    held = refl;
    piece_faults = refl;
    lane = refl;
    coming = refl;
    offers = refl;
    offer_faults = refl;
  };
  serves = c.serve.ensures;
})
