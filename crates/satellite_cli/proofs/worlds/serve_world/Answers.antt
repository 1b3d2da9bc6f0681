use Rattle.satellite_cli.proofs.Terms.{came_back_as}
use Rattle.satellite_cli.proofs.worlds.serve_world.Goals as goal

pub returns-clause-term : goal.returns-clause-term
returns-clause-term g c = rw c.code.ensures (came_back_as g.K.Keeper.about
    _ _ _ _ _ _ _ _ _ _ _ _ (λ same. λ i. record c.args.world {
      console = c.serve-run.new.console;
      keeper = c.serve-run.result.keeper;
      posts = (same i).posts;
      audit = (same i).audit;
      repair = (same i).repair;
      tally = (same i).tally;
    }) c.serve-run.ensures.term)
