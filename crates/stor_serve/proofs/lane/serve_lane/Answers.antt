use Rattle.stor_serve.proofs.TotalsLemmas.{ran_counts, ran_holds, ran_settles}
use Rattle.stor_serve.proofs.lane.serve_lane.Goals as goal

pub returns-clause-counted : goal.returns-clause-counted
returns-clause-counted g c = ran_counts g.K.Keeper.about _ _ _ _ c.serve_links.ensures

pub returns-clause-settled : goal.returns-clause-settled
returns-clause-settled g c = ran_settles g.K.Keeper.about _ _ _ _ c.serve_links.ensures

pub returns-clause-held : goal.returns-clause-held
returns-clause-held g c = ran_holds g.K.Keeper.about _ _ _ _ c.serve_links.ensures
