use Rattle.http_edge.proofs.PathLemmas.{if_found, if_none}
use Rattle.http_edge.proofs.routes.route_of.Goals as goal

pub returns-clause-found : goal.returns-clause-found
returns-clause-found c = if_found c.find_route.result c.args.path.now c.find_route.ensures.route

pub returns-clause-none : goal.returns-clause-none
returns-clause-none c = if_none c.find_route.result c.args.path.now c.find_route.ensures.route
