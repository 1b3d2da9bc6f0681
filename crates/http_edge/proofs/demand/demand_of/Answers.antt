use Rattle.std.proofs.Common.{◌∙◌, sym, ap}
use Rattle.http_edge.specs.Demands.{no_route, bad_method, routed, method_of, of_headers}
use Rattle.http_edge.proofs.PathLemmas.{other_bytes, same_bytes}
use Rattle.http_edge.proofs.demand.demand_of.Goals as goal

pub returns-in_default-clause-says : goal.returns-in_default-clause-says
returns-in_default-clause-says c = λ h at. no_route (λ r p. c.in_default.ensures.none r (rw (c.of.ensures ∙ at.path) p))

pub returns-then-ne-clause-says : goal.returns-then-ne-clause-says
returns-then-ne-clause-says c = λ h at.
    bad_method c.in-Some.route (rw (c.of.ensures ∙ at.path) at c.in-Some.ensures.found)
    (λ e. other_bytes c.of-2.result.now (method_of c.in-Some.route) (rw c.method_of.ensures at c.if-ne.ensures) (c.of-2.ensures ∙ at.method ∙ e))

pub returns-clause-says : goal.returns-clause-says
returns-clause-says c = λ h at.
    rw (c.after_route.ensures.says ∙ ap (of_headers c.args.keys.now c.in-Some.route) at.fields)
    (routed c.in-Some.route (rw (c.of.ensures ∙ at.path) at c.in-Some.ensures.found) (sym at.method ∙ sym c.of-2.ensures ∙ same_bytes c.of-2.result.now (method_of c.in-Some.route) (rw c.method_of.ensures at c.if-ne.ensures)))
