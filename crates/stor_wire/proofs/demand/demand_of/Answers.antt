use Rattle.std.proofs.Common.{◌≡◌, ◌∙◌, sym, map, take, codes}
use Rattle.std.specs.Cmp.Lexicographic.{same_text}
use Rattle.httparse.specs.Spans.{header_bytes}
use Rattle.stor_wire.proofs.DemandLemmas.{body_err, passed_up, range_err}
use Rattle.stor_wire.proofs.demand.demand_of.Goals as goal

pub returns-in_err-wanted-clause-says : goal.returns-in_err-wanted-clause-says
returns-in_err-wanted-clause-says c = λ h at.
    let e = c.in_err-wanted.field-0.0 in
    let hs = map (header_bytes c.args.buf.now) (take c.args.spans.headers c.args.headers.now) in
    let get : h.method ≡ codes "GET" = sym (c.of-method.ensures ∙ at.method) ∙ same_text c.of-method.result.now c.as_slice.result.now c.if-eq.ensures ∙ c.as_slice.ensures in
    let up = passed_up c.from_residual.result e c.from_residual.ensures.1 in
    rw up (range_err h c.of-path.result.now hs e get (c.of-path.ensures ∙ at.path) at.fields c.in_err-wanted.ensures)

pub returns-in_err-put_of-clause-says : goal.returns-in_err-put_of-clause-says
returns-in_err-put_of-clause-says c = λ h at.
    let e = c.in_err-put_of.field-0.0 in
    let hs = map (header_bytes c.args.buf.now) (take c.args.spans.headers c.args.headers.now) in
    let put : h.method ≡ codes "PUT" = sym (c.of-method.ensures ∙ at.method) ∙ same_text c.of-method.result.now c.as_slice-2.result.now c.if-eq-2.ensures ∙ c.as_slice-2.ensures in
    let up = passed_up c.from_residual-in_err-put_of.result e c.from_residual-in_err-put_of.ensures.1 in
    rw up (body_err h c.of-path.result.now hs e put (c.of-path.ensures ∙ at.path) at.fields c.in_err-put_of.ensures)
