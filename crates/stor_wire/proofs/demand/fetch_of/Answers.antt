use Rattle.std.proofs.Common.{sym, map}
use Rattle.httparse.specs.Spans.{header_bytes}
use Rattle.stor_wire.proofs.DemandLemmas.{fetch_err, passed_up}
use Rattle.stor_wire.proofs.demand.fetch_of.Goals as goal

pub returns-in_err-wanted : goal.returns-in_err-wanted
returns-in_err-wanted c =
    let e = c.in_err-wanted.field-0.0 in
    let hs = map (header_bytes c.args.buf.now) c.args.headers.now in
    let up = passed_up c.from_residual.result e c.from_residual.ensures.1 in
    rw up (fetch_err c.args.path.now hs c.in-Some-number_named.len e (sym c.in-Some-number_named.ensures) c.in_err-wanted.ensures)
