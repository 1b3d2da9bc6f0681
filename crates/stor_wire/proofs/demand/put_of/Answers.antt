use Rattle.std.proofs.Common.{sym, map}
use Rattle.httparse.specs.Spans.{header_bytes}
use Rattle.stor_wire.proofs.DemandLemmas.{put_found}
use Rattle.stor_wire.proofs.demand.put_of.Goals as goal

pub returns : goal.returns
returns c =
    put_found c.args.path.now (map (header_bytes c.args.buf.now) c.args.headers.now) c.in-Some.len c.wanted_of.result (sym c.in-Some.ensures.value) c.wanted_of.ensures
