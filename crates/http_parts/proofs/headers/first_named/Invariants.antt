use Rattle.std.proofs.Common.{◌≡◌, drop, map}
use Rattle.httparse.specs.Spans.{header_bytes}
use Rattle.http_parts.specs.Headers.{value_named}
use Rattle.http_parts.proofs.headers.first_named.Given as goal

abbrev pub invariant-loop-header : goal.invariant-loop-header
invariant-loop-header l = value_named l.name (map (header_bytes l.buf) (drop l.header-index l.headers)) ≡ value_named l.name (map (header_bytes l.buf) l.headers)
