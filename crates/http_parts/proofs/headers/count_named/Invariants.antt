use Rattle.std.proofs.Common.{◌≡◌, ◌≤◌, ◌+◌, length, drop, map}
use Rattle.httparse.specs.Spans.{header_bytes}
use Rattle.http_parts.specs.Headers.{values_named}
use Rattle.http_parts.proofs.headers.count_named.Given as goal

abbrev pub invariant-loop-header : goal.invariant-loop-header
invariant-loop-header l = record {
  few : l.count ≤ l.header-index;
  rest : l.count + length (values_named l.name (map (header_bytes l.buf) (drop l.header-index l.headers))) ≡ length (values_named l.name (map (header_bytes l.buf) l.headers));
}
