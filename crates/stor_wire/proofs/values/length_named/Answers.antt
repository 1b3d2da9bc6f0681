use Rattle.std.proofs.Common.{rules, ◌≡◌, sym, ◌∙◌, length, map, codes, None}
use Rattle.httparse.specs.Spans.{header_bytes}
use Rattle.http_parts.specs.Headers.{values_named}
use Rattle.http_parts.proofs.HeaderLemmas.{first_is}
use Rattle.stor_wire.proofs.ValueLemmas.{only_none, only_one}
use Rattle.stor_wire.proofs.values.length_named.Goals as goal

pub returns-in_err-length-clause-value : goal.returns-in_err-length-clause-value
returns-in_err-length-clause-value c =
    let hs = map (header_bytes c.args.buf.now) c.args.headers.now in
    let name = codes "content-length" in
    let none : c.from_residual.result ≡ None = search rules in
    none ∙ sym (only_none c.args.most (values_named name hs) (sym (first_is name hs) ∙ sym c.in_err-length.ensures))

pub returns-clause-value : goal.returns-clause-value
returns-clause-value c =
    let hs = map (header_bytes c.args.buf.now) c.args.headers.now in
    let name = codes "content-length" in
    let one : length (values_named name hs) ≡ 1 = sym c.count_named.ensures ∙ c.if-count_named-ne1.false in
    c.number.ensures.value ∙ sym (only_one c.args.most (values_named name hs) c.in_ok-length.length.now (sym (first_is name hs) ∙ sym c.in_ok-length.ensures) one)
