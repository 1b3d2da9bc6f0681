use Rattle.std.proofs.Common.{codes, map, sym, ◌∙◌, ◌≡◌, ◌≢◌, length}
use Rattle.httparse.specs.Spans.{header_bytes}
use Rattle.http_parts.specs.Headers.{values_named}
use Rattle.http_parts.proofs.HeaderLemmas.{first_is}
use Rattle.http_edge.proofs.LengthLemmas.{lengths_none, lengths_many, lengths_bad, lengths_great, lengths_good}
use Rattle.sat_base.proofs.TextLemmas.{numeral_is}
use Rattle.http_edge.proofs.demand.with_length.Goals as goal

pub returns-in_default-clause-says : goal.returns-in_default-clause-says
returns-in_default-clause-says c =
    let hs = map (header_bytes c.args.buf.now) c.args.headers.now in
    let name = codes "content-length" in
    sym (lengths_none c.args.route (values_named name hs) (sym (first_is name hs) ∙ sym c.in_default.ensures))

pub returns-then-count_named-ne1-clause-says : goal.returns-then-count_named-ne1-clause-says
returns-then-count_named-ne1-clause-says c =
    let hs = map (header_bytes c.args.buf.now) c.args.headers.now in
    let name = codes "content-length" in
    let other : length (values_named name hs) ≢ 1 = λ e. c.if-count_named-ne1.true (c.count_named.ensures ∙ e) in
    sym (lengths_many c.args.route (values_named name hs) c.in-Some.length.now (sym (first_is name hs) ∙ sym c.in-Some.ensures) other)

pub returns-then-not-is_numeral-clause-says : goal.returns-then-not-is_numeral-clause-says
returns-then-not-is_numeral-clause-says c =
    let hs = map (header_bytes c.args.buf.now) c.args.headers.now in
    let name = codes "content-length" in
    let one : length (values_named name hs) ≡ 1 = sym c.count_named.ensures ∙ c.if-count_named-ne1.false in
    let bad = numeral_is c.is_numeral.result c.in-Some.length.now c.is_numeral.ensures in
    sym (lengths_bad c.args.route (values_named name hs) c.in-Some.length.now (sym (first_is name hs) ∙ sym c.in-Some.ensures) one (bad ∙ c.if-not-is_numeral.true))

pub returns-in-Some-value_up_to-clause-says : goal.returns-in-Some-value_up_to-clause-says
returns-in-Some-value_up_to-clause-says c =
    let hs = map (header_bytes c.args.buf.now) c.args.headers.now in
    let name = codes "content-length" in
    let one : length (values_named name hs) ≡ 1 = sym c.count_named.ensures ∙ c.if-count_named-ne1.false in
    let good = numeral_is c.is_numeral.result c.in-Some.length.now c.is_numeral.ensures in
    sym (lengths_good c.args.route (values_named name hs) c.in-Some.length.now _ (sym (first_is name hs) ∙ sym c.in-Some.ensures) one (good ∙ c.if-not-is_numeral.false) c.in-Some-value_up_to.ensures)

pub returns-in-None-clause-says : goal.returns-in-None-clause-says
returns-in-None-clause-says c =
    let hs = map (header_bytes c.args.buf.now) c.args.headers.now in
    let name = codes "content-length" in
    let one : length (values_named name hs) ≡ 1 = sym c.count_named.ensures ∙ c.if-count_named-ne1.false in
    let good = numeral_is c.is_numeral.result c.in-Some.length.now c.is_numeral.ensures in
    sym (lengths_great c.args.route (values_named name hs) c.in-Some.length.now (sym (first_is name hs) ∙ sym c.in-Some.ensures) one (good ∙ c.if-not-is_numeral.false) c.in-None.ensures)
