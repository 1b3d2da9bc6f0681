use Rattle.std.proofs.Common.{codes, map, sym, ◌∙◌, ◌≡◌, ◌≢◌, length}
use Rattle.httparse.specs.Spans.{header_bytes}
use Rattle.http_parts.specs.Headers.{values_named}
use Rattle.http_parts.proofs.HeaderLemmas.{first_is}
use Rattle.node_wire.proofs.LengthLemmas.{lengths_none, lengths_many, lengths_bad, lengths_great, lengths_good}
use Rattle.sat_base.proofs.TextLemmas.{numeral_is}
use Rattle.node_wire.proofs.head.of_length.Goals as goal

pub returns-in_default : goal.returns-in_default
returns-in_default c =
    let hs = map (header_bytes c.args.bytes.now) c.args.headers.now in
    let name = codes "content-length" in
    sym (lengths_none c.args.len (values_named name hs) (sym (first_is name hs) ∙ sym c.in_default.ensures))

pub returns-then-count_named-ne1 : goal.returns-then-count_named-ne1
returns-then-count_named-ne1 c =
    let hs = map (header_bytes c.args.bytes.now) c.args.headers.now in
    let name = codes "content-length" in
    let other : length (values_named name hs) ≢ 1 = λ e. c.if-count_named-ne1.true (c.count_named.ensures ∙ e) in
    sym (lengths_many c.args.len (values_named name hs) c.in-Some.length.now (sym (first_is name hs) ∙ sym c.in-Some.ensures) other)

pub returns-then-not-is_numeral : goal.returns-then-not-is_numeral
returns-then-not-is_numeral c =
    let hs = map (header_bytes c.args.bytes.now) c.args.headers.now in
    let name = codes "content-length" in
    let one : length (values_named name hs) ≡ 1 = sym c.count_named.ensures ∙ c.if-count_named-ne1.false in
    let bad = numeral_is c.is_numeral.result c.in-Some.length.now c.is_numeral.ensures in
    sym (lengths_bad c.args.len (values_named name hs) c.in-Some.length.now (sym (first_is name hs) ∙ sym c.in-Some.ensures) one (bad ∙ c.if-not-is_numeral.true))

pub returns-in-Some-value_up_to : goal.returns-in-Some-value_up_to
returns-in-Some-value_up_to c =
    let hs = map (header_bytes c.args.bytes.now) c.args.headers.now in
    let name = codes "content-length" in
    let one : length (values_named name hs) ≡ 1 = sym c.count_named.ensures ∙ c.if-count_named-ne1.false in
    let good = numeral_is c.is_numeral.result c.in-Some.length.now c.is_numeral.ensures in
    sym (lengths_good c.args.len (values_named name hs) c.in-Some.length.now _ (sym (first_is name hs) ∙ sym c.in-Some.ensures) one (good ∙ c.if-not-is_numeral.false) c.in-Some-value_up_to.ensures)

pub returns-in-None : goal.returns-in-None
returns-in-None c =
    let hs = map (header_bytes c.args.bytes.now) c.args.headers.now in
    let name = codes "content-length" in
    let one : length (values_named name hs) ≡ 1 = sym c.count_named.ensures ∙ c.if-count_named-ne1.false in
    let good = numeral_is c.is_numeral.result c.in-Some.length.now c.is_numeral.ensures in
    sym (lengths_great c.args.len (values_named name hs) c.in-Some.length.now (sym (first_is name hs) ∙ sym c.in-Some.ensures) one (good ∙ c.if-not-is_numeral.false) c.in-None.ensures)
