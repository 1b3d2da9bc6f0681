use Rattle.std.proofs.Common.{rules, ◌≡◌, sym, ◌∙◌, ap, arith, map, drop, Some, None}
use Rattle.std.proofs.lemmas.List.{length-drop}
use Rattle.httparse.specs.Spans.{name_and_value}
use Rattle.stor_wire.specs.Settlements.{max_body}
use Rattle.stor_wire.specs.Values.{length_named}
use Rattle.stor_wire.proofs.AnswerLemmas.{answer_at, lacks_of_long, lacks_of_short, lacks_of_unsized}
use Rattle.stor_wire.proofs.response.behind_head.Goals as goal

pub returns-then-spans-gt-MAX_HEAD : goal.returns-then-spans-gt-MAX_HEAD
returns-then-spans-gt-MAX_HEAD c = λ h at.
    lacks_of_long c.args.bytes.now h (drop c.args.spans.len c.args.bytes.now) at.reads (omega (arith, at.len, c.if-spans-gt-MAX_HEAD.true))

pub returns-in_err-size : goal.returns-in_err-size
returns-in_err-size c = λ h at.
    let none : length_named max_body (map name_and_value h.fields) ≡ None = ap (length_named max_body) (sym at.fields) ∙ sym c.in_err-size.ensures.value in
    let gone : c.from_residual.result ≡ None = search rules in
    rw gone (lacks_of_unsized c.args.bytes.now h (drop c.args.spans.len c.args.bytes.now) at.reads none)

pub returns-then-bytes-spans : goal.returns-then-bytes-spans
returns-then-bytes-spans c = λ h at.
    let bytes = c.args.bytes.now in
    let size = c.in_ok-size.size in
    let sized : length_named max_body (map name_and_value h.fields) ≡ Some size = ap (length_named max_body) (sym at.fields) ∙ sym c.in_ok-size.ensures.value in
    lacks_of_short bytes h (drop c.args.spans.len bytes) size at.reads sized (omega (arith, length-drop c.args.spans.len bytes, c.if-bytes-spans.true))

pub returns : goal.returns
returns c = λ h at.
    answer_at c.args.bytes.now c.args.headers.now c.args.spans h c.in_ok-size.size c.requires.lines c.requires.within at (omega (arith, c.if-spans-gt-MAX_HEAD.false))
    (sym c.in_ok-size.ensures.value) (omega (arith, c.if-bytes-spans.false))
