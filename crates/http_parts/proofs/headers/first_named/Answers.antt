use Rattle.std.proofs.Common.{map, ap, ◌∙◌, sym, Some}
use Rattle.std.specs.Char.{to_ascii_lowercase}
use Rattle.http_parts.proofs.HeaderLemmas.{text_test, no_header, first_yes, first_no}
use Rattle.http_parts.proofs.headers.first_named.Goals as goal

pub returns-then-eq_ignore_ascii_case : goal.returns-then-eq_ignore_ascii_case
returns-then-eq_ignore_ascii_case c =
    let named = text_test c.eq_ignore_ascii_case.result (map to_ascii_lowercase c.of.result.now) (map to_ascii_lowercase c.args.name.now) c.eq_ignore_ascii_case.ensures.test in
    let named = rw c.of.ensures at named in
    let one = first_yes c.args.name.now c.args.buf.now c.args.headers.now c.loop-header.header-index no_header c.loop-header-test.true (named ∙ c.if-eq_ignore_ascii_case.true) in
    ap (λ v. Some v) c.of-then-eq_ignore_ascii_case.ensures ∙ sym one ∙ c.loop-header.invariant

pub loop-header-preserved : goal.loop-header-preserved
loop-header-preserved c =
    let named = text_test c.eq_ignore_ascii_case.result (map to_ascii_lowercase c.of.result.now) (map to_ascii_lowercase c.args.name.now) c.eq_ignore_ascii_case.ensures.test in
    let named = rw c.of.ensures at named in
    let none = first_no c.args.name.now c.args.buf.now c.args.headers.now c.loop-header.header-index no_header c.loop-header-test.true (named ∙ c.if-eq_ignore_ascii_case.false) in
    sym none ∙ c.loop-header.invariant
