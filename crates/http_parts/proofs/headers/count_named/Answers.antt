use Rattle.std.proofs.Common.{arith, map, ◌∙◌}
use Rattle.std.specs.Char.{to_ascii_lowercase}
use Rattle.http_parts.proofs.HeaderLemmas.{text_test, no_header, count_yes, count_no}
use Rattle.http_parts.proofs.headers.count_named.Goals.{then-eq_ignore_ascii_case, else-eq_ignore_ascii_case}
use Rattle.http_parts.proofs.headers.count_named.Goals as goal

pub loop-header-preserved : goal.loop-header-preserved
loop-header-preserved c =
    let named = text_test c.eq_ignore_ascii_case.result (map to_ascii_lowercase c.of.result.now) (map to_ascii_lowercase c.args.name.now) c.eq_ignore_ascii_case.ensures.test in
    let named = rw c.of.ensures at named in
    elim c.if-eq_ignore_ascii_case.branch [
      | then-eq_ignore_ascii_case w ↦
          let one = count_yes c.args.name.now c.args.buf.now c.args.headers.now c.loop-header.header-index no_header c.loop-header-test.true (named ∙ w.if-eq_ignore_ascii_case.true) in
          record { few = omega arith; rest = omega (arith, w.count-is) }
      | else-eq_ignore_ascii_case w ↦
          let none = count_no c.args.name.now c.args.buf.now c.args.headers.now c.loop-header.header-index no_header c.loop-header-test.true (named ∙ w.if-eq_ignore_ascii_case.false) in
          record { few = omega arith; rest = omega (arith, w.count-is) }
    ]
