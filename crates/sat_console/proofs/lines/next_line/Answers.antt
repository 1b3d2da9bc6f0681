use Rattle.std.proofs.Common.{◌∙◌, refl, arith}
use Rattle.sat_console.proofs.Cut.{first_cut, last_line}
use Rattle.sat_console.proofs.lines.next_line.Goals as goal

pub returns-then-end-input-clause-lines : goal.returns-then-end-input-clause-lines
returns-then-end-input-clause-lines c = last_line c.args.input.now c.newline-end.result c.requires (omega arith) c.newline-end.ensures.before

pub returns-clause-lines : goal.returns-clause-lines
returns-clause-lines c = first_cut c.args.input.now c.newline-end.result (omega arith) (c.newline-end.ensures.found (omega arith)) c.newline-end.ensures.before ∙ rw c.without_cr.ensures refl
