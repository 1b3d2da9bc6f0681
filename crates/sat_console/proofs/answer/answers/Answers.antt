use Rattle.std.proofs.Common.{◌≡◌, length, [], sym, ◌∙◌, arith}
use Rattle.std.proofs.lemmas.List.{append-nil}
use Rattle.std.proofs.lemmas.Bool.Decides.{nat_tests}
use Rattle.sat_console.specs.Lines.{lines_of}
use Rattle.sat_console.proofs.Cut.{no_lines}
use Rattle.sat_console.proofs.answer.answers.Goals as goal

pub returns : goal.returns
returns c =
    let empty : length c.loop-rest.rest.now ≡ 0 = grind (arith, nat_tests) in
    let e : lines_of c.loop-rest.rest.now ≡ [] = no_lines c.loop-rest.rest.now empty in
    sym (append-nil c.loop-rest.text.items) ∙ (rw e at c.loop-rest.invariant.so_far)
