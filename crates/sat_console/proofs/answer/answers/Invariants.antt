use Rattle.std.proofs.Common.{◌≡◌, ◌++◌, length}
use Rattle.sat_console.specs.Lines.{lines_of}
use Rattle.sat_console.specs.Answers.{answers_from, answers_to, text_of}
use Rattle.sat_console.proofs.answer.answers.Given as goal

-- what was written, and behind it the answers to the rest beside the rows so far, are the whole text
abbrev pub invariant-loop-rest : goal.invariant-loop-rest
invariant-loop-rest l = record {
  cap : l.rows.cap ≡ l.cap;
  so_far : l.text.items ++ text_of (answers_from l.keys l.cap l.rows.rows (lines_of l.rest)) ≡ text_of (answers_to l.keys l.cap (lines_of l.input));
}

abbrev pub decreases-loop-rest : goal.decreases-loop-rest
decreases-loop-rest l = length l.rest
