use Rattle.std.proofs.Common.{refl, ap, arith}
use Rattle.sat_console.specs.Run.{code_of}
use Rattle.sat_console.proofs.Runs.{answers_fault, answers_refused, answers_whole, answers_cut}
use Rattle.sat_console.proofs.run.answer_read.Goals as goal

pub returns-in-Err : goal.returns-in-Err
returns-in-Err g c = answers_fault _ _ _ _ _ _ (ap code_of c.fault.ensures.status) c.fault.ensures.says

pub returns-in-Ok-Refused : goal.returns-in-Ok-Refused
returns-in-Ok-Refused g c =
    answers_refused _ _ c.args.input.now c.in-Ok-Refused.line.items c.deref.result.now _ _ (rw c.in-Ok-Refused.field-0-is at c.in-Ok-Refused.ensures) c.deref.ensures.value c.say.ensures.says

pub returns-then-write_all : goal.returns-then-write_all
returns-then-write_all g c =
    let w = c.if-write_all.ensures in
    answers_whole _ _ c.args.input.now c.in-Ok-Text.text.items c.deref-in-Ok-Text.result.now _ _ (rw c.in-Ok-Text.field-0-is at c.in-Ok-Text.ensures) c.deref-in-Ok-Text.ensures.value (w.all refl) w.input

pub returns : goal.returns
returns g c =
    let w = c.if-write_all.ensures in
    let rose = w.faults.1 in
    answers_cut _ _ c.args.input.now c.in-Ok-Text.text.items c.deref-in-Ok-Text.result.now _ _ w.some.0 (rw c.in-Ok-Text.field-0-is at c.in-Ok-Text.ensures) c.deref-in-Ok-Text.ensures.value w.some.2 (omega (arith, rose)) w.input
