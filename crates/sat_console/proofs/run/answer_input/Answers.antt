use Rattle.std.proofs.Common.{[], arith, refl, sym, ap, inl}
use Rattle.sat_base.proofs.Told.{with_front-none}
use Rattle.sat_console.specs.Run.{code_of}
use Rattle.sat_console.proofs.Runs.{Read, fault_ran}
use Rattle.sat_console.proofs.run.answer_input.Goals as goal

pub returns-in-Err : goal.returns-in-Err
returns-in-Err g c =
    let about = g.C.Outside.about in
    let old = about c.args.console.now in
    let read : Read old old [] = record { at_most = omega arith; took = sym (with_front-none old.left); written = refl; write_faults = refl } in
    fault_ran _ _ old old (about c.fault.new.console) [] (code_of c.fault.result) 9 read (ap code_of c.fault.ensures.status) (inl refl) c.fault.ensures.says (λ e. absurd (omega arith)) (λ e. absurd (omega arith))
