use Rattle.std.proofs.Common.{subst, sym, ◌∙◌}
use Rattle.machine_step.specs.Bounds.{Each}
use Rattle.machine_step.specs.Writable.{IsWritable}
use Rattle.machine_step.proofs.StepLemmas.{writable_step}
use Rattle.sat_book.proofs.AnswerLemmas.{made_of, done_of, fault_of, memory_of}
use Rattle.sat_book.proofs.answering.take_step.Goals as goal

pub write-requires : goal.write-requires
write-requires g c =
    subst (Each IsWritable) (sym c.in-Ok.ensures.holds.changes)
    (writable_step c.args.core.now.tables c.args.call.now c.marks-marks.ensures.valid c.requires.formed)

pub returns-in-Done-clause-answers : goal.returns-in-Done-clause-answers
returns-in-Done-clause-answers g c =
    let fit = writable_step c.args.core.now.tables c.args.call.now c.marks-marks.ensures.valid c.requires.formed in
    done_of g.K.Keeper.about c.args.core.now.tables c.args.call.now c.requires.formed c.requires.ids fit
    c.in-Ok.prepared c.in-Ok.ensures.holds c.finish.result c.in-Done.kept c.finish.new.self.tables c.args.keeper.now c.write.new.keeper
    c.finish.ensures.reply
    (made_of _ c.args.call.now c.prepare.new.self.tables c.args.core.now.tables c.finish.new.self.tables c.in-Ok.ensures.pending c.prepare.ensures.tables c.finish.ensures.tables)
    g.met.K.Keeper.leaves_no_other
    c.in-Done.ensures.written

pub returns-in-Fault-clause-answers : goal.returns-in-Fault-clause-answers
returns-in-Fault-clause-answers g c =
    let fit = writable_step c.args.core.now.tables c.args.call.now c.marks-marks.ensures.valid c.requires.formed in
    fault_of g.K.Keeper.about c.args.core.now.tables c.args.call.now c.requires.formed c.requires.ids fit
    c.in-Ok.prepared c.in-Ok.ensures.holds c.lost.result.told c.forget.new.self.tables c.args.keeper.now c.write.new.keeper
    c.in-Fault.before c.in-Fault.after c.lost.ensures.told (c.forget.ensures.tables ∙ c.prepare.ensures.tables) c.in-Fault.ensures.written

pub returns-in-NoMemory-clause-answers : goal.returns-in-NoMemory-clause-answers
returns-in-NoMemory-clause-answers g c =
    let fit = writable_step c.args.core.now.tables c.args.call.now c.marks-marks.ensures.valid c.requires.formed in
    memory_of g.K.Keeper.about c.args.core.now.tables c.args.call.now c.requires.formed c.requires.ids fit
    c.in-Ok.prepared c.in-Ok.ensures.holds c.no_memory-in-NoMemory.result.told c.forget-in-NoMemory.new.self.tables c.args.keeper.now c.write.new.keeper
    c.no_memory-in-NoMemory.ensures.told (c.forget-in-NoMemory.ensures.tables ∙ c.prepare.ensures.tables) c.in-NoMemory.ensures.written
