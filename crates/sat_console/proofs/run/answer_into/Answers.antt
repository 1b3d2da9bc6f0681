use Rattle.std.proofs.Common.{◌≡◌, ◌+◌, take, length, arith, refl, ap, inl, inr}
use Rattle.std.proofs.lemmas.List.{length-take}
use Rattle.sat_console.specs.Run.{code_of, input_room, max_input}
use Rattle.sat_console.proofs.Runs.{fault_ran, read_front, whole_ran}
use Rattle.sat_console.proofs.run.answer_into.Goals as goal

pub returns-in-Failed : goal.returns-in-Failed
returns-in-Failed g c =
    let about = g.C.Outside.about in
    let len = c.fill-filled.result.len in
    let buf = c.fill-filled.new.buf in
    let size : length buf ≡ input_room = omega (arith, c.fill-filled.ensures.length) in
    let t = rw c.in-Failed.is at c.fill-filled.ensures.took in
    let read = read_front _ buf len _ _ (about c.args.console.now) (about c.fill-filled.new.source) size t in
    let rose = t.faults.1 in
    fault_ran _ _ _ _ (about c.fault.new.console) (take len buf) (code_of c.fault.result) 11 read (ap code_of c.fault.ensures.status) (inr (inl refl)) c.fault.ensures.says (λ e. omega (arith, rose)) (λ e. absurd (omega arith))

pub returns-in-Full : goal.returns-in-Full
returns-in-Full g c =
    let about = g.C.Outside.about in
    let len = c.fill-filled.result.len in
    let buf = c.fill-filled.new.buf in
    let size : length buf ≡ input_room = omega (arith, c.fill-filled.ensures.length) in
    let read = read_front _ buf len _ _ (about c.args.console.now) (about c.fill-filled.new.source) size c.fill-filled.ensures.took in
    let full = rw c.in-Full.is at c.fill-filled.ensures.end in
    fault_ran _ _ _ _ (about c.fault-in-Full.new.console) (take len buf) (code_of c.fault-in-Full.result) 12 read (ap code_of c.fault-in-Full.ensures.status) (inr (inr refl)) c.fault-in-Full.ensures.says (λ e. absurd (omega arith)) (λ e. omega (arith, full, length-take len buf))

pub returns-in-Ended : goal.returns-in-Ended
returns-in-Ended g c =
    let about = g.C.Outside.about in
    let len = c.fill-filled.result.len in
    let buf = c.fill-filled.new.buf in
    let size : length buf ≡ input_room = omega (arith, c.fill-filled.ensures.length) in
    let read = read_front _ buf len _ _ (about c.args.console.now) (about c.fill-filled.new.source) size c.fill-filled.ensures.took in
    let ended = rw c.in-Ended.is at c.fill-filled.ensures.end in
    whole_ran _ _ _ _ _ (take len buf) _ read (omega (arith, ended.0, length-take len buf)) ended.1 c.answer_read.ensures
