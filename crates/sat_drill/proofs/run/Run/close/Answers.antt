use Rattle.std.proofs.Common.{◌≡◌, sym, subst}
use Rattle.sat_drill.specs.Drill.{sheet_of}
use Rattle.sat_drill.proofs.RunLemmas.{run_closed}
use Rattle.sat_drill.proofs.run.Run.close.Goals as goal

pub returns-clause-closed : goal.returns-clause-closed
returns-clause-closed c =
    let book = c.self.inside.book in
    let closing = c.close-opening.ensures in
    run_closed book.opening book.history book.tables c.in_ok-sheet.sheet c.close-opening.result.1.items c.close-opening.result.2.items closing.opening closing.history
    (record { spell = closing.spell; lawful = closing.lawful; once = closing.once; pays = closing.pays; closed = closing.closed; shown = closing.shown })
    c.core-core.ensures.replay (subst (λ b. c.in_ok-sheet.sheet ≡ sheet_of b.tables b.tables.setup.first_month) (sym c.self.view_is) c.in_ok-sheet.ensures)
