use Rattle.std.proofs.Common.{ap, inl, inr, rules, ◌∙◌}
use Rattle.sat_book.specs.Book.{start_of}
use Rattle.sat_console.proofs.Once.{settles_once}
use Rattle.sat_console.proofs.Runs.{judges_through, settles_through}
use Rattle.sat_console.specs.Run.{code_of}
use Rattle.sat_init.specs.declared.setup.Setup.{Setup}
use Rattle.satellite_cli.proofs.Asking.{is_asked, same_month, same_term}
use Rattle.satellite_cli.proofs.Drills.{drills_well}
use Rattle.satellite_cli.proofs.Ends.{not_usage, serves_well}
use Rattle.satellite_cli.proofs.Inits.{inits_well}
use Rattle.satellite_cli.proofs.Prints.{sheets_well}
use Rattle.satellite_cli.proofs.Terms.{says_to}
use Rattle.satellite_cli.proofs.top.satellite.Goals.{in-Ok-Settle, in-Ok-Judge, in-Err-Usage}
use Rattle.satellite_cli.proofs.top.satellite.Goals as goal

pub returns-in-Ok-Init-clause-once : goal.returns-in-Ok-Init-clause-once
returns-in-Ok-Init-clause-once g c = settles_once

pub returns-in-Ok-Init-clause-init : goal.returns-in-Ok-Init-clause-init
returns-in-Ok-Init-clause-init g c = λ store is.
    inl (_, is_asked _ _ _ _ _ _ _ c.args.line.now store (rw c.in-Ok-Init.field-0-is at c.in-Ok-Init.ensures.command) is, c.init_world.ensures.inits)

pub returns-in-Ok-Init-clause-init_complete : goal.returns-in-Ok-Init-clause-init_complete
returns-in-Ok-Init-clause-init_complete g c = λ store is up told empty no_fault no_words no_cut.
    inits_well _ _ _ _ _ _ _ _ _ _ _ _ c.init_world.ensures.inits (up, told) empty no_fault no_words no_cut

pub returns-in-Ok-Init-clause-crash : goal.returns-in-Ok-Init-clause-crash
returns-in-Ok-Init-clause-crash g c =
    let given = c.in-Ok-Init in
    let setup : Setup = record {
      secret = given.secret;
      scheme = given.scheme;
      vet = given.vet;
      fresh = given.fresh;
      rates = given.rates;
      caps = given.caps;
    } in
    λ store is clean m left. elim (c.init_world.ensures.crash clean m left) [
      | inl before ↦ inl before
      | inr made ↦ inr (setup, is_asked _ _ _ _ _ _ _ c.args.line.now store (rw c.in-Ok-Init.field-0-is at c.in-Ok-Init.ensures.command) is, made.0, made.1)
    ]

pub returns-in-Ok-Serve-clause-once : goal.returns-in-Ok-Serve-clause-once
returns-in-Ok-Serve-clause-once g c = settles_once

pub returns-in-Ok-Serve-clause-serve : goal.returns-in-Ok-Serve-clause-serve
returns-in-Ok-Serve-clause-serve g c = λ server is.
    let same = same_term _ server c.args.line.now (rw c.in-Ok-Serve.field-0-is at c.in-Ok-Serve.ensures.command) is in
    rw same c.serve_world.ensures.term

pub returns-in-Ok-Serve-clause-serve_complete : goal.returns-in-Ok-Serve-clause-serve_complete
returns-in-Ok-Serve-clause-serve_complete g c = λ server is up told sound no_fault no_cut none no_audit no_repair no_full.
    serves_well g.K.Keeper.about _ (λ b. (start_of b.opening).setup.secret) _ _ _ _ _ _ _ _ _ _
    c.serve_world.ensures.closed c.serve_world.ensures.term up told sound no_fault no_cut none (no_audit, no_repair) no_full

pub returns-in-Ok-Serve-clause-others : goal.returns-in-Ok-Serve-clause-others
returns-in-Ok-Serve-clause-others g c = λ not. absurd (not _ (rw c.in-Ok-Serve.field-0-is at c.in-Ok-Serve.ensures.command))

pub returns-in-Ok-Sheet-clause-once : goal.returns-in-Ok-Sheet-clause-once
returns-in-Ok-Sheet-clause-once g c = settles_once

pub returns-in-Ok-Sheet-clause-sheet : goal.returns-in-Ok-Sheet-clause-sheet
returns-in-Ok-Sheet-clause-sheet g c = λ asked is.
    let same = same_month _ asked c.args.line.now (rw c.in-Ok-Sheet.field-0-is at c.in-Ok-Sheet.ensures.command) is in
    rw same (c.sheet_world.ensures.printed, c.sheet_world.ensures.others.0, c.sheet_world.ensures.others.1)

pub returns-in-Ok-Sheet-clause-sheet_complete : goal.returns-in-Ok-Sheet-clause-sheet_complete
returns-in-Ok-Sheet-clause-sheet_complete g c = λ asked is up told sound no_fault no_cut closed.
    sheets_well g.K.Keeper.about _ _ _ _ _ _
    c.sheet_world.ensures.printed up told sound no_fault no_cut closed

pub returns-in-Ok-Drill-clause-once : goal.returns-in-Ok-Drill-clause-once
returns-in-Ok-Drill-clause-once g c = settles_once

pub returns-in-Ok-Drill-clause-drill : goal.returns-in-Ok-Drill-clause-drill
returns-in-Ok-Drill-clause-drill g c = λ start calls is. c.drill_world.ensures.drills

pub returns-in-Ok-Drill-clause-drill_complete : goal.returns-in-Ok-Drill-clause-drill_complete
returns-in-Ok-Drill-clause-drill_complete g c = λ start calls is no_cut. drills_well _ _ _ _ c.drill_world.ensures.drills no_cut

pub returns-in-Err-NoMemory-clause-once : goal.returns-in-Err-NoMemory-clause-once
returns-in-Err-NoMemory-clause-once g c = settles_once

pub returns-clause-settle : goal.returns-clause-settle
returns-clause-settle g c = search rules

pub returns-clause-judge : goal.returns-clause-judge
returns-clause-judge g c = search rules

pub returns-clause-usage_line : goal.returns-clause-usage_line
returns-clause-usage_line g c =
    let about = g.C.Outside.about in
    elim c.match-read_line.branch [
      | in-Ok-Settle w ↦ λ two. absurd (not_usage _ _ ((λ i. (c.ended-2.ensures i).status) ∙ ap code_of w.status-is) w.settle-status.ensures.which two)
      | in-Ok-Judge w ↦ λ two. absurd (not_usage _ _ ((λ i. (c.ended-2.ensures i).status) ∙ ap code_of w.status-is) w.judge-status.ensures.which two)
      | in-Err-Usage w ↦ λ two. says_to _ _ _ _ (ap about ((λ i. (c.ended-2.ensures i).world.console) ∙ (λ i. (w.world-is i).console))) w.fault-status.ensures.says
    ]

pub returns-clause-complete : goal.returns-clause-complete
returns-clause-complete g c = λ secret cap bytes is told short no_read no_write.
    settles_through secret cap _ _ _ bytes (returns-clause-settle g c secret cap is) told short no_read no_write

pub returns-clause-once : goal.returns-clause-once
returns-clause-once g c = settles_once

pub returns-clause-judge_complete : goal.returns-clause-judge_complete
returns-clause-judge_complete g c = λ k size bytes is told short no_read no_write.
    judges_through k size _ _ _ bytes (returns-clause-judge g c k size is) told short no_read no_write
