use Rattle.sat_console.specs.Run.{code_of}
use Rattle.satellite_cli.proofs.Prints.{printed_of}
use Rattle.satellite_cli.proofs.printing.print_sheet.Goals as goal

pub returns : goal.returns
returns g c =
    printed_of g.K.Keeper.about c.args.month.0 c.args.keeper c.close-keeper.result.0
    (code_of c.print_month-status.result) _ _ c.in-Ok.book c.core.result.now.tables c.in-Ok.ensures.opened c.close-keeper.ensures.keeper c.close-keeper.ensures.spell c.close-keeper.ensures.keeps
    c.core.ensures.tables c.core.ensures.replay c.print_month-status.ensures
