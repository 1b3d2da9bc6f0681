use Rattle.satellite_cli.proofs.worlds.sheet_world.Goals as goal

pub returns-clause-printed : goal.returns-clause-printed
returns-clause-printed g c = rw c.ended.ensures c.print_sheet-keeper.ensures
