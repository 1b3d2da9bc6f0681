-- What the words of a command say, as they were read.
use Rattle.std.specs.Prelude.{◌≤◌}
use Rattle.sat_base.specs.declared.limits.TheConstants as limits
use Rattle.command_line.specs.declared.init.InitWords.{InitWords}
use Rattle.command_line.specs.declared.init.Choices.{Choices}
use Rattle.command_line.specs.declared.serve.ServeWords.{ServeWords}
use Rattle.command_line.specs.declared.sheet.SheetWords.{SheetWords}
use Rattle.command_line.specs.Command as said
use Rattle.command_line.specs.declared.bounds.TheConstants as bounds

abbrev pub choices_said : Choices → said.Choices
choices_said c = record { secret = c.secret; vet = c.vet; fresh = c.fresh }

abbrev pub init_said : InitWords → said.NewStore
init_said words = record {
  store = words.store.now;
  secret = words.choices.secret;
  scheme = said.numbers_of words.scheme;
  vet = words.choices.vet;
  fresh = words.choices.fresh;
  rates = words.rates;
  caps = words.caps;
}

abbrev pub serve_said : ServeWords → said.Server
serve_said words = record {
  store = words.store.now;
  port = words.port;
  lanes = words.lanes;
  term = words.term;
  tick = words.tick;
}

abbrev pub sheet_said : SheetWords → said.MonthSheet
sheet_said words = record { store = words.store.now; month = words.month.0 }

-- the numbers of a server are within their bounds
abbrev pub AreWithin : ServeWords → Type 0
AreWithin words =
    ((1 ≤ words.port) × (words.port ≤ bounds.PORT)) × ((1 ≤ words.lanes) × (words.lanes ≤ bounds.LANES))
    × ((1 ≤ words.term) × (words.term ≤ limits.TERM)) × ((1 ≤ words.tick) × (words.tick ≤ bounds.TICK))
