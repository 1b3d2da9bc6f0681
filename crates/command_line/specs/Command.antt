-- The commands, and the words that ask for them.
use Rattle.std.specs.Prelude.{Bool, true, false, ℕ, ◌≤◌, List, [], ◌∷◌, Option, Some, None, codes, is_none, option_map, if◌then◌else◌}
use Rattle.sat_base.specs.declared.limits.TheConstants as limits
use Rattle.sat_base.specs.declared.rates.Rates.{Rates}
use Rattle.sat_base.specs.declared.scheme.Scheme.{Scheme}
use Rattle.sat_base.specs.declared.settings.Caps.{Caps}
use Rattle.sat_base.specs.Limits.{IsMonthWithin}
use Rattle.sat_base.specs.Scheme.{first_broken}
use Rattle.command_line.specs.declared.bounds.TheConstants as bounds
use Rattle.command_line.specs.declared.command.Command.{Command}
use Rattle.command_line.specs.declared.command.Command.TheVariants as commands
use Rattle.command_line.specs.declared.names.Name.{Name}
use Rattle.command_line.specs.declared.names.Name.TheVariants as names
use Rattle.command_line.specs.Names.{name_in}
use Rattle.word_pairs.specs.Pairs.{is_form, value_of}
use Rattle.word_pairs.specs.Values.{number_or, number_within, secret_of, secret_or_none}
use Rattle.command_line.specs.Values.{month_of}

-- ---- what is asked for, in plain numbers

pub record Numbers : Type 0 where
  pub k : ℕ
  pub m : ℕ
  pub o : ℕ
  pub n : ℕ
  pub share : ℕ

pub record NewStore : Type 0 where
  pub store : List ℕ
  pub secret : Option (List ℕ)
  pub scheme : Numbers
  pub vet : ℕ
  pub fresh : ℕ
  pub rates : Rates
  pub caps : Caps

pub record Server : Type 0 where
  pub store : List ℕ
  pub port : ℕ
  pub lanes : ℕ
  pub term : ℕ
  pub tick : ℕ

pub record MonthSheet : Type 0 where
  pub store : List ℕ
  pub month : ℕ

pub data Asked : Type 0 where
  settle : (secret : List ℕ) (cap : ℕ) → Asked
  judge : (k share : ℕ) → Asked
  init : NewStore → Asked
  serve : Server → Asked
  sheet : MonthSheet → Asked
  drill : (start calls : ℕ) → Asked

abbrev pub numbers_of : Scheme → Numbers
numbers_of scheme = record { k = scheme.k; m = scheme.m; o = scheme.o; n = scheme.n; share = scheme.share }

-- what a command asks for
abbrev pub asked : Command → Asked
asked (commands.Settle secret cap) = settle secret cap
asked (commands.Judge k share) = judge k share
asked (commands.Init store secret scheme vet fresh rates caps) = init (record {
  store = store;
  secret = secret;
  scheme = numbers_of scheme;
  vet = vet;
  fresh = fresh;
  rates = rates;
  caps = caps;
})
asked (commands.Serve store port lanes term tick) = serve (record {
  store = store;
  port = port;
  lanes = lanes;
  term = term;
  tick = tick;
})
asked (commands.Sheet store month) = sheet (record { store = store; month = month.0 })
asked (commands.Drill start calls) = drill start calls

-- the numbers of a command are within their bounds
abbrev pub IsWithin : Command → Type 0
IsWithin (commands.Judge k share) = (1 ≤ k) × (k ≤ bounds.JUDGED) × (1 ≤ share) × (share ≤ limits.SHARE)
IsWithin (commands.Serve store port lanes term tick) =
    ((1 ≤ port) × (port ≤ bounds.PORT)) × ((1 ≤ lanes) × (lanes ≤ bounds.LANES)) × ((1 ≤ term) × (term ≤ limits.TERM))
    × ((1 ≤ tick) × (tick ≤ bounds.TICK))
IsWithin (commands.Sheet store month) = IsMonthWithin month.0
IsWithin (commands.Drill start calls) = (1 ≤ calls) × (calls ≤ bounds.CALLS)
IsWithin _ = Unit {0}

-- ---- settle

abbrev pub settle_names : List (List ℕ)
settle_names = codes "--secret" ∷ codes "--cap" ∷ []

abbrev pub settle_with : Option (List ℕ) → Option ℕ → Option Asked
settle_with None cap = None
settle_with (Some secret) None = None
settle_with (Some secret) (Some cap) = Some (settle secret cap)

-- what the words behind `settle` ask for
unfoldable pub settle_of : List (List ℕ) → Option Asked
settle_of words =
    if is_form settle_names words
    then settle_with (secret_of (value_of (codes "--secret") words))
    (number_or limits.SETTLED 1 limits.SETTLED (value_of (codes "--cap") words))
    else None

-- ---- judge

abbrev pub judge_names : List (List ℕ)
judge_names = codes "--k" ∷ codes "--share" ∷ []

abbrev pub judge_with : Option ℕ → Option ℕ → Option Asked
judge_with None share = None
judge_with (Some k) None = None
judge_with (Some k) (Some share) = Some (judge k share)

-- what the words behind `judge` ask for
unfoldable pub judge_of : List (List ℕ) → Option Asked
judge_of words =
    if is_form judge_names words
    then judge_with (number_within 1 bounds.JUDGED (value_of (codes "--k") words))
    (number_within 1 limits.SHARE (value_of (codes "--share") words))
    else None

-- ---- init

abbrev pub init_names : List (List ℕ)
init_names = codes "--store" ∷ codes "--secret" ∷ codes "--k" ∷ codes "--m" ∷ codes "--o" ∷ codes "--n" ∷ codes "--share"
    ∷ codes "--vet" ∷ codes "--fresh" ∷ codes "--get" ∷ codes "--audit" ∷ codes "--repair" ∷ codes "--storage"
    ∷ codes "--cap-nodes" ∷ codes "--cap-customers" ∷ codes "--cap-segments" ∷ codes "--cap-settled"
    ∷ codes "--cap-tallies" ∷ codes "--cap-statements" ∷ []

-- numbers that break no rule of a scheme
abbrev pub sound : Numbers → Option Numbers
sound s = if is_none (first_broken s.k s.m s.o s.n s.share) then Some s else None

abbrev pub scheme_with : Option ℕ → Option ℕ → Option ℕ → Option ℕ → Option ℕ → Option Numbers
scheme_with None m o n share = None
scheme_with (Some k) None o n share = None
scheme_with (Some k) (Some m) None n share = None
scheme_with (Some k) (Some m) (Some o) None share = None
scheme_with (Some k) (Some m) (Some o) (Some n) None = None
scheme_with (Some k) (Some m) (Some o) (Some n) (Some share) =
    sound (record { k = k; m = m; o = o; n = n; share = share })

-- a number of pieces
abbrev pub pieces_of : List ℕ → List (List ℕ) → Option ℕ
pieces_of name words = number_within 1 limits.PLACES (value_of name words)

unfoldable pub scheme_of : List (List ℕ) → Option Numbers
scheme_of words =
    scheme_with (pieces_of (codes "--k") words) (pieces_of (codes "--m") words) (pieces_of (codes "--o") words)
    (pieces_of (codes "--n") words) (number_or bounds.USUAL_SHARE 1 limits.SHARE (value_of (codes "--share") words))

abbrev pub rates_with : Option ℕ → Option ℕ → Option ℕ → Option ℕ → Option Rates
rates_with None audit repair storage = None
rates_with (Some get) None repair storage = None
rates_with (Some get) (Some audit) None storage = None
rates_with (Some get) (Some audit) (Some repair) None = None
rates_with (Some get) (Some audit) (Some repair) (Some storage) =
    Some (record { get = get; audit = audit; repair = repair; storage = storage })

-- a rate, or the usual one
abbrev pub rate_of : ℕ → List ℕ → List (List ℕ) → Option ℕ
rate_of usual name words = number_or usual 0 limits.RATE (value_of name words)

unfoldable pub rates_of : List (List ℕ) → Option Rates
rates_of words =
    rates_with (rate_of bounds.USUAL_GET (codes "--get") words) (rate_of bounds.USUAL_AUDIT (codes "--audit") words)
    (rate_of bounds.USUAL_REPAIR (codes "--repair") words) (rate_of bounds.USUAL_STORAGE (codes "--storage") words)

abbrev pub caps_with : Option ℕ → Option ℕ → Option ℕ → Option ℕ → Option ℕ → Option ℕ → Option Caps
caps_with None customers segments settled tallies statements = None
caps_with (Some nodes) None segments settled tallies statements = None
caps_with (Some nodes) (Some customers) None settled tallies statements = None
caps_with (Some nodes) (Some customers) (Some segments) None tallies statements = None
caps_with (Some nodes) (Some customers) (Some segments) (Some settled) None statements = None
caps_with (Some nodes) (Some customers) (Some segments) (Some settled) (Some tallies) None = None
caps_with (Some nodes) (Some customers) (Some segments) (Some settled) (Some tallies) (Some statements) = Some (record {
  nodes = nodes;
  customers = customers;
  segments = segments;
  settled = settled;
  tallies = tallies;
  statements = statements;
})

-- a cap, the greatest one where it isn't named
abbrev pub cap_of : ℕ → List ℕ → List (List ℕ) → Option ℕ
cap_of most name words = number_or most 1 most (value_of name words)

unfoldable pub caps_of : List (List ℕ) → Option Caps
caps_of words =
    caps_with (cap_of limits.NODES (codes "--cap-nodes") words) (cap_of limits.CUSTOMERS (codes "--cap-customers") words)
    (cap_of limits.SEGMENTS (codes "--cap-segments") words) (cap_of limits.SETTLED (codes "--cap-settled") words)
    (cap_of limits.TALLIES (codes "--cap-tallies") words) (cap_of limits.STATEMENTS (codes "--cap-statements") words)

-- the secret, when a node is vetted, and the share of places for those that aren't
pub record Choices : Type 0 where
  pub secret : Option (List ℕ)
  pub vet : ℕ
  pub fresh : ℕ

abbrev pub choices_with : Option (Option (List ℕ)) → Option ℕ → Option ℕ → Option Choices
choices_with None vet fresh = None
choices_with (Some secret) None fresh = None
choices_with (Some secret) (Some vet) None = None
choices_with (Some secret) (Some vet) (Some fresh) = Some (record { secret = secret; vet = vet; fresh = fresh })

unfoldable pub choices_of : List (List ℕ) → Option Choices
choices_of words =
    choices_with (secret_or_none (value_of (codes "--secret") words))
    (number_or bounds.USUAL_VET 1 limits.VET (value_of (codes "--vet") words))
    (number_or bounds.USUAL_FRESH 0 bounds.PERCENT (value_of (codes "--fresh") words))

abbrev pub init_with : Option (List ℕ) → Option Choices → Option Numbers → Option Rates → Option Caps → Option NewStore
init_with None choices scheme rates caps = None
init_with (Some store) None scheme rates caps = None
init_with (Some store) (Some choices) None rates caps = None
init_with (Some store) (Some choices) (Some scheme) None caps = None
init_with (Some store) (Some choices) (Some scheme) (Some rates) None = None
init_with (Some store) (Some choices) (Some scheme) (Some rates) (Some caps) = Some (record {
  store = store;
  secret = choices.secret;
  scheme = scheme;
  vet = choices.vet;
  fresh = choices.fresh;
  rates = rates;
  caps = caps;
})

-- what the words behind `init` ask for
unfoldable pub init_of : List (List ℕ) → Option NewStore
init_of words =
    if is_form init_names words
    then init_with (value_of (codes "--store") words) (choices_of words) (scheme_of words) (rates_of words) (caps_of words)
    else None

-- ---- serve

abbrev pub serve_names : List (List ℕ)
serve_names = codes "--store" ∷ codes "--port" ∷ codes "--lanes" ∷ codes "--term" ∷ codes "--tick" ∷ []

abbrev pub serve_with : Option (List ℕ) → Option ℕ → Option ℕ → Option ℕ → Option ℕ → Option Server
serve_with None port lanes term tick = None
serve_with (Some store) None lanes term tick = None
serve_with (Some store) (Some port) None term tick = None
serve_with (Some store) (Some port) (Some lanes) None tick = None
serve_with (Some store) (Some port) (Some lanes) (Some term) None = None
serve_with (Some store) (Some port) (Some lanes) (Some term) (Some tick) =
    Some (record { store = store; port = port; lanes = lanes; term = term; tick = tick })

-- what the words behind `serve` ask for
unfoldable pub serve_of : List (List ℕ) → Option Server
serve_of words =
    if is_form serve_names words
    then serve_with (value_of (codes "--store") words) (number_within 1 bounds.PORT (value_of (codes "--port") words))
    (number_or 1 1 bounds.LANES (value_of (codes "--lanes") words))
    (number_or limits.TERM 1 limits.TERM (value_of (codes "--term") words))
    (number_or bounds.USUAL_TICK 1 bounds.TICK (value_of (codes "--tick") words))
    else None

-- ---- sheet

abbrev pub sheet_names : List (List ℕ)
sheet_names = codes "--store" ∷ codes "--month" ∷ []

abbrev pub sheet_with : Option (List ℕ) → Option ℕ → Option MonthSheet
sheet_with None month = None
sheet_with (Some store) None = None
sheet_with (Some store) (Some month) = Some (record { store = store; month = month })

-- what the words behind `sheet` ask for
unfoldable pub sheet_of : List (List ℕ) → Option MonthSheet
sheet_of words =
    if is_form sheet_names words
    then sheet_with (value_of (codes "--store") words) (month_of (value_of (codes "--month") words))
    else None

-- ---- drill

abbrev pub drill_names : List (List ℕ)
drill_names = codes "--start" ∷ codes "--calls" ∷ []

abbrev pub drill_with : Option ℕ → Option ℕ → Option Asked
drill_with None calls = None
drill_with (Some start) None = None
drill_with (Some start) (Some calls) = Some (drill start calls)

-- what the words behind `drill` ask for
unfoldable pub drill_of : List (List ℕ) → Option Asked
drill_of words =
    if is_form drill_names words
    then drill_with (number_within 0 18446744073709551615 (value_of (codes "--start") words))
    (number_within 1 bounds.CALLS (value_of (codes "--calls") words))
    else None

-- ---- all

-- what the words behind the name of a command ask for
abbrev pub named_of : Option Name → List (List ℕ) → Option Asked
named_of None words = None
named_of (Some names.Settle) words = settle_of words
named_of (Some names.Judge) words = judge_of words
named_of (Some names.Init) words = option_map init (init_of words)
named_of (Some names.Serve) words = option_map serve (serve_of words)
named_of (Some names.Sheet) words = option_map sheet (sheet_of words)
named_of (Some names.Drill) words = drill_of words

-- what the words ask for, if they are a command
unfoldable pub command_of : List (List ℕ) → Option Asked
command_of [] = None
command_of (name ∷ words) = named_of (name_in name) words

-- a store is named
abbrev pub names_store : Option Asked → Bool
names_store (Some (init store)) = true
names_store (Some (serve server)) = true
names_store (Some (sheet month)) = true
names_store _ = false
