-- What was heard, as the answers of nodes.
use Rattle.sat_base.specs.declared.nodes.Fetched.{Fetched}
use Rattle.sat_base.specs.declared.nodes.Fetched.TheVariants as fetches
use Rattle.sat_base.specs.declared.nodes.Stored.{Stored}
use Rattle.sat_base.specs.declared.nodes.Stored.TheVariants as stores
use Rattle.std.specs.Prelude.{List, Option, None}
use Rattle.sat_base.specs.declared.nodes.Ask.{Ask}
use Rattle.sat_base.specs.declared.nodes.Held.{Held}
use Rattle.node_wire.specs.Heard.{Said, share, missing, kept, no_answer}
use Rattle.node_wire.specs.Readings.{SomeSay}
use Rattle.node_wire.specs.declared.head.Question.TheVariants.{Fetch, Put}
use Rattle.node_wire.specs.declared.reading.Outcome.{Outcome}
use Rattle.node_wire.specs.declared.reading.Outcome.TheVariants as outcomes

-- of a fetch
abbrev pub fetched_of : Said → Fetched
fetched_of (share bytes) = fetches.Share bytes
fetched_of missing = fetches.Missing
fetched_of kept = fetches.NoAnswer
fetched_of no_answer = fetches.NoAnswer

-- of a put
abbrev pub stored_of : Outcome → Stored
stored_of outcomes.Kept = stores.Kept
stored_of outcomes.Share = stores.NoAnswer
stored_of outcomes.Missing = stores.NoAnswer
stored_of outcomes.NoAnswer = stores.NoAnswer

-- a share, and that a piece is missing, are what the bytes of some answer say
abbrev pub IsHeardFetch : Ask → Fetched → Type 0
IsHeardFetch ask (fetches.Share bytes) = SomeSay (Fetch ask.len) (share bytes)
IsHeardFetch ask fetches.Missing = SomeSay (Fetch ask.len) missing
IsHeardFetch ask fetches.NoAnswer = Unit {0}
IsHeardFetch ask fetches.NoMemory = Unit {0}

-- that a piece is kept is what the bytes of some answer say
abbrev pub IsHeardPut : Stored → Type 0
IsHeardPut stores.Kept = SomeSay Put kept
IsHeardPut stores.NoAnswer = Unit {0}
IsHeardPut stores.NoMemory = Unit {0}

-- nodes of the network don't tell what they hold, nor what they were asked
abbrev pub no_held : Option (List Held)
no_held = None

abbrev pub no_asks : Option (List Ask)
no_asks = None
