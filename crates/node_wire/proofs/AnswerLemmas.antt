-- What was heard, as the answers of nodes.
use Rattle.std.proofs.Common.{◌≡◌, ◌⊎◌, inl, inr, subst, sym}
use Rattle.sat_base.specs.declared.nodes.Ask.{Ask}
use Rattle.sat_base.specs.declared.nodes.Fetched.{Fetched}
use Rattle.sat_base.specs.declared.nodes.Fetched.TheVariants as fetches
use Rattle.sat_base.specs.Nodes.{FetchesWithin}
use Rattle.node_wire.specs.Answers.{IsHeardFetch, IsHeardPut, fetched_of, stored_of}
use Rattle.node_wire.specs.Readings.{ComesTo, said_of}
use Rattle.node_wire.specs.declared.head.Question.TheVariants.{Fetch, Put}
use Rattle.node_wire.specs.declared.reading.Outcome.{Outcome}
use Rattle.node_wire.specs.declared.reading.Outcome.TheVariants as outcomes
use Rattle.node_wire.specs.declared.reading.Reading.{Reading}
use Rattle.node_wire.proofs.HeardLaws.{heard_within}

comes_fetched : (ask : Ask) (outcome : Outcome) (reading : Reading) → ComesTo (Fetch ask.len) outcome reading → IsHeardFetch ask (fetched_of (said_of reading outcome))
comes_fetched ask outcomes.Share reading h = h.heard
comes_fetched ask outcomes.Missing reading h = h.heard
comes_fetched ask outcomes.Kept reading h = tt
comes_fetched ask outcomes.NoAnswer reading h = tt

-- an answer that was read, as that of a fetch
pub fetched_heard : (ask : Ask) (outcome : Outcome) (reading : Reading) (fetched : Fetched) → ComesTo (Fetch ask.len) outcome reading
    → (fetched ≡ fetched_of (said_of reading outcome)) ⊎ (fetched ≡ fetches.NoMemory) → IsHeardFetch ask fetched
fetched_heard ask outcome reading fetched comes (inl e) = subst (IsHeardFetch ask) (sym e) (comes_fetched ask outcome reading comes)
fetched_heard ask outcome reading fetched comes (inr e) = subst (IsHeardFetch ask) (sym e) tt

-- and of a put
pub stored_heard : (outcome : Outcome) (reading : Reading) → ComesTo Put outcome reading → IsHeardPut (stored_of outcome)
stored_heard outcomes.Kept reading h = h.heard
stored_heard outcomes.Share reading h = tt
stored_heard outcomes.Missing reading h = tt
stored_heard outcomes.NoAnswer reading h = tt

-- a share that was heard isn't longer than was asked
pub heard_short : (ask : Ask) (fetched : Fetched) → IsHeardFetch ask fetched → FetchesWithin ask fetched
heard_short ask (fetches.Share bytes) h = heard_within (Fetch ask.len) h.0 bytes h.1 h.2
heard_short ask fetches.Missing h = tt
heard_short ask fetches.NoAnswer h = tt
heard_short ask fetches.NoMemory h = tt
