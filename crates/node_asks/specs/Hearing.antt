-- What is heard of the asked pieces.
use Rattle.std.specs.Prelude.{◌≡◌, ℕ, false, List, map, All}
use Rattle.sat_base.specs.declared.nodes.Fetched.{Fetched}
use Rattle.sat_base.specs.declared.nodes.Held.{Held}
use Rattle.sat_base.specs.declared.nodes.Ask.{Ask}
use Rattle.sat_base.specs.declared.requests.Place.{Place}
use Rattle.sat_base.specs.Nodes.{FetchesAll}
use Rattle.audit_core.specs.declared.plan.Heard.{Heard}
use Rattle.audit_core.specs.Heard.{heard_indexes, is_out_of_memory}
use Rattle.std.specs.Prelude.{Option}

abbrev pub fetched_in : List Heard → List Fetched
fetched_in heard = map (λ one. one.what) heard

-- one answer for each place, in order, none of them for lack of memory; where the nodes tell what they hold, each is of it
pub record IsHeard (held : Option (List Held)) (asks : List Ask) (places : List Place) (heard : List Heard) : Type 0 where
  pub indexes : heard_indexes heard ≡ map (λ place. place.index) places
  pub fetched : FetchesAll held asks (fetched_in heard)
  pub given : All (λ one. is_out_of_memory one.what ≡ false) heard
