-- What each place answered, and what of it is a share, or tells that the piece isn't held.
use Rattle.std.specs.Prelude.{ℕ, List, map, filter_map, Option, Some, None}
use Rattle.sat_base.specs.declared.items.Share.{Share}
use Rattle.sat_base.specs.declared.nodes.Fetched.{Fetched}
use Rattle.sat_base.specs.declared.nodes.Fetched.TheVariants as fetches
use Rattle.sat_base.specs.declared.requests.Place.{Place}
use Rattle.audit_core.specs.Heard.{share_in, missing_in}
use Rattle.node_asks.specs.declared.answers.Answered.{Answered}

abbrev pub places_in : List Answered → List Place
places_in all = map (λ one. one.place) all

abbrev pub answers_in : List Answered → List Fetched
answers_in all = map (λ one. one.what) all

-- the shares, with their indexes
abbrev pub shares_in : List Answered → List Share
shares_in all = filter_map (λ one. share_in one.place.index one.what) all

-- the places that gave one
abbrev pub sharing : Place → Fetched → Option Place
sharing place (fetches.Share bytes) = Some place
sharing place fetches.Missing = None
sharing place fetches.NoAnswer = None
sharing place fetches.NoMemory = None

abbrev pub sharing_in : List Answered → List Place
sharing_in all = filter_map (λ one. sharing one.place one.what) all

-- the indexes of those that hold no such piece
abbrev pub lacking_in : List Answered → List ℕ
lacking_in all = filter_map (λ one. missing_in one.place.index one.what) all
