-- What nodes answered to an audit, by kind.
use Rattle.std.specs.Prelude.{ℕ, Bool, true, false, List, map, filter_map, Option, Some, None}
use Rattle.sat_base.specs.declared.items.Share.{Share}
use Rattle.sat_base.specs.declared.records.At.{At}
use Rattle.sat_base.specs.declared.nodes.Fetched.{Fetched}
use Rattle.sat_base.specs.declared.nodes.Fetched.TheVariants as fetches
use Rattle.audit_core.specs.declared.plan.Heard.{Heard}

-- the share, where one came
abbrev pub share_in : ℕ → Fetched → Option Share
share_in index (fetches.Share bytes) = Some (record { index = index; bytes = bytes })
share_in index fetches.Missing = None
share_in index fetches.NoAnswer = None
share_in index fetches.NoMemory = None

-- the index, where the node holds no such piece
abbrev pub missing_in : ℕ → Fetched → Option ℕ
missing_in index fetches.Missing = Some index
missing_in index (fetches.Share bytes) = None
missing_in index fetches.NoAnswer = None
missing_in index fetches.NoMemory = None

-- the index, where the node gave no answer
abbrev pub silent_in : ℕ → Fetched → Option ℕ
silent_in index fetches.NoAnswer = Some index
silent_in index (fetches.Share bytes) = None
silent_in index fetches.Missing = None
silent_in index fetches.NoMemory = None

-- memory ran out for the answer
abbrev pub is_out_of_memory : Fetched → Bool
is_out_of_memory fetches.NoMemory = true
is_out_of_memory (fetches.Share bytes) = false
is_out_of_memory fetches.Missing = false
is_out_of_memory fetches.NoAnswer = false

-- the shares that came, in order
abbrev pub answers_of : List Heard → List Share
answers_of heard = filter_map (λ one. share_in one.index one.what) heard

-- the indexes whose piece is missing, in order
abbrev pub missing_of : List Heard → List ℕ
missing_of heard = filter_map (λ one. missing_in one.index one.what) heard

-- the indexes that got no answer, in order
abbrev pub silent_of : List Heard → List ℕ
silent_of heard = filter_map (λ one. silent_in one.index one.what) heard

abbrev pub heard_indexes : List Heard → List ℕ
heard_indexes heard = map (λ one. one.index) heard

abbrev pub place_indexes : List At → List ℕ
place_indexes places = map (λ place. place.index) places
