-- The words of a storage node, and what they ask for.
use Rattle.std.specs.Prelude.{Bool, ℕ, ◌&&◌, nat_le, List, [], ◌∷◌, Option, Some, None, codes, if◌then◌else◌}
use Rattle.address_text.specs.Address.{address_of}
use Rattle.sat_base.specs.Text.{same}
use Rattle.word_pairs.specs.Pairs.{is_form, value_of}
use Rattle.word_pairs.specs.Values.{number_or, number_within, secret_of}
use Rattle.stor_node_cli.specs.declared.bounds.TheConstants as bounds

-- what is asked for, in plain numbers
pub record Asked : Type 0 where
  pub node : ℕ
  pub key : List ℕ
  pub dir : List ℕ
  pub port : ℕ
  -- the port at which the satellite answers
  pub satellite : ℕ
  -- how many orders are kept at most
  pub cap : ℕ
  -- at which address of this machine
  pub addr : ℕ

abbrev pub run_names : List (List ℕ)
run_names = codes "--node" ∷ codes "--key" ∷ codes "--dir" ∷ codes "--port" ∷ codes "--satellite" ∷ codes "--cap" ∷ codes "--addr" ∷ []

-- an address of one's own machine
abbrev pub is_loopback : ℕ → Bool
is_loopback addr = nat_le bounds.LOOPBACK_FIRST addr && nat_le addr bounds.LOOPBACK_LAST

abbrev pub loopback_of : Option ℕ → Option ℕ
loopback_of None = None
loopback_of (Some addr) = if is_loopback addr then Some addr else None

abbrev pub addr_or_usual : Option (List ℕ) → Option ℕ
addr_or_usual None = Some bounds.USUAL_ADDR
addr_or_usual (Some text) = loopback_of (address_of text)

-- a node and its key
pub record Who : Type 0 where
  pub node : ℕ
  pub key : List ℕ

abbrev pub who_with : Option ℕ → Option (List ℕ) → Option Who
who_with None key = None
who_with (Some node) None = None
who_with (Some node) (Some key) = Some (record { node = node; key = key })

unfoldable pub who_of : List (List ℕ) → Option Who
who_of words = who_with (number_within 1 bounds.NODE (value_of (codes "--node") words)) (secret_of (value_of (codes "--key") words))

-- the ports, its own and the satellite's, and its address
pub record Places : Type 0 where
  pub port : ℕ
  pub satellite : ℕ
  pub addr : ℕ

abbrev pub places_with : Option ℕ → Option ℕ → Option ℕ → Option Places
places_with None satellite addr = None
places_with (Some port) None addr = None
places_with (Some port) (Some satellite) None = None
places_with (Some port) (Some satellite) (Some addr) = Some (record { port = port; satellite = satellite; addr = addr })

abbrev pub port_of : List ℕ → List (List ℕ) → Option ℕ
port_of name words = number_within 1 bounds.PORT (value_of name words)

unfoldable pub places_of : List (List ℕ) → Option Places
places_of words = places_with (port_of (codes "--port") words) (port_of (codes "--satellite") words) (addr_or_usual (value_of (codes "--addr") words))

abbrev pub run_with : Option Who → Option (List ℕ) → Option Places → Option ℕ → Option Asked
run_with None dir places cap = None
run_with (Some who) None places cap = None
run_with (Some who) (Some dir) None cap = None
run_with (Some who) (Some dir) (Some places) None = None
run_with (Some who) (Some dir) (Some places) (Some cap) = Some (record {
  node = who.node;
  key = who.key;
  dir = dir;
  port = places.port;
  satellite = places.satellite;
  cap = cap;
  addr = places.addr;
})

-- what the words behind `run` ask for
unfoldable pub run_of : List (List ℕ) → Option Asked
run_of words =
    if is_form run_names words
    then run_with (who_of words) (value_of (codes "--dir") words) (places_of words)
    (number_or bounds.USUAL_CAP 1 bounds.CAP (value_of (codes "--cap") words))
    else None

-- what the words ask for, if they are a command
unfoldable pub node_of : List (List ℕ) → Option Asked
node_of [] = None
node_of (name ∷ words) = if same name (codes "run") then run_of words else None
