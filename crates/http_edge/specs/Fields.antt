-- What a body says under a route. Of equal names the last stands, and fields that aren't named are ignored.
use Rattle.std.specs.Prelude.{◌≡◌, ◌≢◌, ℕ, List, [], ◌∷◌, length, codes, cond, nat_le, ◌&&◌, ◌+◌, Option, Some, None, option_and_then, option_map, Result, Ok, Err}
use Rattle.std.specs.Str.{is_utf8}
use Rattle.hex.specs.Hex.{decode_of}
use Rattle.hex.specs.declared.error.FromHexError.{FromHexError}
use Rattle.serde_json.specs.Data.{Data, Items, no_items, item}
use Rattle.serde_json.specs.Read.{read}
use Rattle.serde_json.specs.Find.{get, as_str, as_array, as_number, as_u64}
use Rattle.sat_base.specs.declared.ids.CustomerId.{CustomerId}
use Rattle.sat_base.specs.declared.ids.NodeId.{NodeId}
use Rattle.sat_base.specs.declared.ids.SegId.{SegId}
use Rattle.sat_base.specs.declared.limits.TheConstants as limits
use Rattle.sat_base.specs.declared.month.Month.{Month}
use Rattle.sat_base.specs.declared.rates.Rates.{Rates}
use Rattle.sat_base.specs.Results.{◌>>=◌}
use Rattle.month_text.specs.MonthText.{month_in}
use Rattle.address_text.specs.Address.{address_of}
use Rattle.http_edge.specs.declared.routes.Route.{Route}
use Rattle.http_edge.specs.declared.routes.Route.TheVariants as routes
use Rattle.machine_calls.specs.declared.wish.Wish.{Wish}
use Rattle.machine_calls.specs.declared.wish.Wish.TheVariants.{AddNode, AddCustomer, Begin, Commit, Get, Delete, Settle, SetFree, Exit, Statement, CloseMonth, SetRates, Stop}
use Rattle.http_edge.specs.declared.errors.EdgeErr.{EdgeErr}
use Rattle.http_edge.specs.declared.errors.EdgeErr.TheVariants.{Json, Field, NoMemory}

-- the value that a body is
abbrev pub reading : List ℕ → Option Data
reading body = cond (is_utf8 body) (read body) None

-- ---- fields

-- what a field has to be, or the error of its place
abbrev pub needed : {A : Type 0} → ℕ → Option A → Result A EdgeErr
needed place None = Err (Field place)
needed place (Some x) = Ok x

-- a whole number from 0 to 2^64 - 1
abbrev pub whole_of : Data → Option ℕ
whole_of d = option_and_then as_u64 (as_number d)

abbrev pub number_at : ℕ → List ℕ → Data → Result ℕ EdgeErr
number_at place name d = needed place (option_and_then whole_of (get name d))

-- a number from low to high
abbrev pub within : ℕ → ℕ → ℕ → Option ℕ
within low high n = cond (nat_le low n && nat_le n high) (Some n) None

abbrev pub port_at : Data → Result ℕ EdgeErr
port_at d = needed 7 (option_and_then (within 1 65535) (option_and_then whole_of (get (codes "port") d)))

abbrev pub addr_at : Data → Result ℕ EdgeErr
addr_at d = needed 6 (option_and_then address_of (option_and_then as_str (get (codes "addr") d)))

abbrev pub hex_bytes : Result (List ℕ) FromHexError → Option (List ℕ)
hex_bytes (Ok bytes) = Some bytes
hex_bytes (Err e) = None

-- the bytes of an order: an even number of hex digits, at most 1024
abbrev pub order_bytes : List ℕ → Option (List ℕ)
order_bytes text = cond (nat_le (length text) 1024) (hex_bytes (decode_of text)) None

abbrev pub order_at : Data → Result (List ℕ) EdgeErr
order_at d = needed 4 (option_and_then order_bytes (option_and_then as_str (get (codes "order") d)))

-- a whole number from 0 to 255
abbrev pub byte_of : Data → Option ℕ
byte_of d = option_and_then (within 0 255) (whole_of d)

abbrev pub with_byte : Option (List ℕ) → ℕ → Option (List ℕ)
with_byte rest b = option_map (λ bs. b ∷ bs) rest

-- the bytes that the items of an array are
abbrev pub bytes_of : Items → Option (List ℕ)
bytes_of no_items = Some []
bytes_of (item d ds) = option_and_then (with_byte (bytes_of ds)) (byte_of d)

abbrev pub count_of : Items → ℕ
count_of no_items = 0
count_of (item d ds) = count_of ds + 1

-- at most 256 bytes
abbrev pub pieces_of : Items → Option (List ℕ)
pieces_of ds = cond (nat_le (count_of ds) 256) (bytes_of ds) None

abbrev pub pieces_at : Data → Result (List ℕ) EdgeErr
pieces_at d = needed 3 (option_and_then pieces_of (option_and_then as_array (get (codes "pieces") d)))

abbrev pub month_of : ℕ → Month
month_of n = record { 0 = n }

abbrev pub month_at : Data → Result Month EdgeErr
month_at d = needed 8 (option_map month_of (option_and_then month_in (option_and_then as_str (get (codes "month") d))))

-- a rate, in micro-dollars
abbrev pub rate_at : ℕ → List ℕ → Data → Result ℕ EdgeErr
rate_at place name d = needed place (option_and_then (within 0 limits.RATE) (option_and_then whole_of (get name d)))

abbrev pub rates_at : Data → Result Rates EdgeErr
rates_at d =
    rate_at 9 (codes "get") d >>= λ get. (rate_at 10 (codes "audit") d >>= λ audit. (rate_at 11 (codes "repair") d >>= λ repair. (rate_at 12 (codes "storage") d >>= λ storage.
    Ok (record { get = get; audit = audit; repair = repair; storage = storage }))))

-- ---- bodies

abbrev pub node_in : Data → Result Wish EdgeErr
node_in d =
    number_at 1 (codes "request") d >>= λ request. (addr_at d >>= λ addr. (port_at d >>= λ port. (number_at 5 (codes "free") d >>= λ free.
    Ok (AddNode request addr port free))))

abbrev pub numbered_in : Data → (ℕ → Wish) → Result Wish EdgeErr
numbered_in d wish = number_at 1 (codes "request") d >>= λ request. Ok (wish request)

abbrev pub begin_in : CustomerId → Data → Result Wish EdgeErr
begin_in customer d = number_at 1 (codes "request") d >>= λ request. (number_at 2 (codes "len") d >>= λ len. Ok (Begin customer request len))

abbrev pub commit_in : CustomerId → SegId → Data → Result Wish EdgeErr
commit_in customer segment d = number_at 1 (codes "request") d >>= λ request. (pieces_at d >>= λ indexes. Ok (Commit customer request segment indexes))

abbrev pub settle_in : NodeId → Data → Result Wish EdgeErr
settle_in node d = order_at d >>= λ bytes. Ok (Settle node bytes)

abbrev pub free_in : NodeId → Data → Result Wish EdgeErr
free_in node d = number_at 5 (codes "free") d >>= λ free. Ok (SetFree node free)

abbrev pub close_in : Data → Result Wish EdgeErr
close_in d = month_at d >>= λ month. Ok (CloseMonth month)

abbrev pub rates_in : Data → Result Wish EdgeErr
rates_in d = month_at d >>= λ month. (rates_at d >>= λ rates. Ok (SetRates month rates))

-- what the value of a body says, by its fields in order
abbrev pub wish_in : Route → Data → Result Wish EdgeErr
wish_in routes.AddNode d = node_in d
wish_in routes.AddCustomer d = numbered_in d AddCustomer
wish_in (routes.Begin customer) d = begin_in customer d
wish_in (routes.Commit customer segment) d = commit_in customer segment d
wish_in (routes.Get customer segment) d = numbered_in d (λ request. Get customer request segment)
wish_in (routes.Delete customer segment) d = numbered_in d (λ request. Delete customer request segment)
wish_in (routes.Settle node) d = settle_in node d
wish_in (routes.SetFree node) d = free_in node d
wish_in (routes.Exit node) d = Ok (Exit node)
wish_in (routes.Statement node month) d = Ok (Statement node month)
wish_in routes.CloseMonth d = close_in d
wish_in routes.SetRates d = rates_in d
wish_in routes.Stop d = Ok Stop

abbrev pub of_reading : Route → Option Data → Result Wish EdgeErr
of_reading r None = Err Json
of_reading r (Some d) = wish_in r d

-- what a whole body says
abbrev pub body_of : Route → List ℕ → Result Wish EdgeErr
body_of r body = of_reading r (reading body)

-- the answer is what was said, or memory ran out
abbrev pub Gives : {A : Type 0} → Result A EdgeErr → Result A EdgeErr → Type 0
Gives (Ok x) said = said ≡ Ok x
Gives (Err e) said = e ≢ NoMemory → said ≡ Err e
