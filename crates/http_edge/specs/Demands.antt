-- What a head alone says of a request, in the order of the errors.
use Rattle.std.specs.Prelude.{◌≡◌, ◌≢◌, ℕ, List, [], ◌∷◌, map, codes, cond, nat_le, Bool, false, Option, Some, None, is_some, ◌≤◌}
use Rattle.std.specs.Str.Parse.{digits_value}
use Rattle.httparse.specs.Grammar.{RequestHead}
use Rattle.httparse.specs.Spans.{name_and_value}
use Rattle.sat_base.specs.Text.{numeral}
use Rattle.http_parts.specs.Headers.{value_named, values_named}
use Rattle.http_parts.specs.Keys.{is_key}
use Rattle.http_parts.specs.declared.bounds.TheConstants.{MAX_BODY}
use Rattle.http_edge.specs.Paths.{IsPath}
use Rattle.order_limits.specs.Keys.{node_key, customer_key, operator_key}
use Rattle.http_edge.specs.declared.routes.Route.{Route}
use Rattle.http_edge.specs.declared.routes.Route.TheVariants.{Begin, Commit, Get, Delete, Settle, SetFree, Exit, AddNode, AddCustomer, CloseMonth, SetRates, Stop}
use Rattle.http_edge.specs.declared.routes.Route.TheVariants as routes
use Rattle.http_edge.specs.declared.errors.EdgeErr.TheVariants.{NoRoute, BadMethod, Key, Transfer, NoLength, BadLength, BodySize}
use Rattle.http_edge.specs.declared.demand.Demand.{Demand}
use Rattle.http_edge.specs.declared.demand.Demand.TheVariants.{Refused, Body, Statement}

-- the key of the caller whom the route names
abbrev pub key_of : List ℕ → Route → List ℕ
key_of secret (Begin customer) = customer_key secret customer
key_of secret (Commit customer segment) = customer_key secret customer
key_of secret (Get customer segment) = customer_key secret customer
key_of secret (Delete customer segment) = customer_key secret customer
key_of secret (Settle node) = node_key secret node
key_of secret (SetFree node) = node_key secret node
key_of secret (Exit node) = node_key secret node
key_of secret (routes.Statement node month) = node_key secret node
key_of secret AddNode = operator_key secret
key_of secret AddCustomer = operator_key secret
key_of secret CloseMonth = operator_key secret
key_of secret SetRates = operator_key secret
key_of secret Stop = operator_key secret

-- whether the first x-key header is the key
abbrev pub is_key_of : List ℕ → Option (List ℕ) → Bool
is_key_of key None = false
is_key_of key (Some text) = is_key key text

-- the most bytes of a body
abbrev pub max_body : ℕ
max_body = MAX_BODY

-- what the values of Content-Length say
abbrev pub of_lengths : Route → List (List ℕ) → Demand
of_lengths r [] = Refused NoLength
of_lengths r (v ∷ []) = cond (numeral v) (cond (nat_le (digits_value 10 v) max_body) (Body r (digits_value 10 v)) (Refused BodySize)) (Refused BadLength)
of_lengths r (v ∷ w ∷ vs) = Refused BadLength

-- what is left to read under a route: of a statement nothing
abbrev pub of_route : Route → List (List ℕ) → Demand
of_route (routes.Statement node month) lengths = Statement node month
of_route r lengths = of_lengths r lengths

-- what the headers say
abbrev pub of_headers : List ℕ → Route → List (List ℕ × List ℕ) → Demand
of_headers secret r hs =
    cond (is_key_of (key_of secret r) (value_named (codes "x-key") hs))
    (cond (is_some (value_named (codes "transfer-encoding") hs)) (Refused Transfer) (of_route r (values_named (codes "content-length") hs)))
    (Refused Key)

abbrev pub method_of : Route → List ℕ
method_of (routes.Statement node month) = codes "GET"
method_of r = codes "POST"

-- the head's path has no route; or it has that one, with another method; or the headers decide
pub data Demands (secret : List ℕ) (h : RequestHead) : Demand → Type 0 where
  no_route : ((r : Route) → IsPath r h.target → ⊥) → Demands secret h (Refused NoRoute)
  bad_method : (r : Route) → IsPath r h.target → h.method ≢ method_of r → Demands secret h (Refused BadMethod)
  routed : (r : Route) → IsPath r h.target → h.method ≡ method_of r → Demands secret h (of_headers secret r (map name_and_value h.fields))

-- the body is small enough
abbrev pub IsSmall : Demand → Type 0
IsSmall (Refused e) = Unit {0}
IsSmall (Body r n) = n ≤ max_body
IsSmall (Statement node month) = Unit {0}
