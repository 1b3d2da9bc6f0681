-- How the route of a path is found, step by step. That it is the route of the path's relation is proved.
use Rattle.std.specs.Prelude.{ℕ, List, length, take, drop, codes, cond, Bool, Option, Some, None, option_map, option_and_then}
use Rattle.sat_base.specs.Text.{same, cut_of, number_up_to}
use Rattle.month_text.specs.MonthText.{month_in}
use Rattle.http_edge.specs.declared.routes.Route.{Route}
use Rattle.http_edge.specs.declared.routes.Route.TheVariants.{Begin, Commit, Get, Delete, Settle, SetFree, Exit, Statement, AddNode, AddCustomer, CloseMonth, SetRates, Stop}

-- the text begins with that one
abbrev pub starts : List ℕ → List ℕ → Bool
starts text path = same (take (length text) path) text

abbrev pub with_number : ℕ → List ℕ × List ℕ → Option (ℕ × List ℕ)
with_number most parts = option_map (λ n. (n, parts.1)) (number_up_to most parts.0)

-- the number before the first slash, and what stands behind the slash
abbrev pub numbered_of : ℕ → List ℕ → Option (ℕ × List ℕ)
numbered_of most text = option_and_then (with_number most) (cut_of 47 text)

abbrev pub operator_at : List ℕ → Option Route
operator_at path =
    cond (same path (codes "/op/nodes")) (Some AddNode)
    (cond (same path (codes "/op/customers")) (Some AddCustomer)
    (cond (same path (codes "/op/close")) (Some CloseMonth)
    (cond (same path (codes "/op/rates")) (Some SetRates)
    (cond (same path (codes "/op/stop")) (Some Stop) None))))

abbrev pub month_route : ℕ → ℕ → Route
month_route node month = Statement (record { 0 = node }) (record { 0 = month })

abbrev pub statement_at : ℕ → List ℕ → Option Route
statement_at node word = cond (starts (codes "statement/") word) (option_map (month_route node) (month_in (drop 10 word))) None

abbrev pub node_word : ℕ × List ℕ → Option Route
node_word p =
    cond (same p.1 (codes "settle")) (Some (Settle (record { 0 = p.0 })))
    (cond (same p.1 (codes "free")) (Some (SetFree (record { 0 = p.0 })))
    (cond (same p.1 (codes "exit")) (Some (Exit (record { 0 = p.0 }))) (statement_at p.0 p.1)))

abbrev pub node_at : List ℕ → Option Route
node_at rest = option_and_then node_word (numbered_of 4294967295 rest)

abbrev pub segment_word : ℕ → ℕ × List ℕ → Option Route
segment_word c p =
    cond (same p.1 (codes "commit")) (Some (Commit (record { 0 = c }) (record { 0 = p.0 })))
    (cond (same p.1 (codes "get")) (Some (Get (record { 0 = c }) (record { 0 = p.0 })))
    (cond (same p.1 (codes "delete")) (Some (Delete (record { 0 = c }) (record { 0 = p.0 }))) None))

abbrev pub segment_at : ℕ → List ℕ → Option Route
segment_at c rest = option_and_then (segment_word c) (numbered_of 18446744073709551615 rest)

abbrev pub customer_word : ℕ × List ℕ → Option Route
customer_word p =
    cond (same p.1 (codes "segments")) (Some (Begin (record { 0 = p.0 })))
    (cond (starts (codes "segments/") p.1) (segment_at p.0 (drop 9 p.1)) None)

abbrev pub customer_at : List ℕ → Option Route
customer_at rest = option_and_then customer_word (numbered_of 4294967295 rest)

abbrev pub route_at : List ℕ → Option Route
route_at path =
    cond (starts (codes "/c/") path) (customer_at (drop 3 path))
    (cond (starts (codes "/n/") path) (node_at (drop 3 path)) (operator_at path))
