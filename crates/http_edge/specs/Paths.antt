-- The routes: the path of each, in codes and numbers.
use Rattle.std.specs.Prelude.{◌≡◌, ℕ, ◌^◌, List, ◌++◌, codes, Some}
use Rattle.sat_base.specs.Text.{IsNumber}
use Rattle.month_text.specs.MonthText.{month_in}
use Rattle.http_edge.specs.declared.routes.Route.{Route}
use Rattle.http_edge.specs.declared.routes.Route.TheVariants.{Begin, Commit, Get, Delete, Settle, SetFree, Exit, Statement, AddNode, AddCustomer, CloseMonth, SetRates, Stop}

-- the path of a customer's segments, and what stands behind it
abbrev pub IsSegments : List ℕ → ℕ → List ℕ → Type 0
IsSegments path customer behind =
    (c : List ℕ) × IsNumber c customer (2 ^ 32) × (path ≡ codes "/c/" ++ (c ++ (codes "/segments" ++ behind)))

-- the path of one of a customer's segments, and what stands behind it
abbrev pub IsSegment : List ℕ → ℕ → ℕ → List ℕ → Type 0
IsSegment path customer segment behind =
    (s : List ℕ) × IsNumber s segment (2 ^ 64) × IsSegments path customer (codes "/" ++ (s ++ behind))

-- the path of a node, and what stands behind it
abbrev pub IsNode : List ℕ → ℕ → List ℕ → Type 0
IsNode path node behind = (n : List ℕ) × IsNumber n node (2 ^ 32) × (path ≡ codes "/n/" ++ (n ++ behind))

-- the path of a node's statement of a month
abbrev pub IsStatement : List ℕ → ℕ → ℕ → Type 0
IsStatement path node month = (m : List ℕ) × (month_in m ≡ Some month) × IsNode path node (codes "/statement/" ++ m)

-- the path of each route
abbrev pub IsPath : Route → List ℕ → Type 0
IsPath (Begin customer) path = IsSegments path customer.0 (codes "")
IsPath (Commit customer segment) path = IsSegment path customer.0 segment.0 (codes "/commit")
IsPath (Get customer segment) path = IsSegment path customer.0 segment.0 (codes "/get")
IsPath (Delete customer segment) path = IsSegment path customer.0 segment.0 (codes "/delete")
IsPath (Settle node) path = IsNode path node.0 (codes "/settle")
IsPath (SetFree node) path = IsNode path node.0 (codes "/free")
IsPath (Exit node) path = IsNode path node.0 (codes "/exit")
IsPath (Statement node month) path = IsStatement path node.0 month.0
IsPath AddNode path = path ≡ codes "/op/nodes"
IsPath AddCustomer path = path ≡ codes "/op/customers"
IsPath CloseMonth path = path ≡ codes "/op/close"
IsPath SetRates path = path ≡ codes "/op/rates"
IsPath Stop path = path ≡ codes "/op/stop"
