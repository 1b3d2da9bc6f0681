-- The rules of marks, nodes, customers, segments, settled rows, tallies, statements, kept requests and tariffs.
use Rattle.std.specs.Prelude.{ℕ, suc, ◌+◌, ◌/◌, ◌^◌, Bool, true, false, ◌==◌, ◌&&◌, ◌||◌, not, nat_lt, nat_le, if◌then◌else◌, List, [], ◌∷◌, ◌++◌, length, Option, Some, None, is_some}
use Rattle.std.specs.List.{list_any, list_all}
use Rattle.order_limits.specs.declared.limit.Action.TheVariants as actions
use Rattle.order_limits.specs.Order.{action_byte}
use Rattle.sat_base.specs.declared.limits.TheConstants as limits
use Rattle.sat_base.specs.declared.ids.NodeId.{NodeId}
use Rattle.sat_base.specs.declared.ids.CustomerId.{CustomerId}
use Rattle.sat_base.specs.declared.records.At.{At}
use Rattle.sat_base.specs.declared.settings.Marks.{Marks}
use Rattle.sat_base.specs.declared.settings.Customer.{Customer}
use Rattle.sat_base.specs.declared.requests.Asked.{Asked}
use Rattle.sat_base.specs.declared.requests.Asked.TheVariants as asks
use Rattle.sat_base.specs.declared.requests.Done.{Done}
use Rattle.sat_base.specs.declared.requests.Done.TheVariants as dones
use Rattle.sat_base.specs.declared.requests.Offer.{Offer}
use Rattle.sat_base.specs.declared.requests.Kept.{Kept}
use Rattle.sat_base.specs.declared.rates.Tariff.{Tariff}
use Rattle.sat_base.specs.Month.{first_day}
use Rattle.sat_base.specs.Ranks.{tariff_rank}
use Rattle.rows.specs.Rows.{row_at}
pub use Rattle.rows.specs.Least.{least_with, least}
use Rattle.node_registry.specs.declared.node.Node.{Node}
use Rattle.node_registry.specs.Registry.{node_at}
use Rattle.segment_core.specs.Record.{SegmentRecord}
use Rattle.settlement.specs.declared.row.SettledRow.{SettledRow}
use Rattle.tally_payout.specs.declared.amounts.Tally.{Tally}
use Rattle.month_pay.specs.Ledger.{Ledger}
use Rattle.month_pay.specs.Rule.{broken_places}
use Rattle.machine_step.specs.Tables.{Setup, is_no_size, customer_at}
use Rattle.machine_step.specs.Places.{subnets_of}

-- the first row that breaks a rule, which may speak of the row's place; places begin at i
abbrev pub first_bad : {R : Type 0} → (ℕ → R → Bool) → ℕ → List R → Option R
first_bad bad i [] = None
first_bad bad i (row ∷ rest) = if bad i row then Some row else first_bad bad (suc i) rest

abbrev pub is_known : List Node → NodeId → Bool
is_known nodes id = is_some (node_at nodes id)

-- ---- rule 1: the marks

-- a month has begun at a moment
abbrev pub has_begun : ℕ → ℕ → Bool
has_begun month at = nat_le (first_day month) (at / 86400)

-- a next number is 1 to 2^63
abbrev pub is_next_number : ℕ → Bool
is_next_number number = nat_le 1 number && nat_le number limits.LAST_NUMBER

-- the next month to close is no earlier than the first one, and has begun; the least hour to tally is at most the next one; and the next numbers are in range
abbrev pub are_sound_marks : Setup → Marks → Bool
are_sound_marks setup marks =
    nat_le setup.first_month marks.month.0 && (has_begun marks.month.0 marks.time
    && (nat_le marks.hour.0 (marks.time / 3600 + 1)
    && (is_next_number marks.segment && (is_next_number marks.serial && is_next_number marks.plan))))

-- ---- rule 2: the nodes

abbrev pub is_rated : Node → Bool
is_rated node = nat_le node.alpha 20000 && (nat_le node.beta 20000 && nat_le 1000 (node.alpha + node.beta))

-- ids are 1 to their number, which is at most the cap; the weights are in bounds; and none joined after the greatest moment
abbrev pub breaks_node : Setup → Marks → ℕ → Node → Bool
breaks_node setup marks i node =
    not (node.id.0 == suc i) || (nat_le setup.caps.nodes i || (not (is_rated node) || nat_lt marks.time node.joined))

-- ---- rule 3: the customers

-- ids are 1 to their number, which is at most the cap, and none was added after the greatest moment
abbrev pub breaks_customer : Setup → Marks → ℕ → Customer → Bool
breaks_customer setup marks i customer =
    not (customer.id.0 == suc i) || (nat_le setup.caps.customers i || nat_lt marks.time customer.added)

-- ---- rule 4: the segments

abbrev pub are_known : List Node → List At → Bool
are_known nodes pieces = list_all (λ piece. is_known nodes piece.node) pieces

-- none comes twice
abbrev pub are_apart : List ℕ → Bool
are_apart [] = true
are_apart (subnet ∷ rest) = not (list_any (λ other. subnet == other) rest) && are_apart rest

abbrev pub are_below : ℕ → List At → Bool
are_below n pieces = list_all (λ piece. nat_lt piece.index n) pieces

-- the indexes count up from i to n
abbrev pub counts_up : ℕ → ℕ → List At → Bool
counts_up n i [] = i == n
counts_up n i (piece ∷ rest) = (piece.index == i) && counts_up n (suc i) rest

-- a pending segment has the indexes 0 to n - 1, and a live one enough pieces and a version that plans can have made
abbrev pub is_sound_version : Setup → Marks → SegmentRecord → Bool
is_sound_version setup marks segment =
    if segment.version == 0 then counts_up setup.n 0 segment.pieces
    else nat_le segment.version marks.plan && nat_le setup.k (length segment.pieces)

abbrev pub is_sound_segment : Setup → Marks → List Node → List Customer → SegmentRecord → Bool
is_sound_segment setup marks nodes customers segment =
    nat_lt segment.id.0 marks.segment && (is_some (customer_at customers segment.customer.0)
    && (not (is_no_size setup segment.len) && (are_known nodes segment.pieces
    && (are_apart (subnets_of nodes segment.pieces) && (are_below setup.n segment.pieces
    && is_sound_version setup marks segment)))))

-- they number at most the cap
abbrev pub breaks_segment : Setup → Marks → List Node → List Customer → ℕ → SegmentRecord → Bool
breaks_segment setup marks nodes customers i segment =
    nat_le setup.caps.segments i || not (is_sound_segment setup marks nodes customers segment)

-- ---- rule 5: the settled rows

abbrev pub is_sound_settled : Marks → List Node → SettledRow → Bool
is_sound_settled marks nodes row = is_known nodes row.node && nat_le row.at marks.time

-- they number at most the cap
abbrev pub breaks_settled : Setup → Marks → List Node → ℕ → SettledRow → Bool
breaks_settled setup marks nodes i row = nat_le setup.caps.settled i || not (is_sound_settled marks nodes row)

-- ---- rule 6: the tallies

-- an hour that was tallied, and no more bytes than segments can have
abbrev pub is_sound_tally : Marks → List Node → Tally → Bool
is_sound_tally marks nodes tally =
    is_known nodes tally.node && (nat_lt tally.hour.0 marks.hour.0 && (nat_le 1 tally.bytes && nat_le tally.bytes (2 ^ 44)))

-- they number at most the cap
abbrev pub breaks_tally : Setup → Marks → List Node → ℕ → Tally → Bool
breaks_tally setup marks nodes i tally = nat_le setup.caps.tallies i || not (is_sound_tally marks nodes tally)

-- ---- rule 7: the statements

-- the first month and node, as one number, whose statement breaks the rule or is missing
abbrev pub bad_statement : Setup → Ledger → Option ℕ
bad_statement setup ledger = least (broken_places setup.caps.statements ledger)

-- ---- rule 10: the kept requests

-- nodes and customers are added by the operator, and the rest is asked by a known customer
abbrev pub is_callers : List Customer → CustomerId → Asked → Bool
is_callers customers caller (asks.Node addr port free) = caller.0 == 0
is_callers customers caller asks.Customer = caller.0 == 0
is_callers customers caller _ = is_some (customer_at customers caller.0)

-- a request names a segment that was numbered
abbrev pub is_sound_asked : Marks → Asked → Bool
is_sound_asked marks (asks.Commit segment indexes) = nat_lt segment.0 marks.segment
is_sound_asked marks (asks.Get segment) = nat_lt segment.0 marks.segment
is_sound_asked marks (asks.Delete segment) = nat_lt segment.0 marks.segment
is_sound_asked marks _ = true

-- an offer is the caller's, of numbers that were drawn, at known nodes, and not of a later moment
abbrev pub is_sound_offer : Marks → List Node → CustomerId → Offer → Bool
is_sound_offer marks nodes caller offer =
    list_all (λ place. is_known nodes place.node) offer.places && (nat_lt offer.serial.0 marks.serial
    && (nat_lt offer.segment.0 marks.segment && ((offer.customer.0 == caller.0) && nat_le offer.issued marks.time)))

-- the reply fits the request
abbrev pub is_sound_done : Marks → List Node → CustomerId → Asked → Done → Bool
is_sound_done marks nodes caller (asks.Node addr port free) (dones.NodeAdded node) = is_known nodes node
is_sound_done marks nodes caller asks.Customer (dones.CustomerAdded customer) = true
is_sound_done marks nodes caller (asks.Begin len) (dones.Offer offer) = (offer.action == action_byte actions.Put) && is_sound_offer marks nodes caller offer
is_sound_done marks nodes caller (asks.Commit segment indexes) (dones.Committed live) = nat_lt live.0 marks.segment
is_sound_done marks nodes caller (asks.Get segment) (dones.Offer offer) = (offer.action == action_byte actions.Get) && is_sound_offer marks nodes caller offer
is_sound_done marks nodes caller (asks.Delete segment) (dones.Deleted gone) = nat_lt gone.0 marks.segment
is_sound_done marks nodes caller _ _ = false

abbrev pub is_sound_kept : Marks → List Node → List Customer → Kept → Bool
is_sound_kept marks nodes customers kept =
    is_callers customers kept.caller kept.asked && (is_sound_asked marks kept.asked && is_sound_done marks nodes kept.caller kept.asked kept.done)

abbrev pub breaks_kept : Marks → List Node → List Customer → ℕ → Kept → Bool
breaks_kept marks nodes customers i kept = not (is_sound_kept marks nodes customers kept)

-- ---- rule 13: the tariffs

-- the months of tariffs before the first month, and of those past the most that a store has
abbrev pub bad_tariffs : ℕ → ℕ → List Tariff → List ℕ
bad_tariffs first i [] = []
bad_tariffs first i (tariff ∷ rest) =
    if nat_lt tariff.from.0 first || nat_le limits.TARIFFS i then tariff.from.0 ∷ bad_tariffs first (suc i) rest
    else bad_tariffs first (suc i) rest

-- the first month, where no tariff begins in it
abbrev pub missing_tariff : ℕ → List Tariff → List ℕ
missing_tariff first tariffs = if is_some (row_at tariff_rank tariffs first) then [] else first ∷ []

-- the first month whose tariff breaks the rule or is missing
abbrev pub bad_tariff : ℕ → List Tariff → Option ℕ
bad_tariff first tariffs = least (bad_tariffs first 0 tariffs ++ missing_tariff first tariffs)
