-- Refusals, as the JSON of their answers: a name, a number and the evidence, with the keys in byte order.
use Rattle.std.specs.Prelude.{ℕ, List, codes}
use Rattle.month_text.specs.MonthText.{month_text}
use Rattle.serde_json.specs.Data.{Data, Members, number, unsigned, string, object, member, no_members, put}
use Rattle.machine_calls.specs.declared.refusal.Refusal.{Refusal}
use Rattle.machine_calls.specs.declared.refusal.Refusal.TheVariants as refusals
use Rattle.machine_calls.specs.declared.refusal.TableName.{TableName}
use Rattle.machine_calls.specs.declared.refusal.TableName.TheVariants as tables

abbrev pub whole : ℕ → Data
whole n = number (unsigned n)

-- the name and the number
abbrev pub refused : List ℕ → ℕ → Members
refused name n = member (codes "error") (string name) (member (codes "number") (whole n) no_members)

-- with evidence, which is put at its place in the order of the keys
abbrev pub with_number : List ℕ → ℕ → List ℕ → ℕ → Data
with_number name n key value = object (put key (whole value) (refused name n))

abbrev pub with_text : List ℕ → ℕ → List ℕ → List ℕ → Data
with_text name n key value = object (put key (string value) (refused name n))

abbrev pub too_few_data : ℕ → ℕ → Data
too_few_data have need =
    object (member (codes "error") (string (codes "too-few")) (member (codes "have") (whole have)
    (member (codes "need") (whole need) (member (codes "number") (whole 15) no_members))))

abbrev pub table_text : TableName → List ℕ
table_text tables.Nodes = codes "nodes"
table_text tables.Customers = codes "customers"
table_text tables.Segments = codes "segments"
table_text tables.Tallies = codes "tallies"
table_text tables.Statements = codes "statements"
table_text tables.Numbers = codes "numbers"
table_text tables.Tariffs = codes "tariffs"

abbrev pub refusal_data : Refusal → Data
refusal_data (refusals.Length got) = with_number (codes "length") 1 (codes "got") got
refusal_data (refusals.Version got) = with_number (codes "version") 2 (codes "got") got
refusal_data (refusals.Action got) = with_number (codes "action") 3 (codes "got") got
refusal_data refusals.LimitTag = object (refused (codes "limit-tag") 4)
refusal_data refusals.OrderTag = object (refused (codes "order-tag") 5)
refusal_data (refusals.OtherNode limit_node) = with_number (codes "other-node") 6 (codes "limit_node") limit_node.0
refusal_data (refusals.Differs kept) = with_number (codes "differs") 7 (codes "kept") kept
refusal_data (refusals.Late until) = with_number (codes "late") 8 (codes "until") until
refusal_data (refusals.OverLimit limit) = with_number (codes "over-limit") 9 (codes "limit") limit
refusal_data (refusals.SettledFull cap) = with_number (codes "settled-full") 10 (codes "cap") cap
refusal_data (refusals.NoNode node) = with_number (codes "no-node") 11 (codes "node") node.0
refusal_data (refusals.NoSegment segment) = with_number (codes "no-segment") 12 (codes "segment") segment.0
refusal_data (refusals.AlreadyLive version) = with_number (codes "already-live") 13 (codes "version") version
refusal_data (refusals.Few chosen) = with_number (codes "few") 14 (codes "chosen") chosen
refusal_data (refusals.TooFew have need) = too_few_data have need
refusal_data (refusals.NotOffered index) = with_number (codes "not-offered") 16 (codes "index") index
refusal_data (refusals.Repeated index) = with_number (codes "repeated") 17 (codes "index") index
refusal_data (refusals.RequestReused kept) = with_number (codes "request-reused") 18 (codes "kept") kept
refusal_data (refusals.MonthOpen now) = with_text (codes "month-open") 19 (codes "now") (month_text now.0)
refusal_data (refusals.MonthOrder next) = with_text (codes "month-order") 20 (codes "next") (month_text next.0)
refusal_data refusals.NothingToAudit = object (refused (codes "nothing-to-audit") 21)
refusal_data refusals.NothingToRepair = object (refused (codes "nothing-to-repair") 22)
refusal_data (refusals.NoPlan kept) = with_number (codes "no-plan") 23 (codes "kept") kept
refusal_data refusals.NothingToRecheck = object (refused (codes "nothing-to-recheck") 24)
refusal_data (refusals.HourDone next) = with_number (codes "hour-done") 25 (codes "next") next.0
refusal_data (refusals.Size max) = with_number (codes "size") 26 (codes "max") max
refusal_data refusals.Stopped = object (refused (codes "stopped") 27)
refusal_data (refusals.TableFull table) = with_text (codes "table-full") 28 (codes "table") (table_text table)
refusal_data (refusals.RequestOld last) = with_number (codes "request-old") 29 (codes "last") last
refusal_data (refusals.NoCustomer customer) = with_number (codes "no-customer") 30 (codes "customer") customer.0
refusal_data (refusals.NoStatement month) = with_text (codes "no-statement") 31 (codes "month") (month_text month.0)
refusal_data (refusals.NotServing status) = with_number (codes "not-serving") 32 (codes "status") status
refusal_data refusals.NothingToExit = object (refused (codes "nothing-to-exit") 33)
refusal_data (refusals.MonthBegun now) = with_text (codes "month-begun") 34 (codes "now") (month_text now.0)

-- 503 where the machine was stopped, and else 409
abbrev pub refusal_status : Refusal → ℕ
refusal_status refusals.Stopped = 503
refusal_status _ = 409
