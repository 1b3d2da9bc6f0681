-- What a drill is: a history of a machine that never failed to keep a step, and a text that tells what came of it.
use Rattle.std.specs.Prelude.{◌≡◌, ℕ, ◌==◌, Bool, true, false, List, [], ◌∷◌, ◌++◌, length, map, filter, count_by, codes, decimal, All}
use Rattle.std.specs.List.{sum_by}
use Rattle.sat_base.specs.Rows.{AreInOrder, rows_of}
use Rattle.sat_base.specs.declared.requests.Done.TheVariants as dones
use Rattle.sat_base.specs.declared.rows.Row.{Row}
use Rattle.tally_payout.specs.Sheet.{sheet_text}
use Rattle.machine_calls.specs.declared.reply.Reply.{Reply}
use Rattle.machine_calls.specs.declared.reply.Reply.TheVariants as replies
use Rattle.machine_step.specs.Tables.{Tables}
use Rattle.machine_history.specs.Orders.{SettleOnce}
use Rattle.sat_book.specs.Legal.{E, IsHistory, replayed, said_of}
use Rattle.sat_book.specs.Paid.{ClosedMonthsStay, PaysByTariff}
use Rattle.sat_book.specs.TableRows.{rows}
use Rattle.sat_drill.specs.declared.counting.Counted.{Counted}
use Rattle.sat_drill.specs.declared.counting.Counted.TheVariants as kinds

-- the store failed to keep the step
abbrev pub is_fault : Reply → Bool
is_fault (replies.StoreFault before after) = true
is_fault _ = false

-- the store never failed to keep a step
abbrev pub NeverFails : List E → Type 0
NeverFails history = All (λ e. is_fault e.reply ≡ false) history

-- ---- what is counted

abbrev pub is_counted : Counted → Reply → Bool
is_counted kinds.Committed (replies.Done (dones.Committed segment)) = true
is_counted kinds.Settled (replies.Settled amount) = true
is_counted kinds.Again (replies.Again amount) = true
is_counted kinds.AuditEnded (replies.AuditEnded clear blamed missing contained answered) = true
is_counted kinds.RepairEnded (replies.RepairEnded version) = true
is_counted kinds.Refused (replies.Refused cause) = true
is_counted _ _ = false

-- how many replies are of the kind
unfoldable pub count_of : Counted → List E → ℕ
count_of kind history = count_by (λ e. is_counted kind e.reply) history

-- the bytes of an order that was settled
abbrev pub amount_of : Reply → ℕ
amount_of (replies.Settled amount) = amount
amount_of _ = 0

-- how many answers to an audit were altered
abbrev pub blamed_of : Reply → ℕ
blamed_of (replies.AuditEnded clear blamed missing contained answered) = length blamed
blamed_of _ = 0

unfoldable pub settled_sum : List E → ℕ
settled_sum history = sum_by (λ e. amount_of e.reply) history

unfoldable pub blamed_sum : List E → ℕ
blamed_sum history = sum_by (λ e. blamed_of e.reply) history

-- ---- the text

unfoldable pub numbered : List ℕ → ℕ → List ℕ
numbered word n = word ++ decimal n

-- a line ends with LF
unfoldable pub line : List ℕ → List ℕ
line text = text ++ 10 ∷ []

-- the lines of what the entries come to, and of how many fresh pieces of repairs were wrong
abbrev pub counts_text : List E → ℕ → List ℕ
counts_text history wrong =
    line (numbered (codes "entries ") (length history))
    ++ line (numbered (codes "segments ") (count_of kinds.Committed history))
    ++ line (numbered (codes "settled ") (count_of kinds.Settled history) ++ numbered (codes " ") (settled_sum history))
    ++ line (numbered (codes "again ") (count_of kinds.Again history))
    ++ line (numbered (codes "audits ") (count_of kinds.AuditEnded history) ++ numbered (codes " blamed ") (blamed_sum history))
    ++ line (numbered (codes "repairs ") (count_of kinds.RepairEnded history) ++ numbered (codes " wrong ") wrong)
    ++ line (numbered (codes "refused ") (count_of kinds.Refused history))

-- the sheet of a month: its statements, in the order of their nodes
abbrev pub sheet_of : Tables → ℕ → List ℕ
sheet_of t month = sheet_text (filter (λ s. s.month.0 == month) t.statements)

-- and behind these lines the sheet of the first month that the tables are set up with
abbrev pub drill_text : Tables → List E → ℕ → List ℕ
drill_text start history wrong = counts_text history wrong ++ sheet_of (replayed start history) start.setup.first_month

-- ---- a drill

-- from the tables that the opening rows spell, the history is lawful, and the store never failed; each order was settled once, nodes are paid by the tariff, and months that
-- were closed stay so; and the text tells of it
pub record IsDrilled (opening : List Row) (history : List E) (wrong : ℕ) (text : List ℕ) : Type 0 where
  pub start : Tables
  pub ordered : AreInOrder opening
  pub same : rows_of opening ≡ rows start
  pub lawful : IsHistory start 0 history
  pub never : NeverFails history
  pub once : SettleOnce start (map said_of history)
  pub pays : PaysByTariff start history
  pub closed : ClosedMonthsStay start history
  pub text_is : text ≡ drill_text start history wrong
