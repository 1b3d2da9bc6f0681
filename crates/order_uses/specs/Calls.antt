-- Lists of calls, and what they leave of the rows.
use Rattle.std.specs.Prelude.{◌≡◌, ℕ, ◌+◌, Bool, true, false, ◌==◌, if◌then◌else◌, List, [], ◌∷◌, Option, Some, None, Result, Ok, Err}
use Rattle.rows.specs.Slots.{with_row}
use Rattle.sat_base.specs.declared.ids.NodeId.{NodeId}
use Rattle.sat_base.specs.declared.ids.Serial.{Serial}
use Rattle.order_uses.specs.Take.{take_case, kept_served, is_done}
use Rattle.order_uses.specs.Uses.{use_at, use_rank}
use Rattle.order_uses.specs.declared.row.OrderUse.{OrderUse}
use Rattle.order_uses.specs.declared.take.TakeErr.{TakeErr}
use Rattle.order_uses.specs.declared.take.Wanted.{Wanted}

-- a take at a moment, or a finish, each with whether its row, if it puts one, was committed
pub data Call : Type 0 where
  take_call : ℕ → Wanted → Bool → Call
  finish_call : Serial → Bool → Call

-- the rows after the row of a take was committed, if the take puts one
abbrev pub rows_taken : Result OrderUse TakeErr → List OrderUse → List OrderUse
rows_taken (Ok row) rows = with_row use_rank rows row
rows_taken (Err err) rows = rows

-- the rows with this one done
abbrev pub rows_finished : Option OrderUse → List OrderUse → List OrderUse
rows_finished (Some row) rows = with_row use_rank rows (record row { done = true })
rows_finished None rows = rows

-- how many bytes are taken under a serial, where the take puts a row
abbrev pub len_taken : Result OrderUse TakeErr → ℕ → Serial → ℕ
len_taken (Ok row) len serial = if row.serial.0 == serial.0 then len else 0
len_taken (Err err) len serial = 0

module _ (node : NodeId) (key : List ℕ) (cap : ℕ) where
  abbrev pub after : List OrderUse → Call → List OrderUse
  after rows (take_call now wanted true) = rows_taken (take_case node key cap rows now wanted) rows
  after rows (take_call now wanted false) = rows
  after rows (finish_call serial true) = rows_finished (use_at rows serial) rows
  after rows (finish_call serial false) = rows

  -- the rows that the calls leave, one after the other
  abbrev pub after_all : List OrderUse → List Call → List OrderUse
  after_all rows [] = rows
  after_all rows (call ∷ calls) = after_all (after rows call) calls

  -- the bytes of a call that was an accepted take under the serial
  abbrev pub len_of : List OrderUse → Serial → Call → ℕ
  len_of rows serial (take_call now wanted true) = len_taken (take_case node key cap rows now wanted) wanted.len serial
  len_of rows serial (take_call now wanted false) = 0
  len_of rows serial (finish_call other kept) = 0

  -- the sum of the lengths of the takes under the serial that were accepted
  abbrev pub accepted : List OrderUse → Serial → List Call → ℕ
  accepted rows serial [] = 0
  accepted rows serial (call ∷ calls) = len_of rows serial call + accepted (after rows call) serial calls

-- how many bytes were served under a serial
abbrev pub served_of : List OrderUse → Serial → ℕ
served_of rows serial = kept_served (use_at rows serial)

-- the serial's order is settled
abbrev pub IsSettled : List OrderUse → Serial → Type 0
IsSettled rows serial = is_done (use_at rows serial) ≡ true
