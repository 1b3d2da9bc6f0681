-- Which histories a book can have.
use Rattle.std.specs.Prelude.{◌≡◌, ℕ, ◌≤◌, List, [], ◌∷◌, Some, map, slice_get}
use Rattle.sat_base.specs.Outside.{Rose}
use Rattle.turnstile.specs.declared.entry.Entry.{Entry}
use Rattle.machine_calls.specs.declared.call.Call.{Call}
use Rattle.machine_calls.specs.declared.reply.Reply.{Reply}
use Rattle.machine_calls.specs.declared.reply.Reply.TheVariants as replies
use Rattle.machine_step.specs.Tables.{Tables}
use Rattle.machine_step.specs.Step.{step}
use Rattle.machine_history.specs.History.{Said, IsLegal, replay, taken}
use Rattle.machine_history.specs.Orders.{AreOfBytes}

-- a call that the book took, at its place, of a pass, with what was answered
abbrev pub E : Type 0
E = Entry Call Reply

abbrev pub said_of : E → Said
said_of e = record { call = e.call; reply = e.reply }

-- the tables after entries
abbrev pub replayed : Tables → List E → Tables
replayed t entries = replay t (map said_of entries)

-- a step changes a record
abbrev pub Changes : Tables → Call → Type 0
Changes t call = (step t call).changes ≡ [] → ⊥

-- a fault of the keeper is shown by two counts, the first no less than the last one shown, and comes where the step changes a record
abbrev pub IsFault : Tables → ℕ → Call → Reply → Type 0
IsFault t last call (replies.StoreFault before after) = (last ≤ before) × Rose before after × Changes t call
IsFault t last call _ = Unit {0}

-- the last count that was shown
abbrev pub shown : ℕ → Reply → ℕ
shown last (replies.StoreFault before after) = after
shown last _ = last

abbrev pub AreFaults : Tables → ℕ → List E → Type 0
AreFaults t last [] = Unit {0}
AreFaults t last (e ∷ rest) = IsFault t last e.call e.reply × AreFaults (taken t (said_of e)) (shown last e.reply) rest

abbrev pub last_shown : ℕ → List E → ℕ
last_shown last [] = last
last_shown last (e ∷ rest) = last_shown (shown last e.reply) rest

-- a history from these tables and this count of the keeper's faults: each entry stands at its place, and its call is well formed and answered by its step, from the
-- tables that the earlier ones leave; or the keeper's count rose, or memory ran out, and the tables stay
pub record IsHistory (start : Tables) (count : ℕ) (history : List E) : Type 0 where
  pub places : (i : ℕ) (e : E) → slice_get history i ≡ Some e → e.place ≡ i
  pub legal : IsLegal start (map said_of history)
  pub bytes : AreOfBytes (map said_of history)
  pub faults : AreFaults start count history
