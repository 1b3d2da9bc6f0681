-- How `serve` ends: the line of a store that isn't opened, and the status and the lines of a term.
use Rattle.std.specs.Prelude.{◌≡◌, ◌⊎◌, ◌||◌, ℕ, List, [], length, Option, Some, None, Bool, true, false, codes, ◌==◌, if◌then◌else◌}
use Rattle.std.specs.List.{list_any}
use Rattle.sat_base.specs.Outside.{About, Rose, with_end}
use Rattle.sat_book.specs.declared.opening.OpenErr.{OpenErr}
use Rattle.sat_book.specs.declared.opening.OpenErr.TheVariants as errs
use Rattle.sat_console.specs.Run.{Says, fault_line}
use Rattle.sat_console.specs.Words.{numbered_text, store_text}
use Rattle.sat_sessions.specs.declared.lanes.TheConstants as bounds
use Rattle.sat_sessions.specs.declared.lanes.LaneEnd.{LaneEnd}
use Rattle.sat_sessions.specs.declared.lanes.LaneEnd.TheVariants as lanes
use Rattle.sat_sessions.specs.declared.rounds.Round.{Round}
use Rattle.sat_sessions.specs.declared.rounds.RoundEnd.{RoundEnd}
use Rattle.sat_sessions.specs.declared.rounds.RoundEnd.TheVariants as rounds
use Rattle.sat_sessions.specs.declared.rounds.RoundsEnd.{RoundsEnd}
use Rattle.sat_sessions.specs.declared.rounds.RoundsEnd.TheVariants as workers
use Rattle.sat_sessions.specs.declared.told.Session.{Session}
use Rattle.sat_term.specs.Term.{is_failed, met_full}
use Rattle.sat_term.specs.declared.term.Ends.{Ends}
use Rattle.sat_term.specs.declared.term.Term.{Term}
use Rattle.satellite_cli.specs.declared.ending.LastLine.{LastLine}
use Rattle.satellite_cli.specs.declared.ending.LastLine.TheVariants as last

-- ---- no book

-- the status of a store that isn't opened, and its line
abbrev pub open_status : OpenErr → ℕ
open_status errs.Fault = 3
open_status (errs.BadRow kind id) = 4
open_status (errs.BadTables rule kind id) = 4
open_status errs.NoMemory = 9

abbrev pub open_line : OpenErr → List ℕ
open_line errs.Fault = fault_line 3
open_line (errs.BadRow kind id) = store_text 0 kind id
open_line (errs.BadTables rule kind id) = store_text rule kind id
open_line errs.NoMemory = fault_line 9

-- what breaks the store is said, or that memory runs out
abbrev pub SaysBad : (rule kind : ℕ) → List ℕ → ℕ → About → About → Type 0
SaysBad rule kind id status old new =
    ((status ≡ 4) × Says (store_text rule kind id) old new) ⊎ ((status ≡ 9) × Says (fault_line 9) old new)

-- why there is no book is said, or that memory runs out
abbrev pub SaysWhy : OpenErr → ℕ → About → About → Type 0
SaysWhy why status old new =
    ((status ≡ open_status why) × Says (open_line why) old new) ⊎ ((status ≡ 9) × Says (fault_line 9) old new)

-- ---- a term

-- a lane had as many sessions as a lane may have
abbrev pub has_many : List Session → Bool
has_many sessions = length sessions == bounds.SESSIONS

abbrev pub is_out_of_memory : LaneEnd → Bool
is_out_of_memory lanes.NoMemory = true
is_out_of_memory _ = false

abbrev pub is_short : RoundsEnd → Bool
is_short workers.NoMemory = true
is_short _ = false

-- random words ran out for a round
abbrev pub is_wordless : RoundEnd → Bool
is_wordless rounds.WordsFault = true
is_wordless _ = false

-- what a status goes by: whether a worker met the full term or a lane had all its sessions, a lane failed, random words were
-- wanting for a round of audit or repair, a worker had no memory
pub record Flags : Type 0 where
  pub full : Bool
  pub failed : Bool
  pub wordless : Bool
  pub wanting : Bool

abbrev pub has_all_sessions : Term → Bool
has_all_sessions t = list_any (λ lane. has_many lane.items) t.lanes.items

abbrev pub lacks_words : Term → Bool
lacks_words t = list_any (λ x. is_wordless x.end) t.audits.items || list_any (λ x. is_wordless x.end) t.repairs.items

abbrev pub lacks_memory : Ends → Bool
lacks_memory ends = list_any is_out_of_memory ends.lanes.items || (is_short ends.audit || (is_short ends.repair || is_short ends.tally))

abbrev pub flags_of : Term → Ends → Flags
flags_of t ends = record {
  full = met_full t || has_all_sessions t;
  failed = list_any is_failed ends.lanes.items;
  wordless = lacks_words t;
  wanting = lacks_memory ends;
}

-- the status by the last line alone
abbrev pub line_status : LastLine → ℕ
line_status last.Whole = 0
line_status last.Cut = 5
line_status last.NoMemory = 9

-- the first of 6, 7, 10, 9, 5 and 0 that holds. 9 and 5 hold also where the last line wasn't made or wasn't written
abbrev pub term_status : Flags → LastLine → ℕ
term_status flags line =
    if flags.full then 6 else (if flags.failed then 7 else (if flags.wordless then 10 else (if flags.wanting then 9 else line_status line)))

-- the line of a term with so many entries
abbrev pub entries_text : ℕ → List ℕ
entries_text n = numbered_text (codes "entries ") n

-- it was said, whole or a front of it, or wasn't made
abbrev pub SaysEntries : ℕ → LastLine → About → About → Type 0
SaysEntries n last.Whole old new = Says (entries_text n) old new × (new.written ≡ with_end old.written (entries_text n))
SaysEntries n last.Cut old new = Says (entries_text n) old new × Rose old.write_faults new.write_faults
SaysEntries n last.NoMemory old new = new ≡ old

-- the line of the status was said, if it has one
abbrev pub EndsWith : ℕ → About → About → Type 0
EndsWith status old new = (fault_line status ≡ [] → new ≡ old) × ((fault_line status ≡ [] → ⊥) → Says (fault_line status) old new)

-- how many entries there were is said, and then the line of the status
pub record Finishes (flags : Flags) (entries status : ℕ) (old new : About) : Type 0 where
  pub line : LastLine
  pub status_is : status ≡ term_status flags line
  pub mid : About
  pub said : SaysEntries entries line old mid
  pub fault : EndsWith status mid new

-- how many entries there were is said, and then that memory runs out
pub record SaysWanting (entries : ℕ) (old new : About) : Type 0 where
  pub line : LastLine
  pub mid : About
  pub said : SaysEntries entries line old mid
  pub fault : Says (fault_line 9) mid new
