-- A run of a command that answers its input, by what the console tells and by its counts.
use Rattle.std.specs.Prelude.{◌≡◌, ◌⊎◌, ℕ, ◌≤◌, List, [], ◌++◌, length, take, Some, codes, ◌==◌, if◌then◌else◌}
use Rattle.sat_base.specs.Outside.{About, KeepsInput, with_front, with_end, Rose}
use Rattle.sat_console.specs.declared.run.Outcome.{Outcome}
use Rattle.sat_console.specs.declared.run.Outcome.TheVariants.{Text, Refused}
use Rattle.sat_console.specs.declared.status.Status.{Status}
use Rattle.sat_console.specs.declared.status.Status.TheVariants as ends

-- the most bytes of an input
abbrev pub max_input : ℕ
max_input = 1048576

-- and the most that are taken of one, to see that it is no longer
abbrev pub input_room : ℕ
input_room = 1048577

-- the number of a status
abbrev pub code_of : Status → ℕ
code_of ends.Ok = 0
code_of ends.Usage = 2
code_of ends.StoreFault = 3
code_of ends.BadStore = 4
code_of ends.SinkFault = 5
code_of ends.TermFull = 6
code_of ends.LaneFault = 7
code_of ends.Refused = 8
code_of ends.NoMemory = 9
code_of ends.WordsFault = 10
code_of ends.InputFault = 11
code_of ends.InputLong = 12

-- the line of a status on the console. That of a refusal is the command's own
abbrev pub fault_line : ℕ → List ℕ
fault_line status =
    if status == 2 then codes "error: usage\n"
    else (if status == 11 then codes "error: input\n"
    else (if status == 12 then codes "error: input-long\n"
    else (if status == 9 then codes "error: memory\n"
    else (if status == 3 then codes "error: store\n"
    else (if status == 6 then codes "error: term-full\n"
    else (if status == 7 then codes "error: lane\n"
    else (if status == 10 then codes "error: words\n" else [])))))))

-- a line was written, whole unless the write count rose; nothing else changed
pub record Says (line : List ℕ) (old new : About) : Type 0 where
  pub front : (m : ℕ) × (new.written ≡ with_end old.written (take m line))
  pub whole : (new.written ≡ with_end old.written line) ⊎ Rose old.write_faults new.write_faults
  pub input : KeepsInput old new

-- ---- what a command makes of its input: it says of which inputs a text is the answers, or a line a refusal

-- a command that takes each input
abbrev pub NoRefusal : List ℕ → List ℕ → Type 0
NoRefusal input line = ⊥

abbrev pub IsOutcome : (List ℕ → List ℕ → Type 0) → (List ℕ → List ℕ → Type 0) → List ℕ → Outcome → Type 0
IsOutcome IsText IsRefusal input (Text text) = IsText input text.items
IsOutcome IsText IsRefusal input (Refused line) = IsRefusal input line.items

-- the line that a run ends with: at status 8 the refusal of its input
abbrev pub IsLine : (List ℕ → List ℕ → Type 0) → List ℕ → ℕ → List ℕ → Type 0
IsLine IsRefusal input status line = (status ≡ 8 → IsRefusal input line) × ((status ≡ 8 → ⊥) → line ≡ fault_line status)

-- a front of the input's text was written, then a front of the line
pub record Fronts (IsText IsRefusal : List ℕ → List ℕ → Type 0) (input : List ℕ) (old new : About) (status : ℕ) : Type 0 where
  pub text : List ℕ
  pub line : List ℕ
  pub n : ℕ
  pub m : ℕ
  pub of_text : (n ≡ 0) ⊎ IsText input text
  pub of_line : IsLine IsRefusal input status line
  pub written : new.written ≡ with_end old.written (take n text ++ take m line)

-- the line alone was written, and whole, unless the write count rose
pub record LastLine (IsRefusal : List ℕ → List ℕ → Type 0) (input : List ℕ) (old new : About) (status : ℕ) : Type 0 where
  pub line : List ℕ
  pub of_line : IsLine IsRefusal input status line
  pub whole : (new.written ≡ with_end old.written line) ⊎ Rose old.write_faults new.write_faults

-- the whole text of the input was written
abbrev pub Whole : (List ℕ → List ℕ → Type 0) → List ℕ → About → About → Type 0
Whole IsText input old new = (text : List ℕ) × IsText input text × (new.written ≡ with_end old.written text)

-- the command ran to its end, or refused its input
abbrev pub IsAnswer : ℕ → Type 0
IsAnswer status = (status ≡ 0) ⊎ (status ≡ 8)

-- an input was answered, or the end of the run says why not
pub record Answers (IsText IsRefusal : List ℕ → List ℕ → Type 0) (input : List ℕ) (old new : About) (status : ℕ) : Type 0 where
  pub whole : status ≡ 0 → Whole IsText input old new
  pub front : Fronts IsText IsRefusal input old new status
  pub said : (status ≡ 0 → ⊥) → LastLine IsRefusal input old new status
  pub write_fault : status ≡ 5 → Rose old.write_faults new.write_faults
  pub same : KeepsInput old new
  pub which : (status ≡ 0) ⊎ ((status ≡ 5) ⊎ ((status ≡ 8) ⊎ (status ≡ 9)))

-- a run, from one sight of the console to the other
pub record Ran (IsText IsRefusal : List ℕ → List ℕ → Type 0) (old new : About) (status : ℕ) : Type 0 where
  -- what was taken of the input, where nothing is told too
  pub input : List ℕ
  pub at_most : length input ≤ input_room
  pub took : old.left ≡ with_front input new.left
  -- status 0 and 8: nothing is left of a short input
  pub nothing_left : IsAnswer status → (bytes : List ℕ) → new.left ≡ Some bytes → bytes ≡ []
  pub short : IsAnswer status → length input ≤ max_input
  -- status 0: the text was written
  pub answered : status ≡ 0 → Whole IsText input old new
  -- else a front of the text, then a front of the line, which is whole unless the write count rose
  pub front : Fronts IsText IsRefusal input old new status
  pub said : (status ≡ 0 → ⊥) → LastLine IsRefusal input old new status
  -- the causes; that of 8 stands in its line, and running out of memory, 9, has none
  pub write_fault : status ≡ 5 → Rose old.write_faults new.write_faults
  pub read_fault : status ≡ 11 → Rose old.read_faults new.read_faults
  pub long : status ≡ 12 → length input ≡ input_room
  pub which : (status ≡ 0) ⊎ ((status ≡ 5) ⊎ ((status ≡ 8) ⊎ ((status ≡ 9) ⊎ ((status ≡ 11) ⊎ (status ≡ 12)))))
