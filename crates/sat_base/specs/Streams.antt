-- What several reads take, one after the other, and what several puts write.
use Rattle.std.specs.Prelude.{◌≡◌, Bool, true, false, not, IsTrue, ℕ, ◌+◌, ◌<◌, ◌≤◌, List, [], ◌∷◌, ◌++◌, length, take, Option, Some}
use Rattle.sat_base.specs.declared.outside.ReadMade.{ReadMade}
use Rattle.sat_base.specs.declared.streams.Filling.{Filling}
use Rattle.sat_base.specs.declared.streams.Filling.TheVariants.{Full, Ended, Failed}
use Rattle.sat_base.specs.Outside.{About, AddsReads, KeepsInput, KeepsOutput, CountsExactly, with_end, with_front}

-- reads that took these bytes, each made where it may be: behind what was taken before it, of so many bytes
pub data Made (May : List ℕ → ℕ → Type 0) : List ℕ → List ReadMade → Type 0 where
  none : Made May [] []
  more : (bytes next : List ℕ) (reads : List ReadMade) (asked : ℕ) → Made May bytes reads → May bytes asked → 0 < asked → length next ≤ asked
      → Made May (bytes ++ next) (reads ++ record { asked = asked; took = length next } ∷ [])

-- these bytes were taken by reads, each made where it may be, of which at most so many took nothing; then it
-- failed or didn't, and the output is as it was
pub record Took (May : List ℕ → ℕ → Type 0) (bytes : List ℕ) (idle : ℕ) (failed : Bool) (old new : About) : Type 0 where
  pub left : old.left ≡ with_front bytes new.left
  pub reads : List ReadMade
  pub made : Made May bytes reads
  pub few : length reads ≤ length bytes + idle
  pub adds : AddsReads old.reads reads new.reads
  pub faults : CountsExactly failed old.read_faults new.read_faults
  pub output : KeepsOutput old new

-- a read fills up a room of that size behind what was taken
abbrev pub FillsUp : ℕ → List ℕ → ℕ → Type 0
FillsUp room taken asked = length taken + asked ≡ room

-- nothing is left, where that is told
abbrev pub AtEnd : Option (List ℕ) → Type 0
AtEnd left = (rest : List ℕ) → left ≡ Some rest → rest ≡ []

-- what the end of filling says of how many bytes of the room stand, and of what is left
abbrev pub IsFilling : ℕ → ℕ → Option (List ℕ) → Filling → Type 0
IsFilling room len left Full = len ≡ room
IsFilling room len left Ended = (len < room) × AtEnd left
IsFilling room len left Failed = len < room

-- how many reads took nothing
abbrev pub idle_reads : Filling → ℕ
idle_reads Full = 0
idle_reads Ended = 1
idle_reads Failed = 1

abbrev pub failed_filling : Filling → Bool
failed_filling Full = false
failed_filling Ended = false
failed_filling Failed = true

-- bytes were written from their front, all of them or a put failed, and the input is as it was
pub record Wrote (bytes : List ℕ) (whole : Bool) (old new : About) : Type 0 where
  pub all : IsTrue whole → new.written ≡ with_end old.written bytes
  pub some : (n : ℕ) × (n ≤ length bytes) × (new.written ≡ with_end old.written (take n bytes))
  pub faults : CountsExactly (not whole) old.write_faults new.write_faults
  pub input : KeepsInput old new
