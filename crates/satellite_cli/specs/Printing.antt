-- What `sheet` prints, and what it leaves in the keeper.
use Rattle.std.specs.Prelude.{◌≡◌, ◌⊎◌, ℕ, ◌<◌, ◌≤◌, codes}
use Rattle.sat_base.specs.Keeper.{KeeperView}
use Rattle.sat_base.specs.Outside.{About, Rose, with_end}
use Rattle.machine_step.specs.Tables.{Tables}
use Rattle.sat_book.specs.Book.{BookView, Keeps, Spell, start_of}
use Rattle.sat_book.specs.Openings.{Opens}
use Rattle.sat_console.specs.Run.{Says, fault_line}
use Rattle.sat_drill.specs.Drill.{sheet_of}
use Rattle.satellite_cli.specs.Serving.{NotOpened}

-- the sheet was written, or a front of it at status 5
pub record IsSheet (t : Tables) (month status : ℕ) (old new : About) : Type 0 where
  pub closed : month < t.marks.month.0
  pub says : Says (sheet_of t month) old new
  pub all : status ≡ 0 → new.written ≡ with_end old.written (sheet_of t month)

-- `sheet` of tables, by its status: it is refused where the month is the next to close or above
abbrev pub Prints : Tables → ℕ → ℕ → About → About → Type 0
Prints t month status old new =
    (((status ≡ 0) ⊎ ((status ≡ 5) × Rose old.write_faults new.write_faults)) × IsSheet t month status old new)
    ⊎ (((status ≡ 8) × (t.marks.month.0 ≤ month) × Says (codes "error: refused month-open\n") old new)
    ⊎ ((status ≡ 9) × Says (fault_line 9) old new))

module _ {K : Type 0} (about : K → KeeperView) where
  -- over the book that was opened over the keeper: its tables are those that its rows spell, what was printed is of them, and the
  -- keeper that comes back is the book's, with these rows
  pub record IsPrintedOf (book : BookView K) (month : ℕ) (old new : K) (status : ℕ) (said said_after : About) : Type 0 where
    pub opens : Opens about old 1 book
    pub keeper : new ≡ book.keeper
    pub spelled : Spell book.opening
    pub keeps : Keeps about book.first book.opened new (start_of book.opening) book.history
    pub prints : Prints (start_of book.opening) month status said said_after

  -- there is no book, and it is said why; or there is one, and it was printed
  abbrev pub IsPrinted : ℕ → (old new : K) → ℕ → (said said_after : About) → Type 0
  IsPrinted month old new status said said_after =
      NotOpened about old new status said said_after
      ⊎ ((book : BookView K) × IsPrintedOf book month old new status said said_after)
