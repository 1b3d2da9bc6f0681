-- A sheet that is printed, or isn't.
use Rattle.std.proofs.Common.{◌≡◌, ◌∙◌, ℕ, List, ap, inl, inr, subst}
use Rattle.std.specs.Prelude.{◌⊎◌}
use Rattle.sat_base.specs.Keeper.{KeeperView}
use Rattle.sat_base.specs.Outside.{About, Rose}
use Rattle.machine_step.specs.Tables.{Tables}
use Rattle.sat_book.specs.Book.{BookView, Keeps, Spell, start_of}
use Rattle.sat_book.specs.Legal.{E, replayed}
use Rattle.sat_book.specs.Openings.{Opens}
use Rattle.satellite_cli.proofs.Ends.{closed_well}
use Rattle.satellite_cli.specs.Printing.{IsPrinted, Prints}
use Rattle.satellite_cli.specs.Serving.{AreSound}

-- where no count rose and the month is closed
prints_well : (t : Tables) (month status : ℕ) (old new : About) → Prints t month status old new
    → (Rose old.write_faults new.write_faults → ⊥) → (status ≡ 8 → ⊥) → (status ≡ 0) ⊎ (status ≡ 9)
prints_well t month status old new (inl (inl well, said)) no_cut closed = inl well
prints_well t month status old new (inl (inr cut, said)) no_cut closed = absurd (no_cut cut.1)
prints_well t month status old new (inr (inl refused)) no_cut closed = absurd (closed refused.0)
prints_well t month status old new (inr (inr wanting)) no_cut closed = inr wanting.0

module _ {K : Type 0} (about : K → KeeperView) where
  -- a book without entries has the tables that it was opened with
  pub printed_of : (month : ℕ) (old new : K) (status : ℕ) (said said_after : About) (b : BookView K) (tables : Tables) → Opens about old 1 b
      → new ≡ b.keeper → Spell b.opening → Keeps about b.first b.opened new (start_of b.opening) b.history
      → tables ≡ b.tables → b.tables ≡ replayed (start_of b.opening) b.history → Prints tables month status said said_after
      → IsPrinted about month old new status said said_after
  printed_of month old new status said said_after b tables opens keeper spelled keeps own replay prints =
      let start : tables ≡ start_of b.opening = own ∙ (replay ∙ ap (λ (h : List E). replayed (start_of b.opening) h) opens.none_yet) in
      inr (b, record { opens = opens; keeper = keeper; spelled = spelled; keeps = keeps; prints = subst (λ (t : Tables). Prints t month status said said_after) start prints })

  -- over sound rows
  pub sheets_well : (month : ℕ) (old new : K) (status : ℕ) (said said_after : About) → IsPrinted about month old new status said said_after
      → (about new).is_open → (about old).tells → AreSound (about old).rows → (Rose (about old).faults (about new).faults → ⊥) → (Rose said.write_faults said_after.write_faults → ⊥)
      → (status ≡ 8 → ⊥) → (status ≡ 0) ⊎ (status ≡ 9)
  sheets_well month old new status said said_after (inl none) up told sound no_fault no_cut closed =
      inr (closed_well about old new status said said_after none up told sound no_fault)
  sheets_well month old new status said said_after (inr (b, printed)) up told sound no_fault no_cut closed =
      prints_well _ month status said said_after printed.prints no_cut closed
