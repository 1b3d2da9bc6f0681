-- Room that is there stays.
use Rattle.std.proofs.Common.{◌≡◌, ℕ, ◌<◌, Bool, true, false, List, Some, refl, ap, ◌∙◌, arith}
use Rattle.std.specs.Prelude.{if◌then◌else◌, ◌==◌}
use Rattle.std.specs.List.{list_any}
use Rattle.std.proofs.lemmas.Bool.Decides.{nat_tests}
use Rattle.rows.specs.Rows.{Each, row_at}
use Rattle.rows.specs.Slots.{Slots, has_slot, with_row}
use Rattle.rows.proofs.Found.{row_at-with_row}
use Rattle.tally_payout.specs.declared.amounts.Statement.{Statement}
use Rattle.tally_payout.specs.declared.amounts.Tally.{Tally}
use Rattle.tally_payout.specs.Ranks.{month_place, statement_rank, tally_rank}
use Rattle.month_pay.specs.Months.{month_of_hour}
use Rattle.machine_step.proofs.RowLemmas.{each-with_row}
use Rattle.pay_tables.specs.declared.tables.PayTables.{PayTables}
use Rattle.pay_tables.specs.Placed.{IsTallyPlaced, IsStatementPlaced}

-- the slots of a table that are there stay
abbrev pub KeepsSlots : {R : Type 0} → Slots R → Slots R → Type 0
KeepsSlots old new = (k : ℕ) → has_slot old k ≡ true → has_slot new k ≡ true

pub same-slots : {R : Type 0} (old new : Slots R) → new.slots ≡ old.slots → KeepsSlots old new
same-slots old new same k there = ap (λ (slots : List ℕ). list_any (λ slot. slot == k) slots) same ∙ there

module _ (old new : PayTables) where
  -- a tally whose rank has no row still
  pub tally-stays : new.statements.rows ≡ old.statements.rows → KeepsSlots old.tallies new.tallies → KeepsSlots old.sums new.sums → (tally : Tally) → row_at tally_rank new.tallies.rows (tally_rank tally) ≡ row_at tally_rank old.tallies.rows (tally_rank tally)
      → IsTallyPlaced old tally → IsTallyPlaced new tally
  tally-stays statements tallies sums tally same placed = record {
    row = tallies (tally_rank tally) placed.row;
    sum = sums (month_place (month_of_hour tally.hour.0) tally.node.0) placed.sum;
    able = record {
      absent = same ∙ placed.able.absent;
      unstated = ap (λ (rows : List Statement). row_at statement_rank rows (month_place (month_of_hour tally.hour.0) tally.node.0)) statements ∙ placed.able.unstated;
      small = placed.able.small;
      early = placed.able.early;
    };
  }

  pub statement-stays : KeepsSlots old.statements new.statements → KeepsSlots old.pots new.pots → (s : Statement) → Each (λ row. statement_rank row < statement_rank s) new.statements.rows → IsStatementPlaced old s → IsStatementPlaced new s
  statement-stays statements pots s below placed = record {
    row = statements (statement_rank s) placed.row;
    pot = pots s.node.0 placed.pot;
    able = below;
  }

-- a tally that is put leaves the place of each other rank without a row
pub other-tally : (rows : List Tally) (tally : Tally) (k : ℕ) → (tally_rank tally ≡ k → ⊥) → row_at tally_rank (with_row tally_rank rows tally) k ≡ row_at tally_rank rows k
other-tally rows tally k ne = row_at-with_row tally_rank rows tally k ∙ go (tally_rank tally == k) refl
  where
    go : (b : Bool) → (tally_rank tally == k) ≡ b → (if b then Some tally else row_at tally_rank rows k) ≡ row_at tally_rank rows k
    go true e = absurd (ne (grind (arith, nat_tests, e)))
    go false e = refl

-- a statement that is put is below each later one
pub below-later : (rows : List Statement) (one s : Statement) → statement_rank one < statement_rank s → Each (λ row. statement_rank row < statement_rank s) rows → Each (λ row. statement_rank row < statement_rank s) (with_row statement_rank rows one)
below-later rows one s lt below = each-with_row statement_rank (λ row. statement_rank row < statement_rank s) rows one below lt
