-- What it comes to when records of one kind are put one after another.
use Rattle.std.proofs.Common.{◌≡◌, ℕ, ◌+◌, ◌≤◌, true, List, [], ◌∷◌, length, refl, arith}
use Rattle.std.specs.Prelude.{map}
use Rattle.std.specs.List.{list_all}
use Rattle.std.proofs.lemmas.Bool.{and_parts}
use Rattle.rows.specs.Slots.{with_row}
use Rattle.tally_payout.specs.declared.amounts.Tally.{Tally}
use Rattle.tally_payout.specs.declared.amounts.Statement.{Statement}
use Rattle.tally_payout.specs.Ranks.{tally_rank, statement_rank}
use Rattle.month_pay.proofs.ListFacts.{with_rows}
use Rattle.machine_calls.specs.declared.change.RecChange.TheVariants as changes
use Rattle.machine_step.specs.Tables.{Tables, all_changed}
use Rattle.machine_step.specs.Rules.{is_sound_tally}
use Rattle.machine_step.proofs.RowLemmas.{length-with_row}
use Rattle.machine_step.proofs.Steady.{AllFit}

pub put_tallies : (rows : List Tally) (t : Tables) → all_changed t (map changes.Tally rows) ≡ record t { tallies = with_rows tally_rank t.tallies rows }
put_tallies [] t = refl
put_tallies (row ∷ rows) t = put_tallies rows (record t { tallies = with_row tally_rank t.tallies row })

pub put_statements : (rows : List Statement) (t : Tables) → all_changed t (map changes.Statement rows) ≡ record t { statements = with_rows statement_rank t.statements rows }
put_statements [] t = refl
put_statements (row ∷ rows) t = put_statements rows (record t { statements = with_row statement_rank t.statements row })

-- they fit one by one
pub fit-tallies : (from : ℕ) (rows : List Tally) (t : Tables) → list_all (is_sound_tally t.marks t.nodes) rows ≡ true → length t.tallies + length rows ≤ t.setup.caps.tallies → AllFit from t (map changes.Tally rows)
fit-tallies from [] t all room = tt
fit-tallies from (row ∷ rows) t all room =
    let parts = and_parts (is_sound_tally t.marks t.nodes row) (list_all (is_sound_tally t.marks t.nodes) rows) all in
    let more = length-with_row tally_rank t.tallies row in
    (record { sound = parts.0; few = omega (arith, more, room) }, fit-tallies from rows (record t { tallies = with_row tally_rank t.tallies row }) parts.1 (omega (arith, more, room)))

pub fit-statements : (from : ℕ) (rows : List Statement) (t : Tables) → AllFit from t (map changes.Statement rows)
fit-statements from [] t = tt
fit-statements from (row ∷ rows) t = (tt, fit-statements from rows (record t { statements = with_row statement_rank t.statements row }))
