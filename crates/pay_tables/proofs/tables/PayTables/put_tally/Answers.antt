use Rattle.std.proofs.Common.{◌*◌, ◌^◌, ◌<◌, ◌≤◌, List, refl, sym, ap, subst, ◌∙◌}
use Rattle.rows.specs.Rows.{Each, row_at, IsRising}
use Rattle.rows.proofs.Rising.{rising-with_row}
use Rattle.tally_payout.specs.declared.amounts.Tally.{Tally}
use Rattle.tally_payout.specs.Ranks.{tally_rank}
use Rattle.month_sums.specs.Open.{GoByRows}
use Rattle.machine_step.proofs.RowLemmas.{each-with_row}
use Rattle.pay_tables.specs.declared.tables.PayTables.{PayTables}
use Rattle.pay_tables.proofs.Places.{same-slots, tally-stays, other-tally}
use Rattle.pay_tables.proofs.tables.PayTables.put_tally.Goals as goal

pub returns-clause-others : goal.returns-clause-others
returns-clause-others c other apart placed =
    let old = c.args.self.now in
    let new : PayTables = record old { sums = c.add_tally.new.rows; tallies = c.put.new.self } in
    tally-stays old new refl (same-slots old.tallies new.tallies c.put.ensures.slots) (same-slots old.sums new.sums c.add_tally.ensures.slots) other
    (ap (λ (rows : List Tally). row_at tally_rank rows (tally_rank other)) c.put.ensures.rows ∙ other-tally old.tallies.rows c.args.tally (tally_rank other) apart) placed

pub returns-clause-keeps : goal.returns-clause-keeps
returns-clause-keeps c setup segments settled step =
    let old = c.args.self.now in
    let tally = c.args.tally in
    let rows = sym c.put.ensures.rows in
    let placed = c.requires.placed in
    record {
      sums = subst (λ (tallies : List Tally). GoByRows c.add_tally.new.rows.rows settled tallies old.statements.rows) rows (c.add_tally.ensures.keeps settled old.tallies.rows old.statements.rows placed.able.absent step.sums);
      stored = step.stored;
      pots = step.pots;
      short = step.short;
      small = step.small;
      few = step.few;
      rising = subst (λ (tallies : List Tally). IsRising tally_rank tallies) rows (rising-with_row tally_rank old.tallies.rows tally step.rising);
      bytes = subst (λ (tallies : List Tally). Each (λ row. row.bytes ≤ 2 ^ 44) tallies) rows (each-with_row tally_rank (λ row. row.bytes ≤ 2 ^ 44) old.tallies.rows tally step.bytes placed.able.small);
      early = subst (λ (tallies : List Tally). Each (λ row. row.hour.0 * 3600 < 2 ^ 36) tallies) rows (each-with_row tally_rank (λ row. row.hour.0 * 3600 < 2 ^ 36) old.tallies.rows tally step.early placed.able.early);
    }
