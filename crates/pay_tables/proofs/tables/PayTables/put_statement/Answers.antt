use Rattle.std.proofs.Common.{ℕ, ◌<◌, List, refl, sym, ap, subst, ◌∙◌}
use Rattle.rows.specs.Rows.{Each, without}
use Rattle.rows.specs.Slots.{with_row}
use Rattle.tally_payout.specs.declared.amounts.Statement.{Statement}
use Rattle.tally_payout.specs.Ranks.{statement_rank}
use Rattle.month_sums.specs.declared.sums.OpenSums.{OpenSums}
use Rattle.month_sums.specs.Open.{open_rank, GoByRows}
use Rattle.pay_tables.specs.declared.balance.Balance.{Balance}
use Rattle.pay_tables.specs.declared.tables.PayTables.{PayTables}
use Rattle.pay_tables.specs.Amounts.{GoByStatements}
use Rattle.pay_tables.proofs.Places.{same-slots, statement-stays, below-later}
use Rattle.pay_tables.proofs.Steps.{statement-sums, statement-pots}
use Rattle.pay_tables.proofs.tables.PayTables.put_statement.Goals as goal

pub returns-clause-later : goal.returns-clause-later
returns-clause-later c s lt placed =
    let old = c.args.self.now in
    let new : PayTables = record old { sums = c.remove.new.self; pots = c.put.new.self; statements = c.put-2.new.self } in
    let below = below-later old.statements.rows c.args.statement s lt placed.able in
    statement-stays old new (same-slots old.statements new.statements c.put-2.ensures.slots) (same-slots old.pots new.pots c.put.ensures.slots) s
    (subst (λ (rows : List Statement). Each (λ row. statement_rank row < statement_rank s) rows) (sym c.put-2.ensures.rows) below) placed

pub returns-clause-keeps : goal.returns-clause-keeps
returns-clause-keeps c setup segments settled step =
    let old = c.args.self.now in
    let statement = c.args.statement in
    let pot : Balance = record { node = statement.node; amount = statement.pot } in
    let statements = sym c.put-2.ensures.rows in
    let sums = c.remove.ensures.rows ∙ ap (λ (k : ℕ). without open_rank old.sums.rows k) (c.from.ensures ∙ c.place_of.ensures) in
    record {
      sums = subst (λ (rows : List Statement). GoByRows c.remove.new.self.rows settled old.tallies.rows rows) statements
          (subst (λ (rows : List OpenSums). GoByRows rows settled old.tallies.rows (with_row statement_rank old.statements.rows statement)) (sym sums)
          (statement-sums old.sums.rows settled old.tallies.rows old.statements.rows statement step.sums));
      stored = step.stored;
      pots = subst (λ (rows : List Statement). GoByStatements c.put.new.self.rows rows) statements
          (subst (λ (rows : List Balance). GoByStatements rows (with_row statement_rank old.statements.rows statement)) (sym c.put.ensures.rows)
          (statement-pots old.pots.rows old.statements.rows statement pot refl refl c.requires.able step.pots));
      short = step.short;
      small = step.small;
      few = step.few;
      rising = step.rising;
      bytes = step.bytes;
      early = step.early;
    }
