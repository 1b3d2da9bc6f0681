use Rattle.tally_payout.specs.Ranks.{statement_rank}
use Rattle.pay_tables.proofs.Freed.{no-slot-more}
use Rattle.pay_tables.proofs.tables.PayTables.release_statement.Goals as goal

pub returns-clause-fewer : goal.returns-clause-fewer
returns-clause-fewer c =
    record {
      tallies = λ k none. none;
      statements = no-slot-more statement_rank c.args.self.now.statements c.release.new.self c.rank.result c.release.ensures.released c.release.ensures.kept;
      sums = λ k none. none;
      stored = λ k none. none;
      pots = c.release-2.ensures.others;
    }
