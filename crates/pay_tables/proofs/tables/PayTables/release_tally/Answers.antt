use Rattle.tally_payout.specs.Ranks.{tally_rank}
use Rattle.month_sums.specs.Open.{open_rank}
use Rattle.pay_tables.proofs.Freed.{no-slot-more}
use Rattle.pay_tables.proofs.tables.PayTables.release_tally.Goals as goal

pub returns-clause-fewer : goal.returns-clause-fewer
returns-clause-fewer c =
    record {
      tallies = no-slot-more tally_rank c.args.self.now.tallies c.release.new.self c.rank.result c.release.ensures.released c.release.ensures.kept;
      statements = λ k none. none;
      sums = no-slot-more open_rank c.args.self.now.sums c.release-2.new.self c.from.result c.release-2.ensures.released c.release-2.ensures.kept;
      stored = λ k none. none;
      pots = λ k none. none;
    }
