use Rattle.month_sums.specs.Open.{open_rank}
use Rattle.pay_tables.proofs.Freed.{no-slot-more}
use Rattle.pay_tables.proofs.tables.PayTables.release_order.Goals as goal

pub returns-clause-fewer : goal.returns-clause-fewer
returns-clause-fewer c =
    record {
      tallies = λ k none. none;
      statements = λ k none. none;
      sums = no-slot-more open_rank c.args.self.now.sums c.release.new.self c.from.result c.release.ensures.released c.release.ensures.kept;
      stored = λ k none. none;
      pots = λ k none. none;
    }
