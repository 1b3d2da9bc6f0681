use Rattle.std.proofs.Common.{◌<◌, ◌^◌, ℕ, is_some, sym, ap, ◌∙◌, arith}
use Rattle.rows.specs.Rows.{row_at}
use Rattle.segment_index.specs.Pairs.{pair_rank}
use Rattle.segment_index.proofs.PairLemmas.{copied_some, found-has}
use Rattle.segment_index.proofs.pairs.PairSet.contains.Goals as goal

pub returns : goal.returns
returns c =
    let low : c.args.pair.low < 2 ^ 64 = omega arith in
    rw (← c.self.view_is)
    (c.is_some.ensures ∙ sym (copied_some c.get.result) ∙ ap is_some c.get.ensures
    ∙ ap (λ (k : ℕ). is_some (row_at pair_rank c.self.inside.pairs.rows k)) c.rank.ensures
    ∙ found-has c.self.inside.pairs.rows c.args.pair c.self.invariant low)
