use Rattle.std.proofs.Common.{◌≡◌, ◌<◌, ◌^◌, None, ap, ◌∙◌, arith}
use Rattle.rows.specs.Rows.{row_at}
use Rattle.rows.specs.Slots.{Slots, has_slot}
use Rattle.segment_index.specs.declared.pairs.Pair.{Pair}
use Rattle.segment_index.specs.Pairs.{pair_rank}
use Rattle.segment_index.proofs.PairLemmas.{no_slot_more, found-has, none_found}
use Rattle.segment_index.proofs.pairs.PairSet.release.Goals as goal

pub returns-clause-gone : goal.returns-clause-gone
returns-clause-gone c none =
    let low : c.args.pair.low < 2 ^ 64 = omega arith in
    let absent : row_at pair_rank c.self.inside.pairs.rows (pair_rank c.args.pair) ≡ None =
    none_found _ (found-has c.self.inside.pairs.rows c.args.pair c.self.invariant low ∙ (rw (← c.self.view_is) at none)) in
    rw (← c.rank.ensures) (c.release.ensures.gone (rw c.rank.ensures absent))

pub returns-clause-fewer : goal.returns-clause-fewer
returns-clause-fewer c k none =
    no_slot_more pair_rank c.self.inside.pairs c.release.new.self c.rank.result c.release.ensures.released c.release.ensures.kept k (ap (λ (t : Slots Pair). has_slot t k) c.self.view_is ∙ none)
