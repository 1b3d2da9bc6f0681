use Rattle.std.proofs.Common.{◌<◌, ◌^◌, ℕ, ap, sym, ◌∙◌, arith}
use Rattle.rows.specs.Rows.{first_above}
use Rattle.segment_index.specs.Pairs.{pair_rank}
use Rattle.segment_index.proofs.PairLemmas.{none_next, other_next, some_next}
use Rattle.segment_index.proofs.pairs.PairSet.next.Goals as goal

pub returns-in-Some : goal.returns-in-Some
returns-in-Some c =
    let bound : c.args.bound < 2 ^ 64 = omega arith in
    let is = ap (λ (k : ℕ). first_above pair_rank c.self.inside.pairs.rows k) (sym c.rank.ensures) ∙ sym c.in-Some.ensures.row in
    rw (← c.self.view_is) (some_next c.self.inside.pairs.rows c.args.high c.args.bound c.after.ensures.rising c.self.invariant bound c.in-Some.pair.now is c.if-pair-high.true)

pub returns-in-Some-2 : goal.returns-in-Some-2
returns-in-Some-2 c =
    let bound : c.args.bound < 2 ^ 64 = omega arith in
    let is = ap (λ (k : ℕ). first_above pair_rank c.self.inside.pairs.rows k) (sym c.rank.ensures) ∙ sym c.in-Some.ensures.row in
    rw (← c.self.view_is) (other_next c.self.inside.pairs.rows c.args.high c.args.bound c.after.ensures.rising c.self.invariant bound c.in-Some.pair.now is c.if-pair-high.false)

pub returns-in-None : goal.returns-in-None
returns-in-None c =
    let bound : c.args.bound < 2 ^ 64 = omega arith in
    let is = ap (λ (k : ℕ). first_above pair_rank c.self.inside.pairs.rows k) (sym c.rank.ensures) ∙ sym c.in-None.ensures.row in
    rw (← c.self.view_is) (none_next c.self.inside.pairs.rows c.args.high c.args.bound c.after.ensures.rising c.self.invariant bound is)
