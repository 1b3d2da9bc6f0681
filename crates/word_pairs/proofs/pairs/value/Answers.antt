use Rattle.std.proofs.Common.{sym, ◌∙◌, arith}
use Rattle.word_pairs.proofs.PairLemmas.{other_name, this_name, no_pair}
use Rattle.word_pairs.proofs.pairs.value.Goals as goal

pub returns-then-eq : goal.returns-then-eq
returns-then-eq c = sym (this_name c.args.line.now c.loop-i.i c.word.result.now (omega arith) c.word.ensures c.args.name.now c.word-then-eq.result.now c.word-then-eq.ensures (sym c.eq.ensures ∙ c.if-eq.true)) ∙ c.loop-i.invariant.so_far

pub loop-i-preserved : goal.loop-i-preserved
loop-i-preserved c = record {
  in_range = omega arith;
  so_far = sym (other_name c.args.line.now c.loop-i.i c.word.result.now (omega arith) c.word.ensures c.args.name.now (sym c.eq.ensures ∙ c.if-eq.false)) ∙ c.loop-i.invariant.so_far;
}

pub returns : goal.returns
returns c = sym (no_pair c.args.line.now c.loop-i.i c.args.name.now (omega arith)) ∙ c.loop-i.invariant.so_far
