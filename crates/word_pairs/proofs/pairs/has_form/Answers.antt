use Rattle.std.proofs.Common.{sym, ◌∙◌, arith}
use Rattle.word_pairs.specs.Pairs.{texts}
use Rattle.word_pairs.proofs.PairLemmas.{bad_pair, good_pair, odd_word}
use Rattle.word_pairs.proofs.pairs.has_form.Goals as goal

pub returns-then-len-i-lt2 : goal.returns-then-len-i-lt2
returns-then-len-i-lt2 c = sym (odd_word (texts c.args.names.now) c.args.line.now c.loop-i.i (omega arith) (omega arith)) ∙ c.loop-i.invariant.so_far

pub returns-then-not-has_pair : goal.returns-then-not-has_pair
returns-then-not-has_pair c = sym (bad_pair (texts c.args.names.now) c.args.line.now c.loop-i.i (omega arith) (sym c.has_pair.ensures ∙ c.if-not-has_pair.true)) ∙ c.loop-i.invariant.so_far

pub loop-i-preserved : goal.loop-i-preserved
loop-i-preserved c = record {
  in_range = omega arith;
  so_far = sym (good_pair (texts c.args.names.now) c.args.line.now c.loop-i.i (omega arith) (sym c.has_pair.ensures ∙ c.if-not-has_pair.false)) ∙ c.loop-i.invariant.so_far;
}
