use Rattle.std.proofs.Common.{sym, ap, ◌∙◌, arith}
use Rattle.gf256.specs.Field.{◌⊗◌, power}
use Rattle.gf256.proofs.Laws.{power_zero}
use Rattle.bw_decode.proofs.Forms.{next_power, power_of_one, written_more}
use Rattle.bw_decode.proofs.combination.write_powers.Goals as goal

pub loop-c-init : goal.loop-c-init
loop-c-init c = record {
  next = sym (power_zero c.args.base);
  done = λ k h. absurd (omega arith);
}

pub loop-c-preserved : goal.loop-c-preserved
loop-c-preserved c =
    let base = c.args.base in
    let loop = c.loop-c in
    record {
      next = c.mul-factor.ensures ∙ ap (λ z. base ⊗ z) loop.invariant.next ∙ next_power base loop.c;
      done = written_more loop.factors loop.c loop.factor (power base) (omega arith) loop.invariant.done loop.invariant.next;
    }

pub returns-clause-ones : goal.returns-clause-ones
returns-clause-ones c is k h = c.loop-c.invariant.done k (omega arith) ∙ power_of_one c.args.base k is
