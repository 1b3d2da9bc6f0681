use Rattle.std.proofs.Common.{◌+◌, ◌-◌, ◌*◌, arith, ◌∙◌, sym, ap, slice_index_or}
use Rattle.std.specs.Str.Parse.{digits_value}
use Rattle.std.proofs.lemmas.Str.Parse.{digits_value-take-le}
use Rattle.sat_base.proofs.TextLemmas.{value_step, up_to_none}
use Rattle.sat_base.proofs.text.value_up_to.Goals as goal

pub returns-then-value-most : goal.returns-then-value-most
returns-then-value-most c =
    let digit = slice_index_or c.args.digits.now c.loop-digit.digit-index 0 - 48 in
    let step = ap (λ v. v * 10 + digit) c.loop-digit.invariant.value ∙ sym (value_step c.args.digits.now c.loop-digit.digit-index c.loop-digit-test.true c.requires) in
    let whole = digits_value-take-le 10 c.args.digits.now (c.loop-digit.digit-index + 1) (omega arith) in
    up_to_none c.args.most (digits_value 10 c.args.digits.now) (omega (arith, step, whole))

pub loop-digit-preserved : goal.loop-digit-preserved
loop-digit-preserved c =
    let digit = slice_index_or c.args.digits.now c.loop-digit.digit-index 0 - 48 in
    record {
      value = ap (λ v. v * 10 + digit) c.loop-digit.invariant.value ∙ sym (value_step c.args.digits.now c.loop-digit.digit-index c.loop-digit-test.true c.requires);
      small = omega arith;
    }
