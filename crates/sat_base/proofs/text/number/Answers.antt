use Rattle.std.proofs.Common.{◌∙◌}
use Rattle.sat_base.proofs.TextLemmas.{up_to_small, numeral_is}
use Rattle.sat_base.proofs.text.number.Goals as goal

pub returns-clause-value : goal.returns-clause-value
returns-clause-value c = rw (numeral_is c.is_numeral.result c.args.digits.now c.is_numeral.ensures ∙ c.if-not-is_numeral.false) c.value_up_to.ensures

pub returns-clause-small : goal.returns-clause-small
returns-clause-small c = up_to_small c.args.most _ c.value_up_to.result c.value_up_to.ensures
