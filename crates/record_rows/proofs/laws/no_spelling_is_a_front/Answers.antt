use Rattle.std.proofs.Common.{refl, sym}
use Rattle.record_rows.proofs.laws.no_spelling_is_a_front.Goals as goal

pub returns-clause-ids : goal.returns-clause-ids
returns-clause-ids c x y r s fx fy of same = (c.kinds_are_told_apart.ensures x).ids x y r s refl (sym of) fx fy same

pub returns-clause-bodies : goal.returns-clause-bodies
returns-clause-bodies c x y r s fx fy of same = (c.kinds_are_told_apart.ensures x).bodies x y r s refl (sym of) fx fy same
