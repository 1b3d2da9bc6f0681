use Rattle.std.proofs.Common.{refl, sym}
use Rattle.record_rows.proofs.laws.ids_stand_in_order.Goals as goal

pub returns : goal.returns
returns c x y fx fy of = (c.kinds_are_told_apart.ensures x).order x y refl (sym of) fx fy
