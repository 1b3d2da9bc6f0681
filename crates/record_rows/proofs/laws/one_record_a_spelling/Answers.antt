use Rattle.std.proofs.Common.{refl, sym, ap}
use Rattle.record_rows.proofs.laws.one_record_a_spelling.Goals as goal

pub returns : goal.returns
returns c x y fx fy same = (c.kinds_are_told_apart.ensures x).one x y refl (sym (ap (λ row. row.kind) same)) fx fy same
