use Rattle.std.proofs.Common.{◌≡◌, inl, inr, refl, arith}
use Rattle.satellite_cli.proofs.printing.print_month.Goals as goal

pub returns-then-marks-month : goal.returns-then-marks-month
returns-then-marks-month g c =
    let next : c.marks.result.now.month.0 ≡ c.args.core.now.tables.marks.month.0 = λ i. (c.marks.ensures.marks i).month.0 in
    let le = c.if-marks-month.true in
    inr (inl (refl, omega arith, c.say.ensures.says))
