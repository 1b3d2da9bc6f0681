use Rattle.std.proofs.Common.{◌≡◌, [], sym, ◌∙◌}
use Rattle.turnstile.proofs.Entering.{heads}
use Rattle.turnstile.proofs.pass.reseat.Goals as goal

pub returns : goal.returns
returns g c =
    let s = c.into_seat.ensures in
    let b = c.into_badge.ensures in
    let same : c.into_seat.result.me.0 ≡ c.args.seat.me.0 = heads _ _ [] [] (sym s.2 ∙ b.2) in
    (s.0 ∙ b.0, s.1 ∙ b.1, (λ i. (same i, s.3 i)))
