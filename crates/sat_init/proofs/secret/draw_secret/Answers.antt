use Rattle.std.proofs.Common.{[], ◌∷◌, refl, ◌∙◌}
use Rattle.sat_init.proofs.Drawing.{drawn_four}
use Rattle.sat_init.proofs.secret.draw_secret.Goals as goal

pub returns-in-Ok-clause-secret : goal.returns-in-Ok-clause-secret
returns-in-Ok-clause-secret g c =
    let one = c.in_ok-first.ensures.word in
    let two = c.in_ok-second.ensures.word in
    let three = c.in_ok-third.ensures.word in
    let four = c.in_ok-fourth.ensures.word in (
      record {
        drawn = c.in_ok-first.first ∷ c.in_ok-second.second ∷ c.in_ok-third.third ∷ c.in_ok-fourth.fourth ∷ [];
        four = refl;
        bytes = c.in-Ok.ensures;
        taken = drawn_four _ _ _ _ _ _ _ _ _ one.0 two.0 three.0 four.0;
      },
      four.1 ∙ three.1 ∙ two.1 ∙ one.1,
    )
