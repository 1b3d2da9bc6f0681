-- The last of several meets what none before it met.
use Rattle.std.proofs.Common.{◌≡◌, List, [], ◌∷◌, ◌++◌, Bool, false, ap, ◌∙◌}
use Rattle.std.specs.Prelude.{◌||◌}
use Rattle.std.proofs.lemmas.Bool.{or_parts}
use mathlib.Core.Bool.{or-false}
use Rattle.desk_runs.specs.Runs.{some_is}

pub met_more : {X : Type 0} (p : X → Bool) (xs : List X) (y : X) → some_is p xs ≡ false → some_is p (xs ++ y ∷ []) ≡ p y
met_more p [] y none = or-false (p y)
met_more p (x ∷ xs) y none =
    let both = or_parts (p x) (some_is p xs) none in
    ap (λ (b : Bool). b || some_is p (xs ++ y ∷ [])) both.0 ∙ met_more p xs y both.1
