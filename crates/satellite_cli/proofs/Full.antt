-- Whether some session or round met the full term.
use Rattle.std.proofs.Common.{◌≡◌, ◌∙◌, List, [], ◌∷◌, map, Bool, refl, ap, Vec, Global}
use Rattle.std.specs.Prelude.{◌||◌}
use Rattle.std.specs.List.{list_any}
use Rattle.desk_runs.specs.Runs.{some_is}
use Rattle.sat_sessions.specs.Lanes.{session_full}
use Rattle.sat_sessions.specs.Rounds.{round_full}
use Rattle.sat_sessions.specs.declared.told.Session.{Session}
use Rattle.sat_term.specs.Term.{met_full}
use Rattle.sat_term.specs.declared.term.Term.{Term}

any_some : {X : Type 0} (p : X → Bool) (xs : List X) → list_any p xs ≡ some_is p xs
any_some p [] = refl
any_some p (x ∷ xs) = ap (λ (b : Bool). p x || b) (any_some p xs)

any_lane : (lanes : List (Vec Session Global)) → list_any (λ (lane : Vec Session Global). list_any session_full lane.items) lanes ≡ some_is (some_is session_full) (map (λ (lane : Vec Session Global). lane.items) lanes)
any_lane [] = refl
any_lane (lane ∷ lanes) = λ i. any_some session_full lane.items i || any_lane lanes i

pub met_is : (t : Term) → (list_any (λ (lane : Vec Session Global). list_any session_full lane.items) t.lanes.items
    || (list_any round_full t.audits.items || (list_any round_full t.repairs.items || list_any round_full t.tallies.items))) ≡ met_full t
met_is t = λ i. any_lane t.lanes.items i || (any_some round_full t.audits.items i || (any_some round_full t.repairs.items i || any_some round_full t.tallies.items i))
