-- The numbers and the lists of a term without entries.
use Rattle.std.proofs.Common.{ℕ, ◌+◌, ◌<◌, List, [], ◌∷◌, ◌++◌, arith}
use Rattle.desk_runs.specs.Gathered.{Rises}
use Rattle.sat_term.specs.Workers.{Every}

pub rises_next : (low : ℕ) (ns : List ℕ) (high : ℕ) → Rises low ns high → low < high → Rises low (ns ++ high ∷ []) (high + 1)
rises_next low [] high r h = (h, omega arith, tt)
rises_next low (n ∷ ns) high r h = (r.0, (let a = r.1 in omega arith), rises_next n ns high r.2 r.1)

pub every_next : {X : Type 0} (P : X → Type 0) (xs : List X) (x : X) → Every P xs → P x → Every P (xs ++ x ∷ [])
every_next P [] x all one = (one, tt)
every_next P (y ∷ ys) x all one = (all.0, every_next P ys x all.1 one)
