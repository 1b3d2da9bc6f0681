-- A loop that changes each element of a list in place.
use Rattle.std.proofs.Common.{◌≡◌, ◌≤◌, ◌<◌, drop, take, length, set, get_or, ℕ, suc, ◌+◌, List, ◌++◌, arith, add-one, append_assoc, append-nil}
use Rattle.std.proofs.lemmas.List.{length-take, length-map, map-append, take_all, drop_all}
use Rattle.std.proofs.Math.Seq.{set-append_seam, get_or-append_seam, drop-cons, take-suc}
use Rattle.std.specs.Prelude.{map}

-- the first i elements are changed
abbrev pub changed_to : (ℕ → ℕ) → ℕ → List ℕ → List ℕ
changed_to f i xs = map f (take i xs) ++ drop i xs

pub read_next : (f : ℕ → ℕ) (xs : List ℕ) (i : ℕ) → i < length xs → get_or (changed_to f i xs) i 0 ≡ get_or xs i 0
read_next f xs i lt =
    let len : length (map f (take i xs)) ≡ i = rw length-map (omega (arith, length-take i xs)) in
    rw (drop-cons xs i 0 lt) (rw len at (get_or-append_seam (map f (take i xs)) (get_or xs i 0) (drop (suc i) xs) 0))

pub change_next : (f : ℕ → ℕ) (xs items : List ℕ) (i : ℕ) → i < length xs → items ≡ changed_to f i xs → set items i (f (get_or items i 0)) ≡ changed_to f (i + 1) xs
change_next f xs items i lt is =
    let len : length (map f (take i xs)) ≡ i = rw length-map (omega (arith, length-take i xs)) in
    let seam = set-append_seam (map f (take i xs)) (get_or xs i 0) (drop (suc i) xs) (f (get_or xs i 0)) in
    rw (is, read_next f xs i lt, drop-cons xs i 0 lt, add-one, take-suc xs i 0 lt, map-append, append_assoc) (rw len at seam)

pub change_all : (f : ℕ → ℕ) (xs items : List ℕ) (i : ℕ) → length xs ≤ i → items ≡ changed_to f i xs → items ≡ map f xs
change_all f xs items i le is = rw (is, take_all i xs le, drop_all i xs le) (append-nil (map f xs))
