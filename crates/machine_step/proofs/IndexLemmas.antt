-- Pieces by index.
use Rattle.std.proofs.Common.{◌≡◌, ℕ, zero, suc, ◌+◌, ◌<◌, ◌≤◌, Bool, true, false, List, [], ◌∷◌, length, get_or, arith}
use Rattle.std.specs.Prelude.{if◌then◌else◌, filter}
use Rattle.std.proofs.lemmas.Bool.Decides.{nat_tests}
use Rattle.sat_base.specs.declared.records.At.{At}
use Rattle.rows.specs.Rows.{AllAbove, IsRising}
use Rattle.segment_core.specs.Places.{index_of, IsByIndex}
use Rattle.machine_step.specs.Rules.{are_below}

above-get : (n : ℕ) (xs : List At) (k : ℕ) (d : At) → AllAbove index_of n xs → k < length xs → n < (get_or xs k d).index
above-get n [] k d above lt = absurd (omega arith)
above-get n (x ∷ xs) zero d above lt = above.0
above-get n (x ∷ xs) (suc k) d above lt = above-get n xs k d above.1 (omega arith)

pub by_index-rising : (xs : List At) → IsRising index_of xs → IsByIndex xs
by_index-rising [] rising i j d lt within = absurd (omega arith)
by_index-rising (x ∷ xs) rising i zero d lt within = absurd (omega arith)
by_index-rising (x ∷ xs) rising zero (suc j) d lt within = above-get x.index xs j d rising.0 (omega arith)
by_index-rising (x ∷ xs) rising (suc i) (suc j) d lt within = by_index-rising xs rising.1 i j d (omega arith) (omega arith)

above-of : (n : ℕ) (xs : List At) → ((k : ℕ) (d : At) → k < length xs → n < (get_or xs k d).index) → AllAbove index_of n xs
above-of n [] all = tt
above-of n (x ∷ xs) all = (all 0 x (omega arith), above-of n xs (λ k d lt. all (suc k) d (omega arith)))

pub rising-by_index : (xs : List At) → IsByIndex xs → IsRising index_of xs
rising-by_index [] by = tt
rising-by_index (x ∷ xs) by =
    (above-of x.index xs (λ k d lt. by 0 (suc k) d (omega arith) (omega arith)), rising-by_index xs (λ i j d lt within. by (suc i) (suc j) d (omega arith) (omega arith)))

pub above-some : {R : Type 0} (rank : R → ℕ) (test : R → Bool) (n : ℕ) (rows : List R) → AllAbove rank n rows → AllAbove rank n (filter test rows)
above-some rank test n [] above = tt
above-some {R} rank test n (c ∷ rows) above = go (test c) (above-some rank test n rows above.1)
  where
    go : (b : Bool) → AllAbove rank n (filter test rows) → AllAbove rank n (if b then c ∷ filter test rows else filter test rows)
    go true rest = (above.0, rest)
    go false rest = rest

pub rising-some : {R : Type 0} (rank : R → ℕ) (test : R → Bool) (rows : List R) → IsRising rank rows → IsRising rank (filter test rows)
rising-some rank test [] rising = tt
rising-some {R} rank test (c ∷ rows) rising = go (test c) (rising-some rank test rows rising.1)
  where
    go : (b : Bool) → IsRising rank (filter test rows) → IsRising rank (if b then c ∷ filter test rows else filter test rows)
    go true rest = (above-some rank test (rank c) rows rising.0, rest)
    go false rest = rest

-- rising indexes below n number at most n
few-below : (n x : ℕ) (xs : List At) → AllAbove index_of x xs → IsRising index_of xs → are_below n xs ≡ true → x < n → x + 1 + length xs ≤ n
few-below n x [] above rising below lt = omega arith
few-below n x (y ∷ ys) above rising below lt =
    let here : y.index < n = grind (arith, nat_tests, below) in
    let rest : are_below n ys ≡ true = grind (arith, nat_tests, below) in
    omega (arith, above.0, few-below n y.index ys rising.0 rising.1 rest here)

pub few-pieces : (n : ℕ) (xs : List At) → IsRising index_of xs → are_below n xs ≡ true → length xs ≤ n
few-pieces n [] rising below = omega arith
few-pieces n (x ∷ xs) rising below =
    let here : x.index < n = grind (arith, nat_tests, below) in
    let rest : are_below n xs ≡ true = grind (arith, nat_tests, below) in
    omega (arith, few-below n x.index xs rising.0 rising.1 rest here)
