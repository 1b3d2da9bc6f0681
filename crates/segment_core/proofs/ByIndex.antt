-- Places stay by index through a filter, and where two lists become one.
use Rattle.std.proofs.Common.{◌≡◌, ◌≢◌, ℕ, ◌-◌, ◌<◌, ◌≤◌, List, ◌++◌, length, get_or, map, refl, inl, inr, arith, length-append}
use Rattle.std.specs.Prelude.{◌==◌, Bool, All, AllPairs, IsPermutation, filter}
use Rattle.std.specs.List.{IsDistinct}
use Rattle.std.specs.List.Sorted.{IsNonDecreasingBy}
use Rattle.std.proofs.lemmas.Bool.{cases_lt}
use Rattle.std.proofs.lemmas.Bool.Decides.{nat_tests, Decides-eqb}
use Rattle.std.proofs.lemmas.List.{get_or-map, length-map, get_or_append_left, get_or-append_right}
use Rattle.std.proofs.lemmas.List.Kept.{AllPairs-filter}
use Rattle.std.proofs.lemmas.List.Sorted.{IsPermutation-map}
use Rattle.std.proofs.lemmas.Map.Keys.{IsDistinct-IsPermutation}
use Rattle.std.proofs.lemmas.Map.Made.{AllPairs-from_IsDistinct, IsDistinct-from_AllPairs}
use Rattle.sat_base.specs.declared.records.At.{At}
use Rattle.segment_core.specs.Places.{index_of, IsByIndex}

pub filtered_by_index : (test : At → Bool) (places : List At) → IsByIndex places → IsByIndex (filter test places)
filtered_by_index test places rising = AllPairs-filter (λ (earlier later : At). earlier.index < later.index) test places rising

abbrev pub AllDiffer : List At → Type 0
AllDiffer places = AllPairs (λ one other. one.index ≢ other.index) places

pub joined_differ : (keep add : List At) → IsByIndex keep → IsByIndex add → All (λ old. All (λ new. old.index ≢ new.index) add) keep → AllDiffer (keep ++ add)
joined_differ keep add kept added apart i j d lt within =
    let left : (k : ℕ) → k < length keep → get_or (keep ++ add) k d ≡ get_or keep k d = λ k h. get_or_append_left keep add d k h in
    let right : (k : ℕ) → length keep ≤ k → get_or (keep ++ add) k d ≡ get_or add (k - length keep) d = λ k h. get_or-append_right keep add (length keep) k d refl h in
    elim (cases_lt j (length keep)) [
      | inl h ↦ rw (left i (omega arith), left j h) (λ same. let rise : (get_or keep i d).index < (get_or keep j d).index = kept i j d lt h in omega arith)
      | inr h ↦ elim (cases_lt i (length keep)) [
        | inl old ↦ rw (left i old, right j h) (apart i d old (j - length keep) d (omega (arith, length-append {A = At})))
        | inr new ↦ rw (right i new, right j h) (λ same. let rise : (get_or add (i - length keep) d).index < (get_or add (j - length keep) d).index = added (i - length keep) (j - length keep) d (omega arith) (omega (arith, length-append {A = At})) in omega arith)
      ]
    ]

-- an order without repeats is strict
pub sorted_by_index : (places sorted : List At) → AllDiffer places → IsPermutation places sorted → IsNonDecreasingBy (λ place. place.index) sorted → IsByIndex sorted
sorted_by_index places sorted differ moved ascend =
    let indexes : AllPairs (λ x y. x ≢ y) (map index_of places) = indexes_differ places differ in
    let distinct : IsDistinct (λ x y. x == y) (map index_of sorted) = IsDistinct-IsPermutation (λ x y. x == y) flips _ _ (IsPermutation-map index_of places sorted moved) (IsDistinct-from_AllPairs Decides-eqb _ indexes) in
    strict sorted ascend (AllPairs-from_IsDistinct Decides-eqb _ distinct)
  where
    flips : (x y : ℕ) → (x == y) ≡ (y == x)
    flips x y = grind (arith, nat_tests)

    indexes_differ : (places : List At) → AllDiffer places → AllPairs (λ x y. x ≢ y) (map index_of places)
    indexes_differ places differ i j d lt within =
        let place : At = record { index = d; node = record { 0 = 0 } } in
        let in_range : j < length places = omega (arith, length-map places index_of) in
        rw (get_or-map index_of places i place d (omega arith), get_or-map index_of places j place d in_range) (differ i j place lt in_range)

    strict : (sorted : List At) → IsNonDecreasingBy (λ place. place.index) sorted → AllPairs (λ x y. x ≢ y) (map index_of sorted) → IsByIndex sorted
    strict sorted ascend differ i j d lt within =
        let le : (get_or sorted i d).index ≤ (get_or sorted j d).index = ascend i j d (omega arith) within in
        let ne : (get_or sorted i d).index ≢ (get_or sorted j d).index = rw (← get_or-map index_of sorted i d d.index (omega arith), ← get_or-map index_of sorted j d d.index within) (differ i j d.index lt (omega (arith, length-map sorted index_of))) in
        omega arith
