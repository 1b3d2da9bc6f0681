-- Lists of indexes, and marks by index.
use Rattle.std.proofs.Common.{◌≡◌, ℕ, zero, suc, ◌+◌, ◌<◌, ◌==◌, ◌||◌, replicate, List, [], ◌∷◌, ◌++◌, length, get_or, take, Bool, true, false, cond, refl, sym, ap, ◌∙◌, subst, arith, slice_index_or, slice_set}
use Rattle.std.specs.Prelude.{All, map, filter}
use Rattle.std.proofs.lemmas.Grind.{common_steps}
use Rattle.std.proofs.lemmas.List.{take_more, map-append, get_or-map, append-nil}
use Rattle.std.proofs.lemmas.List.Elements.{filter-append}
use Rattle.std.proofs.lemmas.List.Folds.{list_any-append}
use mathlib.Core.Bool.{or-false}
use Rattle.sat_base.specs.declared.items.Share.{Share}
use Rattle.bw_decode.specs.Altered.{indexes_of}
use Rattle.bw_decode.proofs.NearStripes.{index_at, indexes_length}
use Rattle.repair_core.specs.Indexes.{has_index}

-- ---- lists of indexes
pub has_index-append : (xs ys : List ℕ) (index : ℕ) → has_index (xs ++ ys) index ≡ (has_index xs index || has_index ys index)
has_index-append xs ys index = list_any-append (λ one. one == index) xs ys

pub has_index-cons : (x : ℕ) (xs : List ℕ) (index : ℕ) → has_index (x ∷ xs) index ≡ ((x == index) || has_index xs index)
has_index-cons x xs index = refl

pub or_assoc : (a b c : Bool) → ((a || b) || c) ≡ (a || (b || c))
or_assoc true b c = refl
or_assoc false b c = refl

pub index_below : (m : ℕ) (answers : List Share) (i : ℕ) (a : Share) → i < length answers → All (λ index. index < m) (indexes_of answers)
    → (get_or answers i a).index < m
index_below m answers i a h below =
    subst (λ z. z < m) (index_at answers i a h) (below i 0 (omega (arith, h, indexes_length answers)))

-- the marked ones of one answer more
pub filtered_more : (test : Share → Bool) (answers : List Share) (i : ℕ) (d : Share) → i < length answers
    → indexes_of (filter test (take (i + 1) answers))
    ≡ indexes_of (filter test (take i answers)) ++ cond (test (get_or answers i d)) ((get_or answers i d).index ∷ []) []
filtered_more test answers i d within =
    rw (take_more answers i d within, filter-append test (take i answers) (get_or answers i d ∷ []))
    (map-append (λ (a : Share). a.index) (filter test (take i answers)) (cond (test (get_or answers i d)) (get_or answers i d ∷ []) [])
    ∙ ap (λ (xs : List ℕ). indexes_of (filter test (take i answers)) ++ xs) (last (test (get_or answers i d)) (get_or answers i d)))
  where
    last : (b : Bool) (a : Share) → map (λ (s : Share). s.index) (cond b (a ∷ []) []) ≡ cond b (a.index ∷ []) []
    last true a = refl
    last false a = refl

-- an answer's mark is its test
mark_of : (test : Share → Bool) (answers : List Share) (marks : List Bool) (i : ℕ) (d : Share) (b : Bool) → i < length answers
    → marks ≡ map test answers → get_or marks i false ≡ b → test (get_or answers i d) ≡ b
mark_of test answers marks i d b within are is =
    sym (get_or-map test answers i d false within) ∙ sym (ap (λ (ms : List Bool). get_or ms i false) are) ∙ is

pub has_more_marked : (test : Share → Bool) (answers : List Share) (marks : List Bool) (i : ℕ) (d : Share) (index : ℕ) → i < length answers
    → marks ≡ map test answers → get_or marks i false ≡ true
    → has_index (indexes_of (filter test (take (i + 1) answers))) index
    ≡ (has_index (indexes_of (filter test (take i answers))) index || ((get_or answers i d).index == index))
has_more_marked test answers marks i d index within are is =
    rw (filtered_more test answers i d within, mark_of test answers marks i d true within are is)
    (has_index-append (indexes_of (filter test (take i answers))) ((get_or answers i d).index ∷ []) index
    ∙ ap (λ b. has_index (indexes_of (filter test (take i answers))) index || b) (or-false ((get_or answers i d).index == index)))

pub has_more_unmarked : (test : Share → Bool) (answers : List Share) (marks : List Bool) (i : ℕ) (d : Share) (index : ℕ) → i < length answers
    → marks ≡ map test answers → get_or marks i false ≡ false
    → has_index (indexes_of (filter test (take (i + 1) answers))) index ≡ has_index (indexes_of (filter test (take i answers))) index
has_more_unmarked test answers marks i d index within are is =
    rw (filtered_more test answers i d within, mark_of test answers marks i d false within are is)
    (ap (λ xs. has_index xs index) (append-nil (indexes_of (filter test (take i answers)))))

pub set_mark : (marks : List Bool) (own index : ℕ) → own < length marks
    → slice_index_or (slice_set marks own true) index false ≡ (slice_index_or marks index false || (own == index))
set_mark marks own index within = grind (arith, common_steps)

-- where nothing is marked
pub unmarked : (n : ℕ) (marks : List Bool) → marks ≡ replicate n false → (index : ℕ) → slice_index_or marks index false ≡ false
unmarked n marks e index = ap (λ (ms : List Bool). slice_index_or ms index false) e ∙ go n index
  where
    go : (n i : ℕ) → slice_index_or (replicate n false) i false ≡ false
    go zero i = refl
    go (suc n) zero = refl
    go (suc n) (suc i) = go n i
