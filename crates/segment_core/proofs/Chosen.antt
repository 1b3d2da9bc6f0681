-- Each index that is committed chooses one place.
use Rattle.std.proofs.Common.{◌≡◌, ℕ, zero, suc, ◌+◌, ◌<◌, ◌≤◌, List, [], ◌∷◌, ◌++◌, length, map, Option, Some, None, Bool, true, false, refl, sym, ◌∙◌, inl, inr, arith, append_assoc}
use Rattle.std.specs.Prelude.{◌==◌, ◌||◌, if◌then◌else◌, find, nat_le, nat_lt}
use Rattle.std.specs.List.{range_with_len}
use Rattle.std.proofs.lemmas.Bool.{cases_lt}
use Rattle.std.proofs.lemmas.Bool.Decides.{nat_tests}
use Rattle.std.proofs.lemmas.List.{append-nil}
use Rattle.sat_base.specs.declared.records.At.{At}
use Rattle.segment_core.specs.declared.committing.CommitErr.TheVariants.{TooFew}
use Rattle.segment_core.specs.Places.{index_of, IsOffer}
use Rattle.segment_core.specs.Commit.{is_among, first_repeated, first_repeated_after, first_cause, refusal, chosen}

among_pushed : (before : List ℕ) (index x : ℕ) → is_among (before ++ index ∷ []) x ≡ (is_among before x || (index == x))
among_pushed [] index x = grind (arith, nat_tests)
among_pushed (first ∷ before) index x = grind (arith, nat_tests, among_pushed before index x)

-- how many of the offered indexes are among these
abbrev count_among : List ℕ → List ℕ → ℕ
count_among indexes [] = 0
count_among indexes (index ∷ offered) = (if is_among indexes index then 1 else 0) + count_among indexes offered

-- the same of the m indexes from a on
abbrev count_from : List ℕ → ℕ → ℕ → ℕ
count_from indexes a m = count_among indexes (range_with_len a m)

none_among : (a m : ℕ) → count_from [] a m ≡ 0
none_among a zero = refl
none_among a (suc m) = rw (none_among (a + 1) m) refl

same_below : (before : List ℕ) (index a m : ℕ) → index < a → count_from (before ++ index ∷ []) a m ≡ count_from before a m
same_below before index a zero lt = refl
same_below before index a (suc m) lt =
    let head : is_among (before ++ index ∷ []) a ≡ is_among before a = grind (arith, nat_tests, among_pushed before index a) in
    rw (head, same_below before index (a + 1) m (omega arith)) refl

one_more : (before : List ℕ) (index a m : ℕ) → is_among before index ≡ false → a ≤ index → index < a + m → count_from (before ++ index ∷ []) a m ≡ count_from before a m + 1
one_more before index a zero new le lt = absurd (omega arith)
one_more before index a (suc m) new le lt = elim (cases_lt a index) [
  | inl above ↦
      let head : is_among (before ++ index ∷ []) a ≡ is_among before a = grind (arith, nat_tests, among_pushed before index a) in
      rw (head, one_more before index (a + 1) m new (omega arith) (omega arith)) (omega arith)
  | inr below ↦
      let here : index ≡ a = omega arith in
      let old : is_among before a ≡ false = rw (← here) new in
      let head : is_among (before ++ index ∷ []) a ≡ true = grind (arith, nat_tests, among_pushed before index a) in
      rw (head, old, same_below before index (a + 1) m (omega arith)) (omega arith)
]

-- a choice that is none took its second case
second_none : (b : Bool) (index : ℕ) (other : Option ℕ) → (if b then Some index else other) ≡ None → (b ≡ false) × (other ≡ None)
second_none true index other none = cc
second_none false index other none = (refl, none)

counted : (before rest : List ℕ) (n : ℕ) → first_repeated_after before rest ≡ None → find (λ index. nat_le n index) rest ≡ None → count_from (before ++ rest) 0 n ≡ count_from before 0 n + length rest
counted before [] n new offered = rw append-nil (omega arith)
counted before (index ∷ rest) n new offered =
    let first : (is_among before index ≡ false) × (first_repeated_after (before ++ index ∷ []) rest ≡ None) = second_none _ _ _ new in
    let below : (nat_le n index ≡ false) × (find (λ index. nat_le n index) rest ≡ None) = second_none _ _ _ offered in
    let lt : index < n = grind (arith, nat_tests, below.0) in
    let joined : before ++ index ∷ rest ≡ (before ++ index ∷ []) ++ rest = sym (append_assoc before (index ∷ []) rest) in
    rw (joined, counted (before ++ index ∷ []) rest n first.1 below.1, one_more before index 0 n first.0 (omega arith) (omega arith)) (omega arith)

length_kept : (b : Bool) (place : At) (kept : List At) → length (if b then place ∷ kept else kept) ≡ (if b then 1 else 0) + length kept
length_kept true place kept = omega arith
length_kept false place kept = omega arith

counted_indexes : (indexes : List ℕ) (places : List At) → length (chosen indexes places) ≡ count_among indexes (map index_of places)
counted_indexes indexes [] = refl
counted_indexes indexes (place ∷ places) = length_kept (is_among indexes place.index) place (chosen indexes places) ∙ rw (counted_indexes indexes places) refl

pub length_chosen : (n : ℕ) (indexes : List ℕ) (places : List At) → IsOffer n places → find (λ index. nat_le n index) indexes ≡ None → first_repeated indexes ≡ None → length (chosen indexes places) ≡ length indexes
length_chosen n indexes places offer offered new =
    let all : count_from indexes 0 n ≡ length indexes = counted [] indexes n new offered ∙ rw (none_among 0 n) (omega arith) in
    counted_indexes indexes places ∙ rw offer all

no_cause : (outside repeated : Option ℕ) (have need : ℕ) → first_cause outside repeated have need ≡ None → record { inside : outside ≡ None; new : repeated ≡ None; enough : need ≤ have }
no_cause (Some index) repeated have need none = cc
no_cause None (Some index) have need none = cc
no_cause None None have need none = record { inside = refl; new = refl; enough = enough (nat_lt have need) refl none }
  where
    enough : (few : Bool) → nat_lt have need ≡ few → (if few then Some (TooFew have need) else None) ≡ None → need ≤ have
    enough true is none = cc
    enough false is none = grind (arith, nat_tests, is)

-- where nothing is refused
pub length_accepted : (n o : ℕ) (indexes : List ℕ) (places : List At) → IsOffer n places → refusal n o indexes ≡ None → length (chosen indexes places) ≡ length indexes
length_accepted n o indexes places offer accepted =
    let causes = no_cause _ _ _ _ accepted in length_chosen n indexes places offer causes.inside causes.new

pub enough_accepted : (n o : ℕ) (indexes : List ℕ) → refusal n o indexes ≡ None → o ≤ length indexes
enough_accepted n o indexes accepted = let causes = no_cause _ _ _ _ accepted in causes.enough
