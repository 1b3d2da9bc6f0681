-- What a crash may leave, after one entry more.
use Rattle.std.proofs.Common.{◌≡◌, ℕ, suc, zero, ◌<◌, ◌≤◌, ◌⊎◌, inl, inr, Bool, true, false, List, [], ◌∷◌, ◌++◌, length, take, Some, refl, sym, ap, subst, ◌∙◌, arith}
use Rattle.std.specs.Prelude.{slice_get, if◌then◌else◌}
use Rattle.sat_base.specs.Rows.{Rows}
use Rattle.machine_calls.specs.Replies.{is_lost}
use Rattle.machine_calls.specs.declared.call.Call.{Call}
use Rattle.machine_calls.specs.declared.change.RecChange.{RecChange}
use Rattle.machine_step.specs.Tables.{Tables, all_changed}
use Rattle.machine_step.specs.Step.{step, after}
use Rattle.machine_history.specs.History.{taken}
use Rattle.sat_book.specs.Legal.{E, said_of, replayed}
use Rattle.sat_book.specs.TableRows.{rows}
use Rattle.sat_book.specs.Crash.{IsIdle, IsStepLost, MayBeLeft}
use Rattle.sat_book.proofs.LegalLemmas.{replayed-one}

-- the front of a longer history
front : (history : List E) (e : E) (i : ℕ) → i ≤ length history → take i (history ++ e ∷ []) ≡ take i history
front history e zero le = refl
front [] e (suc i) le = absurd (omega arith)
front (first ∷ rest) e (suc i) le = ap (λ (l : List E). first ∷ l) (front rest e i (omega arith))

-- an entry of the longer history is one of the shorter, or the last
which : (history : List E) (e : E) (i : ℕ) (x : E) → slice_get (history ++ e ∷ []) i ≡ Some x → ((i < length history) × (slice_get history i ≡ Some x)) ⊎ ((i ≡ length history) × (e ≡ x))
which [] e zero x at = inr (refl, cc)
which [] e (suc i) x at = absurd cc
which (first ∷ rest) e zero x at = inl (omega arith, at)
which (first ∷ rest) e (suc i) x at = elim (which rest e i x at) [
  | inl p ↦ inl (omega (arith, p.0), p.1)
  | inr p ↦ inr (omega (arith, p.0), p.1)
]

found_below : (history : List E) (i : ℕ) (x : E) → slice_get history i ≡ Some x → i < length history
found_below [] i x at = absurd cc
found_below (first ∷ rest) zero x at = omega arith
found_below (first ∷ rest) (suc i) x at = let less = found_below rest i x at in omega (arith, less)

still_there : (history : List E) (e : E) (i : ℕ) (x : E) → slice_get history i ≡ Some x → slice_get (history ++ e ∷ []) i ≡ Some x
still_there [] e i x at = absurd cc
still_there (first ∷ rest) e zero x at = at
still_there (first ∷ rest) e (suc i) x at = still_there rest e i x at

last_there : (history : List E) (e : E) → slice_get (history ++ e ∷ []) (length history) ≡ Some e
last_there [] e = refl
last_there (first ∷ rest) e = last_there rest e

at_front : (start : Tables) (history : List E) (e : E) (i : ℕ) → i ≤ length history → replayed start (take i (history ++ e ∷ [])) ≡ replayed start (take i history)
at_front start history e i le = ap (replayed start) (front history e i le)

whole : (history : List E) → take (length history) history ≡ history
whole [] = refl
whole (first ∷ rest) = ap (λ (l : List E). first ∷ l) (whole rest)

-- an entry that changed no record leaves what may be left
lost_on : (start : Tables) (history : List E) (e : E) (left : Rows) → IsIdle (replayed start history) e → IsStepLost start history left → IsStepLost start (history ++ e ∷ []) left
lost_on start history e left idle one =
    let below = found_below history one.place one.lost one.stands in
    record {
      place = one.place;
      lost = one.lost;
      stands = still_there history e one.place one.lost one.stands;
      was_lost = one.was_lost;
      idle_since = λ i x later at. elim (which history e i x at) [
        | inl p ↦ subst (λ (t : Tables). IsIdle t x) (sym (at_front start history e i (omega (arith, p.0)))) (one.idle_since i x later p.1)
        | inr p ↦
            let here : replayed start (take i (history ++ e ∷ [])) ≡ replayed start history = at_front start history e i (omega (arith, p.0)) ∙ ap (λ (n : ℕ). replayed start (take n history)) p.0 ∙ ap (replayed start) (whole history) in
            subst (λ (t : Tables). IsIdle t x) (sym here) (subst (IsIdle (replayed start history)) p.1 idle)
      ];
      made = one.made ∙ ap (λ (t : Tables). rows (after t one.lost.call)) (sym (at_front start history e one.place (omega (arith, below))));
    }

-- a step that changes no record leaves the rows
pub rows_idle : (t : Tables) (call : Call) → (step t call).changes ≡ [] → rows (after t call) ≡ rows t
rows_idle t call none = ap (λ (cs : List RecChange). rows (all_changed t cs)) none

pub rows_after_idle : (t : Tables) (e : E) → IsIdle t e → rows (taken t (said_of e)) ≡ rows t
rows_after_idle t e (inl lost) = ap (λ (b : Bool). rows (if b then t else after t e.call)) lost
rows_after_idle t e (inr none) = go (is_lost e.reply)
  where
    go : (b : Bool) → rows (if b then t else after t e.call) ≡ rows t
    go true = refl
    go false = rows_idle t e.call none

pub left_idle : (start : Tables) (history : List E) (e : E) (left : Rows) → IsIdle (replayed start history) e → MayBeLeft start history left → MayBeLeft start (history ++ e ∷ []) left
left_idle start history e left idle (inl is) = inl (is ∙ sym (rows_after_idle (replayed start history) e idle) ∙ ap rows (sym (replayed-one start history e)))
left_idle start history e left idle (inr one) = inr (lost_on start history e left idle one)

-- the rows of the step of a call that was answered as lost
pub left_lost : (start : Tables) (history : List E) (e : E) (left : Rows) → is_lost e.reply ≡ true → left ≡ rows (after (replayed start history) e.call) → MayBeLeft start (history ++ e ∷ []) left
left_lost start history e left lost is = inr (record {
  place = length history;
  lost = e;
  stands = last_there history e;
  was_lost = lost;
  idle_since = λ i x later at. elim (which history e i x at) [
    | inl p ↦ absurd (omega (arith, later, p.0))
    | inr p ↦ absurd (omega (arith, later, p.0))
  ];
  made = is ∙ ap (λ (t : Tables). rows (after t e.call)) (sym (at_front start history e (length history) (omega arith) ∙ ap (replayed start) (whole history)));
})

-- the rows of the whole
pub left_done : (start : Tables) (history : List E) (e : E) (left : Rows) → left ≡ rows (taken (replayed start history) (said_of e)) → MayBeLeft start (history ++ e ∷ []) left
left_done start history e left is = inl (is ∙ ap rows (sym (replayed-one start history e)))
