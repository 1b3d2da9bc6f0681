-- Parts one after the other.
use Rattle.std.proofs.Common.{All, IsSomeAnd, Option, Some, None, Result, Ok, Err, IfOk, [], ◌∷◌, zero, suc, map, MatchBool, Bool, true, false, ◌∙◌, length-set, ◌≡◌, ℕ, ◌+◌, ◌<◌, ◌≢◌, refl, List, length, sym, subst, arith, inl, inr}
use Rattle.std.proofs.lemmas.Bool.{cases_lt}
use Rattle.std.proofs.Math.ListN.{get_or, set, length-map, get_or-map}
use Rattle.std.proofs.lemmas.List.{get_or-set_other}
use Rattle.std.proofs.lemmas.Grind.{get_or-set_at}
use Rattle.futures.specs.Task.{Covers, Hears}
use Rattle.futures.specs.declared.task.context.Context.{Context}
use Rattle.gather.specs.declared.part.Part.{Part}
use Rattle.gather.specs.declared.part.Part.TheVariants.{Waiting, Done}
use Rattle.gather.specs.Gathered.{IsDone, IsWaiting, IsLive, MayGive, Waits, GivesEach, Inner, Awaits, CanGather, Gathers}
use Rattle.futures.specs.Outputs.{EachResumes}

module _ {X : Type 0} (P : X → Type 0) where
  -- so it is of the parts before a place, and of the one that is put there
  pub each_set : (xs : List X) (i : ℕ) (y : X) → i < length xs → P y → ((k : ℕ) (d : X) → k < i → P (get_or xs k d)) → (k : ℕ) (d : X) → k < i + 1 → P (get_or (set xs i y) k d)
  each_set xs i y here p before k d below =
      elim (cases_lt k i) [
        | inl less ↦
            let other : k ≢ i = λ same. omega (arith, less, same) in
            subst P (sym (get_or-set_other xs i k y d other)) (before k d less)
        | inr past ↦
            let same : k ≡ i = omega (arith, below, past) in
            subst P (sym (get_or-set_at xs i k y d same here)) p
      ]

  -- so it is still of a part before a place
  pub some_set : (xs : List X) (i : ℕ) (y : X) → ((k : ℕ) × (k < i) × ((d : X) → P (get_or xs k d))) → (k : ℕ) × (k < i + 1) × ((d : X) → P (get_or (set xs i y) k d))
  some_set xs i y h =
      let less : h.0 < i = h.1 in
      let other : h.0 ≢ i = λ same. omega (arith, less, same) in
      (h.0, omega (arith, less), λ d. subst P (sym (get_or-set_other xs i h.0 y d other)) (h.2 d))

  pub one_set : (xs : List X) (i : ℕ) (y : X) → i < length xs → P y → (k : ℕ) × (k < i + 1) × ((d : X) → P (get_or (set xs i y) k d))
  one_set xs i y here p = (i, omega arith, λ d. subst P (sym (get_or-set_at xs i i y d refl here)) p)

module _ {X A : Type 0} (gives : X → A → Type 0) where
  -- a part that gives no more, in the place of another
  pub resumes_set : (old xs : List X) (i : ℕ) (y : X) → i < length xs → ((d : X) (x : A) → gives y x → gives (get_or xs i d) x) → EachResumes gives old xs → EachResumes gives old (set xs i y)
  resumes_set old xs i y here less h = (
    length-set xs i y ∙ h.0,
    λ k d x below now. elim (cases_lt k i) [
      | inl before ↦
          let other : k ≢ i = λ same. omega (arith, before, same) in
          h.1 k d x below (subst (λ p. gives p x) (get_or-set_other xs i k y d other) now)
      | inr past ↦ elim (cases_lt i k) [
        | inl behind ↦
            let other : k ≢ i = λ same. omega (arith, behind, same) in
            h.1 k d x below (subst (λ p. gives p x) (get_or-set_other xs i k y d other) now)
        | inr upto ↦
            let same : k ≡ i = omega (arith, upto, past) in
            h.1 k d x below (subst (λ j. gives (get_or xs j d) x) (sym same) (less d x (subst (λ p. gives p x) (get_or-set_at xs i k y d same here) now)))
      ]
    ],
  )

module _ {F A : Type 0} (needs : F → ℕ → Type 0) where
  -- what a part that was polled waits for is heard of
  pub heard_part : (cx : Context) (p : Part F A) (here : Bool) (s : ℕ) → MatchBool here (IsDone p) (IsWaiting p × Covers cx (Waits needs p)) → Waits needs p s → Hears cx s
  heard_part cx (Waiting f) true s h w = absurd h
  heard_part cx (Waiting f) false s h w = h.1.1 s w
  heard_part cx (Done x) here s h w = absurd w

module _ {F A : Type 0} where
  abbrev wait : F → Part F A
  wait f = Waiting f

  all_waiting : (P : F → Type 0) (xs : List F) → ((k : ℕ) (d : F) → k < length xs → P (get_or xs k d)) → (k : ℕ) (d : Part F A) → k < length (map wait xs) → IsLive P (get_or (map wait xs) k d)
  all_waiting P [] h k d below = absurd (omega (arith, below))
  all_waiting P (x ∷ xs) h zero d below = h 0 x (omega arith)
  all_waiting P (x ∷ xs) h (suc k) d below = all_waiting P xs (λ j e less. h (suc j) e (omega (arith, less))) k d (omega (arith, below))

  gives_waiting : (gives : F → A → Type 0) (xs : List F) (outs : List A) → GivesEach (MayGive gives) (map wait xs) outs → GivesEach gives xs outs
  gives_waiting gives xs outs h = record {
    count = h.count ∙ length-map xs wait;
    each = λ k d e below. subst (λ p. MayGive gives p (get_or outs k e)) (get_or-map wait xs k d) (h.each k (wait d) e (omega (arith, below, length-map xs wait)));
  }

  -- a gather that was made of futures that may be polled may be polled
  pub can_gather : (P : F → Type 0) (xs : List F) (inner : Inner F A) → All P xs → Awaits inner xs → CanGather P inner
  can_gather P xs None all h = absurd h
  can_gather P xs (Some i) all h = (h.1, rw h.0 (all_waiting P xs all))

  -- and gives what they give
  pub gathers_of : (gives : F → A → Type 0) (xs : List F) (inner : Inner F A) (outs : List A) → Awaits inner xs → Gathers gives inner outs → GivesEach gives xs outs
  gathers_of gives xs None outs h g = absurd h
  gathers_of gives xs (Some i) outs h g = gives_waiting gives xs outs (subst (λ ps. GivesEach (MayGive gives) ps outs) h.0 g)

pub if_ok_so : {X E : Type 0} (P Q : X → Type 0) (r : Result X E) → ((x : X) → P x → Q x) → IfOk r P → IfOk r Q
if_ok_so P Q (Ok x) so h = so x h
if_ok_so P Q (Err e) so h = tt
