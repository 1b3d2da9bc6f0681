-- What a worker did, one thing after another.
use Rattle.std.proofs.Common.{◌≡◌, ℕ, List, [], ◌∷◌, ◌++◌, map, Bool, true, refl, sym, ap, ◌∙◌, subst, inl, inr, append-nil}
use Rattle.std.specs.Prelude.{flat_map}
use Rattle.std.proofs.lemmas.Bool.{or_cases}
use mathlib.Core.List.{map-append}
use Rattle.turnstile.specs.declared.entry.Entry.{Entry}
use Rattle.turnstile.specs.History.{StartsWith}
use Rattle.turnstile.specs.Known.{Known}
use Rattle.desk_runs.specs.Entered.{place_of, Entered, Marked}
use Rattle.desk_runs.specs.Runs.{Does, Runs, Acts, Lasts, some_is}
use Rattle.desk_runs.proofs.Entering.{entered_none, entered_more, starts_on}

module _ {C A B S X : Type 0} (places : X → List ℕ) (is_full : X → Bool) (Tells : S → X → List (Entry C A) → List (Entry C A) → S → Type 0) where
  pub runs_none : (s : S) (k : Known C A B) → Runs places is_full Tells s k [] s k
  runs_none s k = (refl, refl)

  -- one more at the end
  pub runs_more : (s : S) (k : Known C A B) (xs : List X) (m : S) (j : Known C A B) (x : X) (s' : S) (k' : Known C A B) → Runs places is_full Tells s k xs m j → Does places is_full Tells m j x s' k' → Runs places is_full Tells s k (xs ++ x ∷ []) s' k'
  runs_more s k [] m j x s' k' r d = (s', k', subst (λ (z : S × Known C A B). Does places is_full Tells z.0 z.1 x s' k') (λ i. (r.0 i, r.1 i)) d, (refl, refl))
  runs_more s k (y ∷ ys) m j x s' k' r d = (r.0, r.1, r.2, runs_more r.0 r.1 ys m j x s' k' r.3 d)

  -- what is told of them over what the pass has seen holds over each history that begins with it
  pub runs_acts : Lasts Tells → (h : List (Entry C A)) (s : S) (k : Known C A B) (xs : List X) (s' : S) (k' : Known C A B) → Runs places is_full Tells s k xs s' k' → StartsWith h k'.seen
      → (made : List (Entry C A)) × Entered k made k' × Acts places Tells h s xs made s'
  runs_acts lasts h s k [] s' k' r t = ([], subst (λ (z : Known C A B). Entered k [] z) (sym r.1) (entered_none k), (r.0, refl))
  runs_acts lasts h s k (x ∷ xs) s' k' r t =
      let d = r.2 in
      let rest = runs_acts lasts h r.0 r.1 xs s' k' r.3 t in (
        d.new ++ rest.0,
        entered_more k r.1 k' d.new rest.0 d.entered rest.1,
        (r.0, d.new, rest.0, refl, d.named, lasts s x d.new r.1.seen h r.0 (starts_on r.1.seen k'.seen h rest.1.begins t) d.tells, rest.2),
      )

  pub runs_full : Lasts Tells → (s : S) (k : Known C A B) (xs : List X) (s' : S) (k' : Known C A B) → Runs places is_full Tells s k xs s' k' → some_is is_full xs ≡ true → Marked k'
  runs_full lasts s k [] s' k' r h = absurd (cc)
  runs_full lasts s k (x ∷ xs) s' k' r h = elim (or_cases (is_full x) (some_is is_full xs) h) [
    | inl e ↦ (runs_acts lasts k'.seen r.0 r.1 xs s' k' r.3 ([], sym (append-nil k'.seen))).1.marked (r.2.full e)
    | inr e ↦ runs_full lasts r.0 r.1 xs s' k' r.3 e
  ]

module _ {C A S X : Type 0} (places : X → List ℕ) (Tells : S → X → List (Entry C A) → List (Entry C A) → S → Type 0) where
  pub acts_later : Lasts Tells → (h h' : List (Entry C A)) (s : S) (xs : List X) (made : List (Entry C A)) (s' : S) → StartsWith h' h → Acts places Tells h s xs made s' → Acts places Tells h' s xs made s'
  acts_later lasts h h' s [] made s' t a = a
  acts_later lasts h h' s (x ∷ xs) made s' t a = (a.0, a.1, a.2, a.3, a.4, lasts s x a.1 h h' a.0 t a.5, acts_later lasts h h' a.0 xs a.2 s' t a.6)

  -- the places that are named are those of the entries, in their order
  pub acts_places : (h : List (Entry C A)) (s : S) (xs : List X) (made : List (Entry C A)) (s' : S) → Acts places Tells h s xs made s' → map place_of made ≡ flat_map places xs
  acts_places h s [] made s' a = ap (map place_of) a.1
  acts_places h s (x ∷ xs) made s' a = ap (map place_of) a.3 ∙ (map-append place_of a.1 a.2 ∙ (λ i. a.4 i ++ acts_places h a.0 xs a.2 s' a.6 i))
