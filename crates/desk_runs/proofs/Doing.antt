-- What a worker did, in the history that its pass has seen, and in that of a pass into which it was joined.
use Rattle.std.proofs.Common.{◌≡◌, ℕ, List, [], ◌∷◌, ◌++◌, Bool, true, refl, sym, ap, ◌∙◌, subst, eq-eqb}
use Rattle.std.specs.Prelude.{eqb}
use Rattle.std.proofs.lemmas.Bool.{or_left}
use Rattle.turnstile.specs.declared.entry.Entry.{Entry}
use Rattle.turnstile.specs.History.{has, own}
use Rattle.turnstile.specs.Known.{Known, SameRights, own_entries}
use Rattle.desk_runs.specs.Gathered.{Keeps}
use Rattle.desk_runs.specs.Runs.{Runs, Acts, Lasts, HasDone}
use Rattle.desk_runs.proofs.Entering.{starts_same}
use Rattle.desk_runs.proofs.Running.{runs_acts, runs_full, acts_later}

has_first : (n : ℕ) (ns : List ℕ) → has (n ∷ ns) n ≡ true
has_first n ns = or_left (eqb n n) (has ns n) (eq-eqb n n refl)

module _ {C A B S X : Type 0} (places : X → List ℕ) (is_full : X → Bool) (Tells : S → X → List (Entry C A) → List (Entry C A) → S → Type 0) where
  -- a worker whose pass had this number alone and no entry yet
  pub runs_done : Lasts Tells → (s : S) (k : Known C A B) (xs : List X) (s' : S) (k' : Known C A B) (n : ℕ) → k.numbers ≡ n ∷ [] → own_entries k ≡ [] → Runs places is_full Tells s k xs s' k'
      → SameRights k k' × HasDone places is_full Tells k' n s xs s'
  runs_done lasts s k xs s' k' n nums idle runs =
      let made = runs_acts places is_full Tells lasts k'.seen s k xs s' k' runs (starts_same k'.seen) in
      let mine : k'.numbers ≡ n ∷ [] = made.1.rights.numbers ∙ nums in
      let own_is : own (n ∷ []) k'.seen ≡ made.0 = ap (λ l. own l k'.seen) (sym mine) ∙ (made.1.grew ∙ ap (λ (l : List (Entry C A)). l ++ made.0) idle) in (
        made.1.rights,
        record {
          answers = ap (λ l. has l n) mine ∙ has_first n [];
          acts = subst (λ (l : List (Entry C A)). Acts places Tells k'.seen s xs l s') (sym own_is) made.2;
          full = runs_full places is_full Tells lasts s k xs s' k' runs;
        },
      )

  -- what a part has, the whole has
  pub done_kept : Lasts Tells → (part whole : Known C A B) (n : ℕ) (s : S) (xs : List X) (s' : S) → Keeps part whole → HasDone places is_full Tells part n s xs s' → HasDone places is_full Tells whole n s xs s'
  done_kept lasts part whole n s xs s' keeps h = record {
    answers = keeps.numbers n h.answers;
    acts = subst (λ (l : List (Entry C A)). Acts places Tells whole.seen s xs l s') (sym (keeps.same n h.answers))
        (acts_later places Tells lasts part.seen whole.seen s xs (own (n ∷ []) part.seen) s' keeps.begins h.acts);
    full = λ e. keeps.marked (h.full e);
  }
