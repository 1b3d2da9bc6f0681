-- What one call leaves of a pass, and several.
use Rattle.std.proofs.Common.{◌≡◌, ℕ, suc, zero, List, [], ◌∷◌, ◌++◌, length, refl, sym, ap, ◌∙◌, subst, append_assoc, append-nil}
use Rattle.turnstile.specs.declared.entry.Entry.{Entry}
use Rattle.turnstile.specs.Entry.{entry_of}
use Rattle.turnstile.specs.History.{StartsWith}
use Rattle.turnstile.specs.Known.{Known, SameRights, Enters, with_mark, own_entries}
use Rattle.turnstile.proofs.Passes.{same_rights_on}
use Rattle.desk_runs.specs.Entered.{At, Marked, Entered}

module _ {C A : Type 0} where
  at_back : (h : List (Entry C A)) (e : Entry C A) → At (h ++ e ∷ []) (length h) e
  at_back [] e = refl
  at_back (x ∷ h) e = at_back h e

  at_front : (h later : List (Entry C A)) (place : ℕ) (e : Entry C A) → At h place e → At (h ++ later) place e
  at_front [] later place e a = absurd (cc)
  at_front (x ∷ h) later zero e a = a
  at_front (x ∷ h) later (suc place) e a = at_front h later place e a

  pub at_later : (h h' : List (Entry C A)) (place : ℕ) (e : Entry C A) → StartsWith h' h → At h place e → At h' place e
  at_later h h' place e s a = subst (λ (l : List (Entry C A)). At l place e) (sym s.1) (at_front h s.0 place e a)

  pub starts_on : (a b c : List (Entry C A)) → StartsWith b a → StartsWith c b → StartsWith c a
  starts_on a b c s t = (s.0 ++ t.0, t.1 ∙ (ap (λ (l : List (Entry C A)). l ++ t.0) s.1 ∙ append_assoc a s.0 t.0))

  pub starts_same : (a : List (Entry C A)) → StartsWith a a
  starts_same a = ([], sym (append-nil a))

module _ {C A B : Type 0} where
  same_rights : (k : Known C A B) → SameRights k k
  same_rights k = record { desk = refl; base = refl; number = refl; spare = refl; numbers = refl; parts = refl }

  pub entered_none : (k : Known C A B) → Entered k [] k
  entered_none k = record { rights = same_rights k; begins = starts_same k.seen; grew = sym (append-nil (own_entries k)); marked = λ m. m }

  pub entered_more : (a b c : Known C A B) (xs ys : List (Entry C A)) → Entered a xs b → Entered b ys c → Entered a (xs ++ ys) c
  entered_more a b c xs ys first second = record {
    rights = same_rights_on a b c first.rights second.rights;
    begins = starts_on a.seen b.seen c.seen first.begins second.begins;
    grew = second.grew ∙ (ap (λ (l : List (Entry C A)). l ++ ys) first.grew ∙ append_assoc (own_entries a) xs ys);
    marked = λ m. second.marked (first.marked m);
  }

  pub marked_full : (k : Known C A B) (t : ℕ) (k' : Known C A B) → k' ≡ with_mark k t → Marked k'
  marked_full k t k' is = (t, ap (λ (z : Known C A B). z.mark) is)

  -- a call that met the full term entered nothing
  pub entered_full : (k : Known C A B) (t : ℕ) (k' : Known C A B) → k' ≡ with_mark k t → Entered k [] k'
  entered_full k t k' is = subst (λ (z : Known C A B). Entered k [] z) (sym is) (record {
    rights = record { desk = refl; base = refl; number = refl; spare = refl; numbers = refl; parts = refl };
    begins = starts_same k.seen;
    grew = sym (append-nil (own_entries k));
    marked = λ m. (t, refl);
  })

  -- a call that was entered is one entry
  pub entered_one : (lawful : B → List (Entry C A) → Type 0) (k : Known C A B) (call : C) (reply : A) (place : ℕ) (k' : Known C A B) → Enters lawful k call reply place k' → Entered k (entry_of place k.number call reply ∷ []) k'
  entered_one lawful k call reply place k' h = record {
    rights = record {
      desk = ap (λ (z : Known C A B). z.desk) h.same;
      base = ap (λ (z : Known C A B). z.base) h.same;
      number = ap (λ (z : Known C A B). z.number) h.same;
      spare = ap (λ (z : Known C A B). z.spare) h.same;
      numbers = ap (λ (z : Known C A B). z.numbers) h.same;
      parts = ap (λ (z : Known C A B). z.parts) h.same;
    };
    begins = starts_on k.seen h.history k'.seen h.begins (entry_of place k.number call reply ∷ [], h.seen_is);
    grew = h.own_grew;
    marked = λ m. (m.0, ap (λ (z : Known C A B). z.mark) h.same ∙ m.1);
  }

  -- it stands at its place
  pub stands : (lawful : B → List (Entry C A) → Type 0) (k : Known C A B) (call : C) (reply : A) (place : ℕ) (k' : Known C A B) → Enters lawful k call reply place k' → At k'.seen place (entry_of place k.number call reply)
  stands lawful k call reply place k' h =
      let e : Entry C A = entry_of place k.number call reply in
      subst (λ (l : List (Entry C A)). At l place e) (sym h.seen_is) (subst (λ (n : ℕ). At (h.history ++ e ∷ []) n e) (sym h.ticket) (at_back h.history e))
