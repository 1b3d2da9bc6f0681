-- Lists of entries by their pass numbers.
use Rattle.std.proofs.Common.{◌≡◌, ℕ, ◌≤◌, eqb, List, [], ◌∷◌, ◌++◌, length, Bool, true, false, cond, refl, sym, ap, ◌∙◌, arith, append-nil, ◌≢◌, ne_eqb, true≢false}
use Rattle.std.proofs.lemmas.Bool.{eqb-true, or_from}
use Rattle.std.specs.Prelude.{not, ◌&&◌, ◌||◌}
use Rattle.turnstile.specs.declared.entry.Entry.{Entry}
use Rattle.turnstile.specs.History.{has, own, none_own, Each}

pub free_step : (b c : Bool) → (not b && c) ≡ true → (b ≡ false) × (c ≡ true)
free_step true c h = absurd (cc)
free_step false c h = (refl, h)

free_both : (b c : Bool) → b ≡ false → c ≡ true → (not b && c) ≡ true
free_both b c p q = rw (p, q)

module _ {X : Type 0} where
  own_skip : (b : Bool) (x : X) (xs : List X) → b ≡ false → cond b (x ∷ xs) xs ≡ xs
  own_skip b x xs h = rw h

  own_keep : (b : Bool) (x : X) (xs : List X) → b ≡ true → cond b (x ∷ xs) xs ≡ x ∷ xs
  own_keep b x xs h = rw h

  own_cons : (b : Bool) (x : X) (xs ys : List X) → cond b (x ∷ (xs ++ ys)) (xs ++ ys) ≡ cond b (x ∷ xs) xs ++ ys
  own_cons true x xs ys = refl
  own_cons false x xs ys = refl

  -- of two beginnings of one list, the shorter begins the longer
  pub between : (a ra b rb : List X) → a ++ ra ≡ b ++ rb → length a ≤ length b → (m : List X) × (b ≡ a ++ m) × (ra ≡ m ++ rb)
  between [] ra b rb e h = (b, refl, e)
  between (x ∷ a) ra [] rb e h = absurd (omega arith)
  between (x ∷ a) ra (y ∷ b) rb e h =
      let t : a ++ ra ≡ b ++ rb = cc in
      let s : x ≡ y = cc in
      let r = between a ra b rb t (omega arith) in
      (r.0, (λ i. sym s i ∷ r.1 i), r.2)

module _ {C A : Type 0} where
  pub none_own-append : (ns : List ℕ) (xs ys : List (Entry C A)) → none_own ns xs ≡ true → none_own ns ys ≡ true → none_own ns (xs ++ ys) ≡ true
  none_own-append ns [] ys p q = q
  none_own-append ns (x ∷ xs) ys p q = let s = free_step (has ns x.pass) (none_own ns xs) p in free_both (has ns x.pass) (none_own ns (xs ++ ys)) s.0 (none_own-append ns xs ys s.1 q)

  pub none_own-front : (ns : List ℕ) (xs ys : List (Entry C A)) → none_own ns (xs ++ ys) ≡ true → none_own ns xs ≡ true
  none_own-front ns [] ys p = refl
  none_own-front ns (x ∷ xs) ys p = let s = free_step (has ns x.pass) (none_own ns (xs ++ ys)) p in free_both (has ns x.pass) (none_own ns xs) s.0 (none_own-front ns xs ys s.1)

  pub none_own-back : (ns : List ℕ) (xs ys : List (Entry C A)) → none_own ns (xs ++ ys) ≡ true → none_own ns ys ≡ true
  none_own-back ns [] ys p = p
  none_own-back ns (x ∷ xs) ys p = let s = free_step (has ns x.pass) (none_own ns (xs ++ ys)) p in none_own-back ns xs ys s.1

  pub none_own-one : (ns : List ℕ) (e : Entry C A) → has ns e.pass ≡ false → none_own ns (e ∷ []) ≡ true
  none_own-one ns e h = free_both (has ns e.pass) true h refl

  pub own-none_own : (ns : List ℕ) (ys : List (Entry C A)) → none_own ns ys ≡ true → own ns ys ≡ []
  own-none_own ns [] h = refl
  own-none_own ns (y ∷ ys) h = let s = free_step (has ns y.pass) (none_own ns ys) h in own_skip (has ns y.pass) y (own ns ys) s.0 ∙ own-none_own ns ys s.1

  pub own-append : (ns : List ℕ) (xs ys : List (Entry C A)) → own ns (xs ++ ys) ≡ own ns xs ++ own ns ys
  own-append ns [] ys = refl
  own-append ns (x ∷ xs) ys = ap (λ (zs : List (Entry C A)). cond (has ns x.pass) (x ∷ zs) zs) (own-append ns xs ys) ∙ own_cons (has ns x.pass) x (own ns xs) (own ns ys)

  -- what comes later, and has none of these numbers, adds nothing to what is own
  pub own-later : (ns : List ℕ) (xs ys : List (Entry C A)) → none_own ns ys ≡ true → own ns (xs ++ ys) ≡ own ns xs
  own-later ns xs ys h = own-append ns xs ys ∙ (ap (λ (zs : List (Entry C A)). own ns xs ++ zs) (own-none_own ns ys h) ∙ append-nil (own ns xs))

  pub own-snoc : (ns : List ℕ) (xs : List (Entry C A)) (e : Entry C A) → has ns e.pass ≡ true → own ns (xs ++ e ∷ []) ≡ own ns xs ++ e ∷ []
  own-snoc ns xs e h = own-append ns xs (e ∷ []) ∙ ap (λ (zs : List (Entry C A)). own ns xs ++ zs) (own_keep (has ns e.pass) e [] h)

  pub each-map : (P Q : Entry C A → Type 0) → ((e : Entry C A) → P e → Q e) → (es : List (Entry C A)) → Each P es → Each Q es
  each-map P Q f [] h = tt
  each-map P Q f (e ∷ es) h = (f e h.0, each-map P Q f es h.1)

  pub each-snoc : (P : Entry C A → Type 0) (es : List (Entry C A)) (e : Entry C A) → Each P es → P e → Each P (es ++ e ∷ [])
  each-snoc P [] e h p = (p, tt)
  each-snoc P (x ∷ es) e h p = (h.0, each-snoc P es e h.1 p)

pub has-append : (ms ns : List ℕ) (n : ℕ) → has (ms ++ ns) n ≡ has ms n || has ns n
has-append [] ns n = refl
has-append (m ∷ ms) ns n = ap (λ b. eqb m n || b) (has-append ms ns n) ∙ or_or (eqb m n) (has ms n) (has ns n)
  where
    or_or : (a b c : Bool) → a || (b || c) ≡ (a || b) || c
    or_or true b c = refl
    or_or false b c = refl

pub has-one : (m n : ℕ) → has (m ∷ []) n ≡ true → m ≡ n
has-one m n h = eqb-true m n (or_false (eqb m n) h)
  where
    or_false : (a : Bool) → (a || false) ≡ true → a ≡ true
    or_false true h = refl
    or_false false h = h

module _ {C A : Type 0} where
  pub none_own-each : (ns : List ℕ) (es : List (Entry C A)) → Each (λ e. has ns e.pass ≡ false) es → none_own ns es ≡ true
  none_own-each ns [] h = refl
  none_own-each ns (e ∷ es) h = free_both (has ns e.pass) (none_own ns es) h.0 (none_own-each ns es h.1)

  pub each-none_own : (ns : List ℕ) (es : List (Entry C A)) → none_own ns es ≡ true → Each (λ e. has ns e.pass ≡ false) es
  each-none_own ns [] h = tt
  each-none_own ns (e ∷ es) h = let s = free_step (has ns e.pass) (none_own ns es) h in (s.0, each-none_own ns es s.1)

  pub none_own-none : (es : List (Entry C A)) → none_own [] es ≡ true
  none_own-none [] = refl
  none_own-none (e ∷ es) = none_own-none es

  pub none_own-numbers : (ms ns : List ℕ) (es : List (Entry C A)) → none_own ms es ≡ true → none_own ns es ≡ true → none_own (ms ++ ns) es ≡ true
  none_own-numbers ms ns [] p q = refl
  none_own-numbers ms ns (e ∷ es) p q =
      let s = free_step (has ms e.pass) (none_own ms es) p in
      let t = free_step (has ns e.pass) (none_own ns es) q in
      free_both (has (ms ++ ns) e.pass) (none_own (ms ++ ns) es) (has-append ms ns e.pass ∙ or_from (has ms e.pass) (has ns e.pass) s.0 t.0) (none_own-numbers ms ns es s.1 t.1)

  -- one of the numbers
  pub none_own-number : (ns : List ℕ) (n : ℕ) (es : List (Entry C A)) → has ns n ≡ true → none_own ns es ≡ true → none_own (n ∷ []) es ≡ true
  none_own-number ns n [] h p = refl
  none_own-number ns n (e ∷ es) h p =
      let s = free_step (has ns e.pass) (none_own ns es) p in
      let apart : n ≢ e.pass = λ (i : n ≡ e.pass). absurd (true≢false (sym h ∙ (ap (has ns) i ∙ s.0))) in
      free_both (has (n ∷ []) e.pass) (none_own (n ∷ []) es) (ap (λ b. b || false) (ne_eqb n e.pass apart)) (none_own-number ns n es h s.1)

  -- where all are own and none is, there is none
  pub all_and_none : (ns : List ℕ) (es : List (Entry C A)) → Each (λ e. has ns e.pass ≡ true) es → none_own ns es ≡ true → es ≡ []
  all_and_none ns [] h p = refl
  all_and_none ns (e ∷ es) h p = let s = free_step (has ns e.pass) (none_own ns es) p in absurd (true≢false (sym h.0 ∙ s.0))

  pub own-all : (ns : List ℕ) (es : List (Entry C A)) → Each (λ e. has ns e.pass ≡ true) es → own ns es ≡ es
  own-all ns [] h = refl
  own-all ns (e ∷ es) h = own_keep (has ns e.pass) e (own ns es) h.0 ∙ ap (λ (l : List (Entry C A)). e ∷ l) (own-all ns es h.1)

  pub each-back : (P : Entry C A → Type 0) (xs ys : List (Entry C A)) → Each P (xs ++ ys) → Each P ys
  each-back P [] ys h = h
  each-back P (x ∷ xs) ys h = each-back P xs ys h.1
