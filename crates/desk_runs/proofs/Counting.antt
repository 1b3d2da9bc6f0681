-- Each place of a history is named once.
use Rattle.std.proofs.Common.{◌≡◌, ℕ, suc, ◌+◌, ◌<◌, ◌≤◌, List, [], ◌∷◌, ◌++◌, map, length, Bool, true, false, cond, refl, sym, ap, ◌∙◌, arith, eq-eqb, ne_eqb, true≢false, Some}
use Rattle.std.specs.Prelude.{◌||◌, eqb, ◌==◌, nat_lt, flat_map, slice_get}
use Rattle.std.proofs.lemmas.Bool.{eqb-true, lt-ltb, le-ltb}
use mathlib.Core.Logic.{dite}
use native.Mathlib.Decide.{dec_lt}
use Rattle.turnstile.specs.declared.entry.Entry.{Entry}
use Rattle.turnstile.specs.History.{has, own, Each}
use Rattle.desk_runs.specs.Entered.{place_of}
use Rattle.desk_runs.specs.Gathered.{Rises}
use Rattle.desk_runs.specs.Numbered.{Apart, ArePlaced, Covers, times, places_of_number, times_named}

-- numbers that rise differ
rises_above : (low : ℕ) (ns : List ℕ) (high m : ℕ) → Rises low ns high → m ≤ low → has ns m ≡ false
rises_above low [] high m r h = refl
rises_above low (n ∷ ns) high m r h =
    let e : eqb n m ≡ false = ne_eqb n m (λ (q : n ≡ m). let a = r.0 in absurd (omega arith)) in
    rw e (rises_above n ns high m r.2 (let a = r.0 in omega arith))

pub rises_apart : (low : ℕ) (ns : List ℕ) (high : ℕ) → Rises low ns high → Apart ns
rises_apart low [] high r = tt
rises_apart low (n ∷ ns) high r = (rises_above n ns high n r.2 (omega arith), rises_apart n ns high r.2)

module _ {C A : Type 0} where
  own_short : (ns : List ℕ) (es : List (Entry C A)) → length (own ns es) ≤ length es
  own_short ns [] = omega arith
  own_short ns (e ∷ es) = short (has ns e.pass) e (own ns es) es (own_short ns es)
    where
      short : (b : Bool) (e : Entry C A) (xs es : List (Entry C A)) → length xs ≤ length es → length (cond b (e ∷ xs) xs) ≤ length (e ∷ es)
      short true e xs es h = omega arith
      short false e xs es h = omega arith

  -- where all are own, each has one of the numbers
  pub all_have : (ns : List ℕ) (es : List (Entry C A)) → own ns es ≡ es → Covers ns es
  all_have ns [] h = tt
  all_have ns (e ∷ es) h = let s = cases (has ns e.pass) (own ns es) (own_short ns es) h in (s.0, all_have ns es s.1)
    where
      cases : (b : Bool) (xs : List (Entry C A)) → length xs ≤ length es → cond b (e ∷ xs) xs ≡ e ∷ es → (b ≡ true) × (xs ≡ es)
      cases true xs short h = (refl, cc)
      cases false xs short h = let l : length xs ≡ length es + 1 = ap length h ∙ (omega arith) in absurd (omega arith)

  none_have : (ns : List ℕ) (es : List (Entry C A)) → own ns es ≡ [] → Each (λ e. has ns e.pass ≡ false) es
  none_have ns [] h = tt
  none_have ns (e ∷ es) h = let s = cases (has ns e.pass) (own ns es) h in (s.0, none_have ns es s.1)
    where
      cases : (b : Bool) (xs : List (Entry C A)) → cond b (e ∷ xs) xs ≡ [] → (b ≡ false) × (xs ≡ [])
      cases true xs h = absurd (cc)
      cases false xs h = (refl, h)

  have_rest : (n : ℕ) (ns : List ℕ) (es : List (Entry C A)) → Covers (n ∷ ns) es → Each (λ e. has (n ∷ []) e.pass ≡ false) es → Covers ns es
  have_rest n ns [] a b = tt
  have_rest n ns (e ∷ es) a b = (one (eqb n e.pass) (has ns e.pass) a.0 b.0, have_rest n ns es a.1 b.1)
    where
      one : (x y : Bool) → (x || y) ≡ true → (x || false) ≡ false → y ≡ true
      one true y p q = absurd (cc)
      one false y p q = p

  -- a number with no entry covers none
  pub covers_rest : (n : ℕ) (ns : List ℕ) (es : List (Entry C A)) → own (n ∷ ns) es ≡ es → own (n ∷ []) es ≡ [] → Covers ns es
  covers_rest n ns es all none = have_rest n ns es (all_have (n ∷ ns) es all) (none_have (n ∷ []) es none)

times_append : (p : ℕ) (xs ys : List ℕ) → times p (xs ++ ys) ≡ times p xs + times p ys
times_append p [] ys = omega arith
times_append p (x ∷ xs) ys = let r = times_append p xs ys in omega arith

join_case : (b c : Bool) (x hd hd0 tl tl0 : ℕ) → (b ≡ true → c ≡ false) → hd ≡ cond b x 0 + hd0 → tl ≡ cond c x 0 + tl0 → hd + tl ≡ cond (b || c) x 0 + (hd0 + tl0)
join_case true true x hd hd0 tl tl0 f p q = absurd (true≢false (f refl))
join_case true false x hd hd0 tl tl0 f p q = omega arith
join_case false true x hd hd0 tl tl0 f p q = omega arith
join_case false false x hd hd0 tl tl0 f p q = omega arith

test_one : (a p : ℕ) → a ≡ p → ◌≡◌ {A = ℕ} (cond (a == p) 1 0) 1
test_one a p h = ap (λ (b : Bool). cond {A = ℕ} b 1 0) (eq-eqb a p h)

test_none : (a p : ℕ) → (a ≡ p → ⊥) → ◌≡◌ {A = ℕ} (cond (a == p) 1 0) 0
test_none a p h = ap (λ (b : Bool). cond {A = ℕ} b 1 0) (ne_eqb a p h)

module _ {C A : Type 0} where
  named_cons : (n : ℕ) (ns : List ℕ) (es : List (Entry C A)) (p : ℕ) → times_named (n ∷ ns) es p ≡ times p (places_of_number es n) + times_named ns es p
  named_cons n ns es p = times_append p (places_of_number es n) (flat_map (places_of_number es) ns)

  head_case : (b : Bool) (e : Entry C A) (xs : List (Entry C A)) (p : ℕ) → times p (map place_of (cond (b || false) (e ∷ xs) xs)) ≡ cond b (cond (e.place == p) 1 0) 0 + times p (map place_of xs)
  head_case true e xs p = refl
  head_case false e xs p = omega arith

  -- one entry more in front is named once more, by the one worker whose it is
  named_step : (ns : List ℕ) (e : Entry C A) (es : List (Entry C A)) (p : ℕ) → Apart ns → times_named ns (e ∷ es) p ≡ cond (has ns e.pass) (cond (e.place == p) 1 0) 0 + times_named ns es p
  named_step [] e es p a = omega arith
  named_step (n ∷ ns) e es p a =
      let one : ℕ = cond (e.place == p) 1 0 in
      named_cons n ns (e ∷ es) p
      ∙ (join_case (eqb n e.pass) (has ns e.pass) one (times p (places_of_number (e ∷ es) n)) (times p (places_of_number es n)) (times_named ns (e ∷ es) p) (times_named ns es p)
      (λ q. ap (has ns) (sym (eqb-true n e.pass q)) ∙ a.0) (head_case (eqb n e.pass) e (own (n ∷ []) es) p) (named_step ns e es p a.1)
      ∙ ap (λ (z : ℕ). cond (eqb n e.pass || has ns e.pass) one 0 + z) (sym (named_cons n ns es p)))

  named_all : (ns : List ℕ) (es : List (Entry C A)) (p : ℕ) → Apart ns → Covers ns es → times_named ns es p ≡ times p (map place_of es)
  named_all [] [] p a h = refl
  named_all (n ∷ ns) [] p a h = named_all ns [] p a.1 tt
  named_all ns (e ∷ es) p a h =
      let step = named_step ns e es p a in
      let rest = named_all ns es p a h.1 in
      let now : cond (has ns e.pass) (cond (e.place == p) 1 0) 0 ≡ cond (e.place == p) 1 0 = ap (λ (z : Bool). cond z (cond (e.place == p) 1 0) 0) h.0 in
      step ∙ (λ i. now i + rest i)

  -- the entries stand at their places, from this one on
  From : ℕ → List (Entry C A) → Type 0
  From k [] = Unit {0}
  From k (e ∷ es) = (e.place ≡ k) × From (k + 1) es

  from_places : (k : ℕ) (es : List (Entry C A)) → ((i : ℕ) (e : Entry C A) → slice_get es i ≡ Some e → e.place ≡ k + i) → From k es
  unfolding From
  from_places k [] f = tt
  from_places k (e ∷ es) f = (f 0 e refl ∙ omega arith, from_places (k + 1) es (λ i d q. f (suc i) d q ∙ omega arith))

  before : (p k : ℕ) (es : List (Entry C A)) → From k es → p < k → times p (map place_of es) ≡ 0
  unfolding From
  before p k [] f h = refl
  before p k (e ∷ es) f h = let a = test_none e.place p (λ (q : e.place ≡ p). let b = f.0 in absurd (omega arith)) in let r = before p (k + 1) es f.1 (omega arith) in omega arith

  within : (p k : ℕ) (es : List (Entry C A)) → From k es → k ≤ p → p < k + length es → times p (map place_of es) ≡ 1
  unfolding From
  within p k [] f h l = absurd (omega arith)
  within p k (e ∷ es) f h l = dite (dec_lt k p)
      (λ (y : k < p). let a = test_none e.place p (λ (q : e.place ≡ p). let b = f.0 in absurd (omega arith)) in let r = within p (k + 1) es f.1 (omega arith) (omega arith) in omega arith)
      (λ n. let same : e.place ≡ p = (let b = f.0 in omega arith) in let a = test_one e.place p same in let r = before p (k + 1) es f.1 (omega arith) in omega arith)

  behind : (p k : ℕ) (es : List (Entry C A)) → From k es → k + length es ≤ p → times p (map place_of es) ≡ 0
  unfolding From
  behind p k [] f h = refl
  behind p k (e ∷ es) f h = let a = test_none e.place p (λ (q : e.place ≡ p). let b = f.0 in absurd (omega arith)) in let r = behind p (k + 1) es f.1 (omega arith) in omega arith

  -- each place of a history is named once by its workers, and no other is
  pub once_each : (ns : List ℕ) (es : List (Entry C A)) (p : ℕ) → ArePlaced es → Apart ns → Covers ns es → times_named ns es p ≡ cond (nat_lt p (length es)) 1 0
  once_each ns es p placed apart covered =
      let f : From 0 es = from_places 0 es (λ i e q. placed i e q ∙ omega arith) in
      named_all ns es p apart covered ∙ dite (dec_lt p (length es))
      (λ (y : p < length es). within p 0 es f (omega arith) (omega arith) ∙ sym (ap (λ (b : Bool). cond {A = ℕ} b 1 0) (lt-ltb p (length es) y)))
      (λ n. let h : length es ≤ p = omega arith in behind p 0 es f (omega arith) ∙ sym (ap (λ (b : Bool). cond {A = ℕ} b 1 0) (le-ltb p (length es) h)))

pub flat_again : (f : ℕ → List ℕ) (ns : List ℕ) → flat_map (λ (ps : List ℕ). ps) (map f ns) ≡ flat_map f ns
flat_again f [] = refl
flat_again f (n ∷ ns) = ap (λ (l : List ℕ). f n ++ l) (flat_again f ns)
