-- Passes that are split for workers, and joined again.
use Rattle.std.proofs.Common.{◌≡◌, ℕ, ◌+◌, ◌-◌, ◌/◌, ◌<◌, ◌≤◌, List, [], ◌∷◌, ◌++◌, true, refl, sym, ap, ◌∙◌, subst, arith, append_assoc, append-nil, Some, None, Option}
use Rattle.std.proofs.lemmas.Bool.{or_left, or_right}
use Rattle.turnstile.specs.History.{has, own}
use Rattle.turnstile.specs.Known.{Known, SameRights, Joined, kept_half, given_half, given_number, or_else}
use Rattle.turnstile.proofs.Histories.{has-append}
use Rattle.desk_runs.specs.Gathered.{Keeps, Gathered, Rises}

marked_either : (x y : Option ℕ) (t : ℕ) → y ≡ Some t → (s : ℕ) × (or_else x y ≡ Some s)
marked_either None y t h = (t, h)
marked_either (Some s) y t h = (s, refl)

rises-snoc : (low : ℕ) (ns : List ℕ) (high top : ℕ) → Rises low ns high → low < high → high < top → Rises low (ns ++ high ∷ []) top
rises-snoc low [] high top h l u = (l, u, tt)
rises-snoc low (n ∷ ns) high top h l u = (h.0, (let a = h.1 in omega arith), rises-snoc n ns high top h.2 h.1 u)

module _ {C A B : Type 0} where
  pub keeps_first : (r o u : Known C A B) → Joined r o u → Keeps r u
  keeps_first r o u j = record {
    begins = j.of_first.begins;
    same = j.of_first.same_own;
    numbers = λ n h. ap (λ (k : Known C A B). has k.numbers n) j.is ∙ (has-append r.numbers o.numbers n ∙ or_left (has r.numbers n) (has o.numbers n) h);
    marked = λ m. (m.0, ap (λ (k : Known C A B). k.mark) j.is ∙ ap (λ x. or_else x o.mark) m.1);
  }

  pub keeps_second : (r o u : Known C A B) → Joined r o u → Keeps o u
  keeps_second r o u j = record {
    begins = j.of_second.begins;
    same = j.of_second.same_own;
    numbers = λ n h. ap (λ (k : Known C A B). has k.numbers n) j.is ∙ (has-append r.numbers o.numbers n ∙ or_right (has r.numbers n) (has o.numbers n) h);
    marked = λ m. let e = marked_either r.mark o.mark m.0 m.1 in (e.0, ap (λ (k : Known C A B). k.mark) j.is ∙ e.1);
  }

  pub gathered_none : (v : Known C A B) → Gathered v [] v
  gathered_none v = record { numbers_are = sym (append-nil v.numbers); parts_are = refl; base_is = refl; desk_is = refl; rises = tt; idle = λ n h. refl }

  -- one worker more: a pass v was cut into l and o0, the workers of l were gathered in r, the new one left o, and both were joined
  pub gathered_more : (v l o0 r o u : Known C A B) (ns : List ℕ) (n : ℕ) → l ≡ kept_half v → o0 ≡ given_half v → n ≡ o0.number → 2 ≤ v.spare → Gathered l ns r → SameRights o0 o → Joined r o u → Gathered v (ns ++ n ∷ []) u
  gathered_more v l o0 r o u ns n is_l is_o is_n wide g same j =
      let num : n ≡ given_number v = is_n ∙ ap (λ (k : Known C A B). k.number) is_o in
      let o_nums : o.numbers ≡ n ∷ [] = same.numbers ∙ (ap (λ (k : Known C A B). k.numbers) is_o ∙ ap (λ (m : ℕ). m ∷ []) (sym num)) in
      let r_nums : r.numbers ≡ v.numbers ++ ns = g.numbers_are ∙ ap (λ (k : Known C A B). k.numbers ++ ns) is_l in
      let in_r : (m : ℕ) → has v.numbers m ≡ true → has r.numbers m ≡ true = λ m h. ap (λ l. has l m) r_nums ∙ (has-append v.numbers ns m ∙ or_left (has v.numbers m) (has ns m) h) in
      let rises : Rises v.number ns (given_number v) = subst (λ (k : Known C A B). Rises k.number ns (k.number + k.spare)) is_l g.rises in
      record {
        numbers_are = ap (λ (k : Known C A B). k.numbers) j.is ∙ ((λ i. r_nums i ++ o_nums i) ∙ append_assoc v.numbers ns (n ∷ []));
        parts_are =
            let a : u.parts ≡ r.parts + o.parts = ap (λ (k : Known C A B). k.parts) j.is in
            let b : r.parts ≡ v.parts - v.parts / 2 = g.parts_are ∙ ap (λ (k : Known C A B). k.parts) is_l in
            let c : o.parts ≡ v.parts / 2 = same.parts ∙ ap (λ (k : Known C A B). k.parts) is_o in
            omega arith;
        base_is = ap (λ (k : Known C A B). k.base) j.is ∙ (g.base_is ∙ ap (λ (k : Known C A B). k.base) is_l);
        desk_is = ap (λ (k : Known C A B). k.desk) j.is ∙ (g.desk_is ∙ ap (λ (k : Known C A B). k.desk) is_l);
        rises = subst (λ (m : ℕ). Rises v.number (ns ++ m ∷ []) (v.number + v.spare)) (sym num) (rises-snoc v.number ns (given_number v) (v.number + v.spare) rises (omega arith) (omega arith));
        idle = λ m h. j.of_first.same_own m (in_r m h) ∙ (g.idle m (ap (λ (k : Known C A B). has k.numbers m) is_l ∙ h) ∙ ap (λ (k : Known C A B). own (m ∷ []) k.seen) is_l);
      }
