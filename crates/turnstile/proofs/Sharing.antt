-- Seats that are split and joined, and the end.
use Rattle.std.proofs.Common.{◌≡◌, ◌≢◌, ℕ, zero, suc, ◌+◌, ◌-◌, ◌/◌, ◌^◌, ◌<◌, ◌≤◌, eqb, List, [], ◌∷◌, ◌++◌, length, set, Bool, true, false, cond, Option, Some, None, refl, sym, ap, ◌∙◌, subst, ⊎_elim, arith, append-nil, length-set, le_refl, eq-eqb, ne_eqb}
use Rattle.std.specs.Prelude.{◌||◌, nat_lt, slice_index}
use Rattle.std.proofs.lemmas.Bool.{lt-ltb, le-ltb, or_from, or_cases, or_left, or_right, false_from_ne_true}
use mathlib.Core.Logic.{dite}
use mathlib.Core.Option.{some, none, some-ne-none, some-injective}
use mathlib.Core.Option as maybe
use native.Mathlib.Decide.{ℕ_discrete, dec_lt}
use lib.ListN.{get_elem?}
use Rattle.atomic_table.specs.Table.{State, Me, step, keeps, Allows, Splits, Joins, Final, Seen}
use Rattle.atomic_table.proofs.Lists.{at_longer, set_else}
use Rattle.turnstile.specs.declared.entry.Entry.{Entry}
use Rattle.turnstile.specs.declared.view.Part.{Part}
use Rattle.turnstile.specs.declared.view.SeatView.{SeatView}
use Rattle.turnstile.specs.History.{has, own, none_own, Each}
use Rattle.turnstile.specs.Rule.{Answers, mark_of, marked, Fits, Stands, Rests, DeskRule}
use Rattle.turnstile.specs.Known.{or_else, longer}
use Rattle.turnstile.specs.Steps.{left_half, right_half, second_number, part_of, both, nobody, without_parts, vacant, recalled}
use Rattle.turnstile.proofs.Histories.{none_own-front, none_own-back, own-none_own, own-later, each-map, each-back, between, has-append, has-one, none_own-each, none_own-none, none_own-numbers, none_own-number, all_and_none, own-all}
use Rattle.turnstile.proofs.Seats.{at_inside, set_at, same_at, seats_stay, total_set, total_snoc, total_rest, at_end}
use Rattle.turnstile.proofs.Steps.{off, no_ticket, mark_over, still_waiting, still_answered, served_at, stays_at, no_item}

-- n is among the `more` numbers from `least` on
pub within : ℕ → ℕ → ℕ → Bool
within least more n = cond (nat_lt n least) false (nat_lt n (least + more))

pub within-yes : (least more n : ℕ) → least ≤ n → n < least + more → within least more n ≡ true
unfolding within
within-yes least more n l u = ap (λ b. cond b false (nat_lt n (least + more))) (le-ltb n least l) ∙ lt-ltb n (least + more) u

pub within-no : (least more n : ℕ) → ((least ≤ n) × (n < least + more) → ⊥) → within least more n ≡ false
unfolding within
within-no least more n h = dite (dec_lt n least)
    (λ (y : n < least). ap (λ b. cond b false (nat_lt n (least + more))) (lt-ltb n least y))
    (λ no. let l : least ≤ n = omega arith in ap (λ b. cond b false (nat_lt n (least + more))) (le-ltb n least l) ∙ le-ltb n (least + more) (dite (dec_lt n (least + more)) (λ (y : n < least + more). absurd (h (l, y))) (λ no'. omega arith)))

mark_halves : (term p : ℕ) (ticket : Option ℕ) → mark_of term (p - p / 2) ticket + mark_of term (p / 2) ticket ≡ mark_of term p ticket
mark_halves term p None = refl
mark_halves term p (Some t) = cases (nat_lt t term)
  where
    cases : (c : Bool) → cond c 0 (p - p / 2) + cond c 0 (p / 2) ≡ cond c 0 p
    cases true = refl
    cases false = omega arith

mark_sum : (term p q : ℕ) (a b : Option ℕ) → ((t : ℕ) → a ≡ Some t → term ≤ t) → ((t : ℕ) → b ≡ Some t → term ≤ t) → mark_of term p a + mark_of term q b ≤ mark_of term (p + q) (or_else a b)
mark_sum term p q None None ha hb = omega arith
mark_sum term p q None (Some t) ha hb = let x = mark_over term q t (hb t refl) in let y = mark_over term (p + q) t (hb t refl) in omega arith
mark_sum term p q (Some t) None ha hb = let x = mark_over term p t (ha t refl) in let y = mark_over term (p + q) t (ha t refl) in omega arith
mark_sum term p q (Some t) (Some u) ha hb = let x = mark_over term p t (ha t refl) in let y = mark_over term (p + q) t (ha t refl) in let z = mark_over term q u (hb u refl) in omega arith

drew_either : {drawn : ℕ} (a b : Option ℕ) (t : ℕ) → or_else a b ≡ Some t → ((t : ℕ) → a ≡ Some t → t < drawn) → ((t : ℕ) → b ≡ Some t → t < drawn) → t < drawn
drew_either None b t e f g = g t e
drew_either (Some x) b t e f g = f t e

pub above_either : {term : ℕ} (a b : Option ℕ) (t : ℕ) → or_else a b ≡ Some t → ((t : ℕ) → a ≡ Some t → term ≤ t) → ((t : ℕ) → b ≡ Some t → term ≤ t) → term ≤ t
above_either None b t e f g = g t e
above_either (Some x) b t e f g = f t e

-- a pass between two calls
pub record Resting {C A B : Type 0} (v : SeatView C A B) : Type 0 where
  pub no_turn : v.turn ≡ false
  pub plain : length v.joined ≡ 0
  pub live : 0 < v.parts
  pub above : (t : ℕ) → v.ticket ≡ Some t → v.term ≤ t

module _ {V C A B : Type 0} (base : V → B) (entries : V → List (Entry C A)) (room : V → ℕ) (lawful : B → List (Entry C A) → Type 0) (b : B) (term : ℕ) where
  abbrev K : Type 0
  K = SeatView C A B

  abbrev St : Type 0
  St = State V (SeatView C A B)

  abbrev M : Type 0
  M = Me V (SeatView C A B)

  abbrev Rule : St → Type 0
  Rule = DeskRule base entries room lawful b term

  -- no entry has a number that is still to be given away
  unused : (s : St) (r : Rule s) (id : ℕ) (v : K) → get_elem? s.views id ≡ some v → (n : ℕ) → v.number < n → n < v.number + v.spare → (k : ℕ) → ((u : K) × (get_elem? s.views (r.owner k) ≡ some u) × (has u.numbers k ≡ true)) → k ≢ n
  unused s r id v at n above below k (u, there, has_it) is =
      let f = r.each_seat id v at in
      let mine : r.owner k ≡ id = ap r.owner is ∙ f.range_owned n (omega arith) below in
      let same = same_at s.views id v u at (subst (λ i. get_elem? s.views i ≡ some u) mine there) in
      off (sym has_it ∙ (ap (λ (w : K). has w.numbers k) (sym same) ∙ (ap (has v.numbers) is ∙ f.range_unused n above below)))

  unused_free : (s : St) (r : Rule s) (id : ℕ) (v : K) → get_elem? s.views id ≡ some v → (n : ℕ) → v.number < n → n < v.number + v.spare → none_own (n ∷ []) r.history ≡ true
  unused_free s r id v at n above below = none_own-each (n ∷ []) r.history
      (each-map _ _ (λ e h. ap (λ c. c || false) (ne_eqb n e.pass (λ (i : n ≡ e.pass). unused s r id v at n above below e.pass h (sym i)))) r.history r.answered)

  pub vacants : (slots id : ℕ) (m : M) → Allows Rule slots id m 1 (λ n. n) (vacant (step slots 1 0 0 none) m)
  vacants slots id m s r _ at _ =
      let f = r.each_seat id m.0 at in
      let there = served_at base entries room lawful b term s r in (
        m.0,
        keeps,
        tt,
        stays_at base entries room lawful b term 1 id m s r at (slice_index s.words 1) refl (ap (set s.words 1) there ∙ (ap (λ ws. set ws 1 (length r.history)) r.words_are ∙ sym r.words_are)),
        (refl, λ n above below. own-none_own (n ∷ []) m.0.seen (none_own-front (n ∷ []) m.0.seen f.answers.0 (ap (none_own (n ∷ [])) (sym f.answers.1) ∙ unused_free s r id m.0 at n above below)), f.range_unused),
      )

  -- the owner of a number after a split
  new_owner : ℕ → ℕ → ℕ → (ℕ → ℕ) → ℕ → ℕ
  new_owner seat least more owner n = cond (within least more n) seat (owner n)

  new_owner-in : (seat least more : ℕ) (owner : ℕ → ℕ) (n : ℕ) → least ≤ n → n < least + more → new_owner seat least more owner n ≡ seat
  unfolding new_owner
  new_owner-in seat least more owner n l u = ap (λ c. cond c seat (owner n)) (within-yes least more n l u)

  new_owner-out : (seat least more : ℕ) (owner : ℕ → ℕ) (n : ℕ) → ((least ≤ n) × (n < least + more) → ⊥) → new_owner seat least more owner n ≡ owner n
  unfolding new_owner
  new_owner-out seat least more owner n h = ap (λ c. cond c seat (owner n)) (within-no least more n h)

  pub splits : (id : ℕ) (v : K) → Resting v → 2 ≤ v.spare → v.spare ≤ v.parts → Splits Rule id v (left_half v) (right_half v)
  splits id v rest wide enough s r at =
      let f = r.each_seat id v at in
      let above : (t : ℕ) → v.ticket ≡ Some t → term ≤ t = λ t e. let a = rest.above t e in let q = f.same_term rest.live in omega arith in
      let seat : ℕ = length s.views in
      let left : K = left_half v in
      let right : K = right_half v in
      let least : ℕ = second_number v in
      let more : ℕ = v.spare / 2 in
      let owner : ℕ → ℕ = new_owner seat least more r.owner in
      let l1 : List K = set s.views id left in
      let len1 : length l1 ≡ seat = length-set s.views id left in
      let inside : id < seat = at_inside s.views id v at in
      let ours : (n : ℕ) → least ≤ n → n < least + more → r.owner n ≡ id = λ n l u. f.range_owned n (omega arith) (omega arith) in
      let old : (j : ℕ) (u : K) (ns : List ℕ) (seen : List (Entry C A)) → ((n : ℕ) → has ns n ≡ true → (least ≤ n) × (n < least + more) → ⊥) → Answers r.history r.owner j ns seen → Answers r.history owner j ns seen
      = λ j u ns seen out a. (a.0, a.1, a.2, λ n h. new_owner-out seat least more r.owner n (out n h) ∙ a.3 n h) in
      let others : (j : ℕ) → j ≢ id → (ns : List ℕ) → ((n : ℕ) → has ns n ≡ true → r.owner n ≡ j) → (n : ℕ) → has ns n ≡ true → (least ≤ n) × (n < least + more) → ⊥
      = λ j ne ns owns n h lu. ne (sym (owns n h) ∙ ours n lu.0 lu.1) in
      let mine : (n : ℕ) → has v.numbers n ≡ true → (least ≤ n) × (n < least + more) → ⊥
      = λ n h lu. off (sym h ∙ f.range_unused n (omega arith) (omega arith)) in
      record {
        history = r.history;
        drawn = r.drawn;
        home = r.home;
        holder = r.holder;
        owner = owner;
        small = r.small;
        words_are = r.words_are;
        homes_are = r.homes_are;
        just = r.just;
        short = r.short;
        behind = r.behind;
        each_seat = λ j u there. ⊎_elim
            (λ (was : get_elem? l1 j ≡ some u). seats_stay (Fits b term r.history r.drawn r.holder owner) s.views id left
            record {
              same_base = λ _. f.same_base rest.live;
              same_term = λ _. f.same_term rest.live;
              answers = old id v v.numbers v.seen mine f.answers;
              rejoined = λ k p e. absurd (no_item base entries room lawful b term v.joined k p rest.plain e);
              range_owned = λ n l u. new_owner-out seat least more r.owner n (λ lu. omega arith) ∙ f.range_owned n l (omega arith);
              range_unused = λ n l u. f.range_unused n l (omega arith);
              drew = f.drew;
              waits = f.waits;
              on_turn = f.on_turn;
              spent = λ e. absurd (omega arith);
            }
            (λ j u ne there. let g = r.each_seat j u there in record {
              same_base = g.same_base;
              same_term = g.same_term;
              answers = old j u u.numbers u.seen (others j ne u.numbers g.answers.3) g.answers;
              rejoined = λ k p e. let a = g.rejoined k p e in old j u p.numbers p.seen (others j ne p.numbers a.3) a;
              range_owned = λ n l u'. new_owner-out seat least more r.owner n (λ lu. ne (sym (g.range_owned n l u') ∙ ours n lu.0 lu.1)) ∙ g.range_owned n l u';
              range_unused = g.range_unused;
              drew = g.drew;
              waits = g.waits;
              on_turn = g.on_turn;
              spent = g.spent;
            })
            j u was)
            (λ (new : (j ≡ length l1) × (right ≡ u)). subst (λ (z : ℕ × K). Fits b term r.history r.drawn r.holder owner z.0 z.1) (λ i. (sym (new.0 ∙ len1) i, new.1 i))
            record {
              same_base = λ _. f.same_base rest.live;
              same_term = λ _. f.same_term rest.live;
              answers = (
                f.answers.0,
                f.answers.1,
                none_own-back (least ∷ []) v.seen f.answers.0 (ap (none_own (least ∷ [])) (sym f.answers.1) ∙ unused_free s r id v at least (omega arith) (omega arith)),
                λ n h. let is = has-one least n h in new_owner-in seat least more r.owner n (omega arith) (omega arith),
              );
              rejoined = λ k p e. absurd (some-ne-none p (sym e));
              range_owned = λ n l u. new_owner-in seat least more r.owner n l u;
              range_unused = λ n l u. ap (λ c. c || false) (ne_eqb least n (λ (e : least ≡ n). omega arith));
              drew = f.drew;
              waits = λ t e l. let a = above t e in absurd (omega arith);
              on_turn = λ e. off (sym e ∙ rest.no_turn);
              spent = λ e. absurd (omega arith);
            })
            (at_end l1 right u j there);
        waiting = λ t l u k. let o = still_waiting base entries room lawful b term s.views id v left r.holder t at (λ e. let a = above t e in absurd (omega arith)) (r.waiting t l u k) in
            (o.0, at_longer l1 (right ∷ []) (r.holder t) o.0 o.1, o.2);
        answered = each-map _ _ (λ e h. let o = still_answered base entries room lawful b term s.views id v left r.owner at refl e.pass h in (
          o.0,
          at_longer l1 (right ∷ []) (owner e.pass) o.0 (subst (λ i. get_elem? l1 i ≡ some o.0) (sym (new_owner-out seat least more r.owner e.pass
              (λ lu. unused s r id v at e.pass (omega arith) (omega arith) e.pass h refl))) o.1),
          o.2,
        )) r.history r.answered;
        whole = let h = total_set (λ (v : K). v.parts) s.views id v left at in let t = total_snoc (λ (v : K). v.parts) l1 right in let w = r.whole in omega arith;
        marks = let h = total_set (marked term) s.views id v left at in let t = total_snoc (marked term) l1 right in let w = r.marks in let m = mark_halves term v.parts v.ticket in omega arith;
        rests = still_rests r.home r.rests;
      }
    where
      still_rests : (h : maybe.Option V) → Rests base entries room b term r.history s.views h → Rests base entries room b term r.history (set s.views id (left_half v) ++ right_half v ∷ []) h
      still_rests none (j, u, there, turn) =
          let ne : j ≢ id = λ (e : j ≡ id). off (sym turn ∙ (ap (λ (k : K). k.turn) (sym (same_at s.views id v u at (subst (λ k. get_elem? s.views k ≡ some u) e there))) ∙ rest.no_turn)) in
          (j, u, at_longer (set s.views id (left_half v)) (right_half v ∷ []) j u (set_else s.views id j (left_half v) ne ∙ there), turn)
      still_rests (some x) h = h

  -- the owner of a number after a join
  joined_owner : ℕ → ℕ → (ℕ → ℕ) → ℕ → ℕ
  joined_owner id other owner n = cond (eqb (owner n) other) id (owner n)

  joined_owner-other : (id other : ℕ) (owner : ℕ → ℕ) (n : ℕ) → owner n ≡ other → joined_owner id other owner n ≡ id
  unfolding joined_owner
  joined_owner-other id other owner n e = ap (λ c. cond c id (owner n)) (eq-eqb (owner n) other e)

  joined_owner-else : (id other : ℕ) (owner : ℕ → ℕ) (n : ℕ) → owner n ≢ other → joined_owner id other owner n ≡ owner n
  unfolding joined_owner
  joined_owner-else id other owner n e = ap (λ c. cond c id (owner n)) (ne_eqb (owner n) other e)

  longer_cases : (P : List (Entry C A) → Type 0) (xs ys : List (Entry C A)) → (length ys ≤ length xs → P xs) → (length xs < length ys → P ys) → P (longer xs ys)
  longer_cases P xs ys f g = dite (dec_lt (length xs) (length ys))
      (λ (y : length xs < length ys). subst (λ c. P (cond c ys xs)) (sym (lt-ltb (length xs) (length ys) y)) (g y))
      (λ n. let h : length ys ≤ length xs = omega arith in subst (λ c. P (cond c ys xs)) (sym (le-ltb (length xs) (length ys) h)) (f h))

  -- what stands later than the longer of two is own to neither
  later_both : (history : List (Entry C A)) (owner owner' : ℕ → ℕ) (i j id : ℕ) (ms ns : List ℕ) (xs ys : List (Entry C A)) → Answers history owner i ms xs → Answers history owner j ns ys
      → ((n : ℕ) → owner n ≡ i → owner' n ≡ id) → ((n : ℕ) → owner n ≡ j → owner' n ≡ id) → Answers history owner' id (ms ++ ns) (longer xs ys)
  later_both history owner owner' i j id ms ns xs ys a c to_i to_j =
      let owns : (n : ℕ) → has (ms ++ ns) n ≡ true → owner' n ≡ id
      = λ n h. ⊎_elim (λ h'. to_i n (a.3 n h')) (λ h'. to_j n (c.3 n h')) (or_cases (has ms n) (has ns n) (sym (has-append ms ns n) ∙ h)) in
      longer_cases (λ (zs : List (Entry C A)). Answers history owner' id (ms ++ ns) zs) xs ys
      (λ short. let m = between ys c.0 xs a.0 (sym c.1 ∙ a.1) short in
      (a.0, a.1, none_own-numbers ms ns a.0 a.2 (none_own-back ns m.0 a.0 (ap (none_own ns) (sym m.2) ∙ c.2)), owns))
      (λ long. let m = between xs a.0 ys c.0 (sym a.1 ∙ c.1) (omega arith) in
      (c.0, c.1, none_own-numbers ms ns c.0 (none_own-back ms m.0 c.0 (ap (none_own ms) (sym m.2) ∙ a.2)) c.2, owns))

  two_parts : (history : List (Entry C A)) (owner : ℕ → ℕ) (id : ℕ) (v w : K) (k : ℕ) (p : Part C A) → get_elem? (part_of v ∷ part_of w ∷ []) k ≡ some p → Answers history owner id v.numbers v.seen → Answers history owner id w.numbers w.seen → Answers history owner id p.numbers p.seen
  two_parts history owner id v w zero p e a c = subst (λ (q : Part C A). Answers history owner id q.numbers q.seen) (some-injective (part_of v) p e) a
  two_parts history owner id v w (suc zero) p e a c = subst (λ (q : Part C A). Answers history owner id q.numbers q.seen) (some-injective (part_of w) p e) c
  two_parts history owner id v w (suc (suc k)) p e a c = absurd (some-ne-none p (sym e))

  still_two : (views : List K) (id other : ℕ) (v w x y : K) (n : ℕ) (P : K → Type 0) → get_elem? views id ≡ some v → other ≢ id → get_elem? views other ≡ some w → n ≢ other → (P v → P x)
      → ((u : K) × (get_elem? views n ≡ some u) × P u) → (u : K) × (get_elem? (set (set views id x) other y) n ≡ some u) × P u
  still_two views id other v w x y n P at apart there ne keeps_it (u, found, has_it) = dite (ℕ_discrete n id)
      (λ e. (
        x,
        subst (λ i. get_elem? (set (set views id x) other y) i ≡ some x) (sym e) (set_else (set views id x) other id y (λ i. apart (sym i)) ∙ set_at views id v x at),
        keeps_it (subst P (sym (same_at views id v u at (subst (λ i. get_elem? views i ≡ some u) e found))) has_it),
      ))
      (λ ne'. (u, set_else (set views id x) other n y ne ∙ (set_else views id n x ne' ∙ found), has_it))

  pub joins : (id : ℕ) (v : K) (other : ℕ) (w : K) (nowhere : B) → Resting v → Resting w → Joins Rule id v other w (both v w) (nobody nowhere)
  joins id v other w nowhere rv rw' s r at apart there_set =
      let there : get_elem? s.views other ≡ some w = sym (set_else s.views id other (both v w) apart) ∙ there_set in
      let f = r.each_seat id v at in
      let g = r.each_seat other w there in
      let above_v : (t : ℕ) → v.ticket ≡ Some t → term ≤ t = λ t e. let a = rv.above t e in let q = f.same_term rv.live in omega arith in
      let above_w : (t : ℕ) → w.ticket ≡ Some t → term ≤ t = λ t e. let a = rw'.above t e in let q = g.same_term rw'.live in omega arith in
      let x : K = both v w in
      let y : K = nobody nowhere in
      let owner : ℕ → ℕ = joined_owner id other r.owner in
      let l1 : List K = set s.views id x in
      let to_id : (n : ℕ) → r.owner n ≡ id → owner n ≡ id = λ n e. joined_owner-else id other r.owner n (λ o. apart (sym o ∙ e)) ∙ e in
      let from_other : (n : ℕ) → r.owner n ≡ other → owner n ≡ id = λ n e. joined_owner-other id other r.owner n e in
      let stay : (j : ℕ) → j ≢ other → (n : ℕ) → r.owner n ≡ j → owner n ≡ j = λ j ne n e. joined_owner-else id other r.owner n (λ o. ne (sym e ∙ o)) ∙ e in
      let live : 0 < v.parts = rv.live in
      let mine : Fits b term r.history r.drawn r.holder owner id x = record {
        same_base = λ _. f.same_base live;
        same_term = λ _. f.same_term live;
        answers = later_both r.history r.owner owner id other id v.numbers w.numbers v.seen w.seen f.answers g.answers to_id from_other;
        rejoined = λ k p e. two_parts r.history owner id v w k p e (f.answers.0, f.answers.1, f.answers.2, λ n h. to_id n (f.answers.3 n h)) (g.answers.0, g.answers.1, g.answers.2, λ n h. from_other n (g.answers.3 n h));
        range_owned = λ n l u. to_id n (f.range_owned n l u);
        range_unused = λ n l u. has-append v.numbers w.numbers n ∙ or_from (has v.numbers n) (has w.numbers n) (f.range_unused n l u)
            (false_from_ne_true (has w.numbers n) (λ h. apart (sym (g.answers.3 n h) ∙ f.range_owned n (omega arith) u)));
        drew = λ t e. drew_either v.ticket w.ticket t e f.drew g.drew;
        waits = λ t e l. absurd (let a = above_either v.ticket w.ticket t e above_v above_w in omega arith);
        on_turn = λ e. off (sym e ∙ rv.no_turn);
        spent = λ e. absurd (omega arith);
      } in
      let theirs : Fits b term r.history r.drawn r.holder owner other y = record {
        same_base = λ l. absurd (omega arith);
        same_term = λ l. absurd (omega arith);
        answers = (r.history, refl, none_own-none r.history, λ n h. off (sym h));
        rejoined = λ k p e. absurd (some-ne-none p (sym e));
        range_owned = λ n l u. absurd (omega arith);
        range_unused = λ n l u. refl;
        drew = λ t e. no_ticket t e;
        waits = λ t e _. no_ticket t e;
        on_turn = λ e. off (sym e);
        spent = λ _. (refl, refl, refl);
      } in
      record {
        history = r.history;
        drawn = r.drawn;
        home = r.home;
        holder = r.holder;
        owner = owner;
        small = r.small;
        words_are = r.words_are;
        homes_are = r.homes_are;
        just = r.just;
        short = r.short;
        behind = r.behind;
        each_seat = seats_stay (Fits b term r.history r.drawn r.holder owner) l1 other y theirs
            (λ j u ne found. seats_stay (λ i z. i ≢ other → Fits b term r.history r.drawn r.holder owner i z) s.views id x (λ _. mine)
            (λ j u _ found ne. let h = r.each_seat j u found in record {
              same_base = h.same_base;
              same_term = h.same_term;
              answers = (h.answers.0, h.answers.1, h.answers.2, λ n k. stay j ne n (h.answers.3 n k));
              rejoined = λ k p e. let a = h.rejoined k p e in (a.0, a.1, a.2, λ n i. stay j ne n (a.3 n i));
              range_owned = λ n l i. stay j ne n (h.range_owned n l i);
              range_unused = h.range_unused;
              drew = h.drew;
              waits = h.waits;
              on_turn = h.on_turn;
              spent = h.spent;
            })
            j u found ne);
        waiting = λ t l u k. still_waiting base entries room lawful b term l1 other w y r.holder t there_set (λ e. let a = above_w t e in absurd (omega arith))
            (still_waiting base entries room lawful b term s.views id v x r.holder t at (λ e. let a = above_v t e in absurd (omega arith)) (r.waiting t l u k));
        answered = each-map _ _ (λ e h. dite (ℕ_discrete (r.owner e.pass) other)
            (λ o. (
              x,
              subst (λ i. get_elem? (set l1 other y) i ≡ some x) (sym (from_other e.pass o)) (set_else l1 other id y (λ i. apart (sym i)) ∙ set_at s.views id v x at),
              has-append v.numbers w.numbers e.pass ∙ or_right (has v.numbers e.pass) (has w.numbers e.pass)
                  (ap (λ (k : K). has k.numbers e.pass) (same_at s.views other w h.0 there (subst (λ i. get_elem? s.views i ≡ some h.0) o h.1)) ∙ h.2),
            ))
            (λ o. let q = still_two s.views id other v w x y (r.owner e.pass) (λ (k : K). has k.numbers e.pass ≡ true) at apart there o
            (λ k. has-append v.numbers w.numbers e.pass ∙ or_left (has v.numbers e.pass) (has w.numbers e.pass) k) h in
            (q.0, subst (λ i. get_elem? (set l1 other y) i ≡ some q.0) (sym (joined_owner-else id other r.owner e.pass o)) q.1, q.2))) r.history r.answered;
        whole = let h = total_set (λ (v : K). v.parts) s.views id v x at in let k = total_set (λ (v : K). v.parts) l1 other w y there_set in let o = r.whole in omega arith;
        marks = let h = total_set (marked term) s.views id v x at in let k = total_set (marked term) l1 other w y there_set in let o = r.marks in
            let m = mark_sum term v.parts w.parts v.ticket w.ticket above_v above_w in omega arith;
        rests = still_rests there r.home r.rests;
      }
    where
      still_rests : get_elem? s.views other ≡ some w → (h : maybe.Option V) → Rests base entries room b term r.history s.views h → Rests base entries room b term r.history (set (set s.views id (both v w)) other (nobody nowhere)) h
      still_rests there none (j, u, found, turn) =
          let ne : j ≢ id = λ (e : j ≡ id). off (sym turn ∙ (ap (λ (k : K). k.turn) (sym (same_at s.views id v u at (subst (λ k. get_elem? s.views k ≡ some u) e found))) ∙ rv.no_turn)) in
          let ne' : j ≢ other = λ (e : j ≡ other). off (sym turn ∙ (ap (λ (k : K). k.turn) (sym (same_at s.views other w u there (subst (λ k. get_elem? s.views k ≡ some u) e found))) ∙ rw'.no_turn)) in
          (j, u, set_else (set s.views id (both v w)) other j (nobody nowhere) ne' ∙ (set_else s.views id j (both v w) ne ∙ found), turn)
      still_rests there (some x) h = h

  pub recalls : (slots id : ℕ) (m : M) → Allows Rule slots id m 1 (λ n. n) (recalled (step slots 1 0 0 none) m)
  recalls slots id m s r _ at _ = let f = r.each_seat id m.0 at in let w : K = without_parts m.0 in let there = served_at base entries room lawful b term s r in (
    w,
    keeps,
    tt,
    record {
      history = r.history;
      drawn = r.drawn;
      home = r.home;
      holder = r.holder;
      owner = r.owner;
      small = r.small;
      words_are = ap (set s.words 1) there ∙ ap (λ ws. set ws 1 (length r.history)) r.words_are;
      homes_are = r.homes_are;
      just = r.just;
      short = r.short;
      behind = r.behind;
      each_seat = seats_stay (Fits b term r.history r.drawn r.holder r.owner) s.views id w
          record {
            same_base = f.same_base;
            same_term = f.same_term;
            answers = f.answers;
            rejoined = λ k p e. absurd (some-ne-none p (sym e));
            range_owned = f.range_owned;
            range_unused = f.range_unused;
            drew = f.drew;
            waits = f.waits;
            on_turn = f.on_turn;
            spent = f.spent;
          }
          (λ j u ne found. r.each_seat j u found);
      waiting = λ t l u k. let o = r.waiting t l u k in dite (ℕ_discrete (r.holder t) id)
          (λ e. (
            w,
            subst (λ (i : ℕ). get_elem? (set s.views id w) i ≡ some w) (sym e) (set_at s.views id m.0 w at),
            ap (λ (k : K). k.ticket) (same_at s.views id m.0 o.0 at (subst (λ i. get_elem? s.views i ≡ some o.0) e o.1)) ∙ o.2,
          ))
          (λ ne. (o.0, set_else s.views id (r.holder t) w ne ∙ o.1, o.2));
      answered = each-map _ _ (λ e. still_answered base entries room lawful b term s.views id m.0 w r.owner at refl e.pass) r.history r.answered;
      whole = let h = total_set (λ (v : K). v.parts) s.views id m.0 w at in let o = r.whole in omega arith;
      marks = let h = total_set (marked term) s.views id m.0 w at in let o = r.marks in omega arith;
      rests = still_rests r.home r.rests;
    },
    (
      refl,
      λ k p e short. let a = f.rejoined k p e in let q = between p.seen a.0 m.0.seen f.answers.0 (sym a.1 ∙ f.answers.1) short in record {
        begins = (q.0, q.1);
        same_own = λ n h. ap (own (n ∷ [])) q.1 ∙ own-later (n ∷ []) p.seen q.0 (none_own-number p.numbers n q.0 h (none_own-front p.numbers q.0 f.answers.0 (ap (none_own p.numbers) (sym q.2) ∙ a.2)));
      },
    ),
  )
    where
      still_rests : (h : maybe.Option V) → Rests base entries room b term r.history s.views h → Rests base entries room b term r.history (set s.views id (without_parts m.0)) h
      still_rests none (j, u, found, turn) = dite (ℕ_discrete j id)
          (λ e. (id, without_parts m.0, set_at s.views id m.0 (without_parts m.0) at, ap (λ (k : K). k.turn) (same_at s.views id m.0 u at (subst (λ i. get_elem? s.views i ≡ some u) e found)) ∙ turn))
          (λ ne. (j, u, set_else s.views id j (without_parts m.0) ne ∙ found, turn))
      still_rests (some x) h = h

  -- the value that comes out at the end
  pub record Closes (v : K) (x : V) : Type 0 where
    pub base_is : base x ≡ v.base
    pub entries_are : entries x ≡ v.seen
    pub just : lawful v.base v.seen
    pub all_own : own v.numbers v.seen ≡ v.seen
    pub full : (t : ℕ) → v.ticket ≡ Some t → length v.seen ≡ v.term

  alone : (s : St) (r : Rule s) (id : ℕ) (v : K) → get_elem? s.views id ≡ some v → v.parts ≡ 2 ^ 32 → (j : ℕ) (u : K) → get_elem? s.views j ≡ some u → j ≢ id → u.parts ≡ 0
  alone s r id v at all j u there ne = let h = total_rest (λ (k : K). k.parts) s.views id j v u at there ne in let w = r.whole in omega arith

  pub closes : (slots : List V) (words : List ℕ) (id : ℕ) (v : K) → v.parts ≡ 2 ^ 32 → Resting v → Final (Seen Rule id v) words slots → (x : V) × (get_elem? slots 0 ≡ some x) × Closes v x
  closes slots words id v all rest (s, seen, _, _, values) =
      let r = seen.0 in
      let at = seen.1 in
      let f = r.each_seat id v at in
      let live = rest.live in
      let same_term : v.term ≡ term = f.same_term live in
      let above : (t : ℕ) → v.ticket ≡ Some t → term ≤ t = λ t e. let a = rest.above t e in omega arith in
      let others : (j : ℕ) (u : K) → get_elem? s.views j ≡ some u → j ≢ id → u.parts ≡ 0 = alone s r id v at all in
      let found = whole_home r.history s.views (λ j u there turn. dite (ℕ_discrete j id)
      (λ e. off (sym turn ∙ (sym (ap (λ (k : K). k.turn) (same_at s.views id v u at (subst (λ k. get_elem? s.views k ≡ some u) e there))) ∙ rest.no_turn)))
      (λ ne. let o = (r.each_seat j u there).spent (others j u there ne) in off (sym turn ∙ o.2))) r.home r.rests in
      let x = found.0 in
      let owned : Each (λ e. has v.numbers e.pass ≡ true) r.history = each-map _ _ (λ e (h : (u : K) × (get_elem? s.views (r.owner e.pass) ≡ some u) × (has u.numbers e.pass ≡ true)). dite (ℕ_discrete (r.owner e.pass) id)
      (λ i. ap (λ (k : K). has k.numbers e.pass) (same_at s.views id v h.0 at (subst (λ k. get_elem? s.views k ≡ some h.0) i h.1)) ∙ h.2)
      (λ ne. let o = (r.each_seat (r.owner e.pass) h.0 h.1).spent (others (r.owner e.pass) h.0 h.1 ne) in off (sym h.2 ∙ ap (λ ns. has ns e.pass) o.0))) r.history r.answered in
      let none_later : f.answers.0 ≡ [] = all_and_none v.numbers f.answers.0 (each-back _ v.seen f.answers.0 (subst (Each (λ e. has v.numbers e.pass ≡ true)) f.answers.1 owned)) f.answers.2 in
      let whole : r.history ≡ v.seen = f.answers.1 ∙ (ap (λ (l : List (Entry C A)). v.seen ++ l) none_later ∙ append-nil v.seen) in (
        x,
        values 0 x (ap (λ hs. get_elem? hs 0) r.homes_are ∙ ap (λ h. get_elem? (h ∷ []) 0) found.1),
        record {
          base_is = found.2.base_is ∙ sym (f.same_base live);
          entries_are = found.2.entries_are ∙ whole;
          just = let P : B × List (Entry C A) → Type 0 = λ p. lawful p.0 p.1 in subst P (λ i. (sym (f.same_base live) i, whole i)) r.just;
          all_own = own-all v.numbers v.seen (subst (Each (λ e. has v.numbers e.pass ≡ true)) whole owned);
          full = λ t e. let a = above t e in let d = f.drew t e in let k = r.short in ap length (sym whole) ∙ ((dite (ℕ_discrete (length r.history) term) (λ i. i)
              (λ ne. let o = r.waiting (length r.history) (le_refl (length r.history)) (omega arith) (omega arith) in dite (ℕ_discrete (r.holder (length r.history)) id)
              (λ i. let q = above (length r.history) (ap (λ (k : K). k.ticket) (same_at s.views id v o.0 at (subst (λ k. get_elem? s.views k ≡ some o.0) i o.1)) ∙ o.2) in absurd (omega arith))
              (λ ne'. let q = (r.each_seat (r.holder (length r.history)) o.0 o.1).spent (others (r.holder (length r.history)) o.0 o.1 ne') in no_ticket (length r.history) (sym q.1 ∙ o.2)))) ∙ sym same_term);
        },
      )
    where
      whole_home : (history : List (Entry C A)) (views : List K) → ((j : ℕ) (u : K) → get_elem? views j ≡ some u → u.turn ≡ true → ⊥) → (h : maybe.Option V) → Rests base entries room b term history views h
          → (x : V) × (h ≡ some x) × Stands base entries room b term history x
      whole_home history views nobody_has none (j, u, there, turn) = absurd (nobody_has j u there turn)
      whole_home history views nobody_has (some x) h = (x, refl, h)

  pub splits_as : (id : ℕ) (v k : K) → k ≡ v → Resting v → 2 ≤ v.spare → v.spare ≤ v.parts → Splits Rule id k (left_half k) (right_half k)
  splits_as id v k is rest wide enough = subst (λ (z : K). Splits Rule id z (left_half z) (right_half z)) (sym is) (splits id v rest wide enough)

  pub joins_as : (id : ℕ) (v k : K) (other : ℕ) (w l : K) (nowhere : B) → k ≡ v → l ≡ w → Resting v → Resting w → Joins Rule id k other l (both k l) (nobody nowhere)
  joins_as id v k other w l nowhere is is' rv rw' = subst (λ (z : K × K). Joins Rule id z.0 other z.1 (both z.0 z.1) (nobody nowhere)) (λ i. (sym is i, sym is' i)) (joins id v other w nowhere rv rw')

  pub closes_as : (slots : List V) (words : List ℕ) (id : ℕ) (v k : K) → k ≡ v → v.parts ≡ 2 ^ 32 → Resting v → Final (Seen Rule id k) words slots → (x : V) × (get_elem? slots 0 ≡ some x) × Closes v x
  closes_as slots words id v k is all rest final = closes slots words id v all rest (subst (λ (z : K). Final (Seen Rule id z) words slots) is final)

  pub closes_value : (slots : List V) (words : List ℕ) (id : ℕ) (v k : K) → k ≡ v → v.parts ≡ 2 ^ 32 → Resting v → Final (Seen Rule id k) words slots → (o : V) → get_elem? slots 0 ≡ some o → Closes v o
  closes_value slots words id v k is all rest final o found = let out = closes_as slots words id v k is all rest final in subst (Closes v) (some-injective out.0 o (sym out.1 ∙ found)) out.2
