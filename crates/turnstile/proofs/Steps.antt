-- Each step of the desk keeps its rule.
use Rattle.std.proofs.Common.{◌≡◌, ◌≢◌, ℕ, zero, suc, ◌+◌, ◌%◌, ◌^◌, ◌<◌, ◌≤◌, eqb, List, [], ◌∷◌, ◌++◌, length, set, Bool, true, false, cond, Option, Some, None, refl, sym, ap, ◌∙◌, subst, arith, append_assoc, append-nil, length-append, le_refl, eq-eqb, ne_eqb, true≢false}
use Rattle.std.specs.Prelude.{◌||◌, nat_lt, slice_index}
use Rattle.std.proofs.lemmas.Bool.{lt-ltb, le-ltb, false_from_ne_true}
use Rattle.std.proofs.lemmas.Option.{same_Some}
use mathlib.Core.Logic.{dite}
use mathlib.Core.Option.{some, none, some-ne-none, some-injective}
use mathlib.Core.Option as maybe
use native.Mathlib.Decide.{ℕ_discrete, dec_lt}
use lib.ListN.{get_elem?}
use Rattle.atomic_table.specs.Table.{State, Me, Act, Valid, step, keeps, takes, gives, put_back, rest, carried_after, stepped, opening, Allows}
use Rattle.atomic_table.proofs.Lists.{set_again, set_else}
use Rattle.turnstile.specs.declared.entry.Entry.{Entry}
use Rattle.turnstile.specs.declared.view.SeatView.{SeatView}
use Rattle.turnstile.specs.History.{has, own, Each, total}
use Rattle.turnstile.specs.Rule.{Answers, mark_of, marked, Fits, Stands, Rests, DeskRule}
use Rattle.turnstile.specs.Steps.{opener, with_ticket, at_turn, after_turn, drew, looked, served}
use Rattle.turnstile.proofs.Histories.{none_own-append, none_own-one, own-later, each-map, each-snoc}
use Rattle.turnstile.proofs.Seats.{set_at, same_at, seats_stay, total_set, total_below}

pub off : {X : Type 0} → true ≡ false → X
off e = absurd (true≢false e)

pub has_parts : (n : ℕ) → (n ≡ 0 → ⊥) → 0 < n
has_parts zero h = absurd (h refl)
has_parts (suc n) h = omega arith

pub no_ticket : {X : Type 0} (a : ℕ) → None ≡ Some a → X
no_ticket a e = absurd (cc)

pub mark_over : (term parts t : ℕ) → term ≤ t → mark_of term parts (Some t) ≡ parts
mark_over term parts t h = ap (λ b. cond b 0 parts) (le-ltb t term h)

pub mark_under : (term parts t : ℕ) → t < term → mark_of term parts (Some t) ≡ 0
mark_under term parts t h = ap (λ b. cond b 0 parts) (lt-ltb t term h)

cond_most : (b : Bool) (n : ℕ) → cond b 0 n ≤ n
cond_most true n = omega arith
cond_most false n = le_refl n

pub mark_most : (term parts : ℕ) (ticket : Option ℕ) → mark_of term parts ticket ≤ parts
mark_most term parts None = omega arith
mark_most term parts (Some t) = cond_most (nat_lt t term) parts

module _ {V C A B : Type 0} (base : V → B) (entries : V → List (Entry C A)) (room : V → ℕ) (lawful : B → List (Entry C A) → Type 0) (b : B) (term : ℕ) where
  abbrev pub K : Type 0
  K = SeatView C A B

  abbrev pub St : Type 0
  St = State V (SeatView C A B)

  abbrev pub M : Type 0
  M = Me V (SeatView C A B)

  abbrev pub Rule : St → Type 0
  Rule = DeskRule base entries room lawful b term

  -- the table at the start
  pub begins : (x : V) → entries x ≡ [] → base x ≡ b → term ≤ room x → term ≤ 65536 → lawful b [] → Rule (opening (0 ∷ 0 ∷ []) (x ∷ []) (opener {C = C} {A = A} b term))
  begins x empty is room_for small just = record {
    history = [];
    drawn = 0;
    home = some x;
    holder = λ _. 0;
    owner = λ _. 0;
    small = small;
    words_are = refl;
    homes_are = refl;
    just = just;
    short = omega arith;
    behind = omega arith;
    each_seat = one;
    waiting = λ t _ l _. absurd (omega arith);
    answered = tt;
    whole = refl;
    marks = omega arith;
    rests = record { base_is = is; entries_are = empty; roomy = room_for };
  }
    where
      first : Fits {C = C} {A = A} b term [] 0 (λ _. 0) (λ _. 0) 0 (opener {C = C} {A = A} b term)
      first = record {
        same_base = λ _. refl;
        same_term = λ _. refl;
        answers = ([], refl, refl, λ n _. refl);
        rejoined = λ k p e. absurd (some-ne-none p (sym e));
        range_owned = λ n _ _. refl;
        range_unused = λ n l _. ap (λ c. c || false) (ne_eqb 0 n (λ e. omega arith));
        drew = λ t e. no_ticket t e;
        waits = λ t e _. no_ticket t e;
        on_turn = λ e. off (sym e);
        spent = λ e. absurd (omega arith);
      }

      one : (j : ℕ) (v : SeatView C A B) → get_elem? (opener {C = C} {A = A} b term ∷ []) j ≡ some v → Fits {C = C} {A = A} b term [] 0 (λ _. 0) (λ _. 0) j v
      one zero v e = subst (Fits {C = C} {A = A} b term [] 0 (λ _. 0) (λ _. 0) 0) (some-injective (opener {C = C} {A = A} b term) v e) first
      one (suc j) v e = absurd (some-ne-none v (sym e))

  -- the seats that wait, after a change of a seat that waited for none of these
  pub still_waiting : (views : List K) (id : ℕ) (v w : K) (holder : ℕ → ℕ) (t : ℕ) → get_elem? views id ≡ some v → (v.ticket ≡ Some t → ⊥) → ((u : K) × (get_elem? views (holder t) ≡ some u) × (u.ticket ≡ Some t))
      → (u : K) × (get_elem? (set views id w) (holder t) ≡ some u) × (u.ticket ≡ Some t)
  still_waiting views id v w holder t at not_mine (u, there, has_it) = dite (ℕ_discrete (holder t) id)
      (λ e. absurd (not_mine (ap (λ (k : K). k.ticket) (same_at views id v u at (subst (λ n. get_elem? views n ≡ some u) e there)) ∙ has_it)))
      (λ ne. (u, set_else views id (holder t) w ne ∙ there, has_it))

  -- each entry's number is still answered for
  pub still_answered : (views : List K) (id : ℕ) (v w : K) (owner : ℕ → ℕ) → get_elem? views id ≡ some v → w.numbers ≡ v.numbers → (n : ℕ) → ((u : K) × (get_elem? views (owner n) ≡ some u) × (has u.numbers n ≡ true))
      → (u : K) × (get_elem? (set views id w) (owner n) ≡ some u) × (has u.numbers n ≡ true)
  still_answered views id v w owner at same n (u, there, has_it) = dite (ℕ_discrete (owner n) id)
      (λ e. (
        w,
        subst (λ k. get_elem? (set views id w) k ≡ some w) (sym e) (set_at views id v w at),
        ap (λ ns. has ns n) (same ∙ ap (λ (k : K). k.numbers) (same_at views id v u at (subst (λ k. get_elem? views k ≡ some u) e there))) ∙ has_it,
      ))
      (λ ne. (u, set_else views id (owner n) w ne ∙ there, has_it))

  pub found_at : (s : St) (r : Rule s) → slice_index s.words 0 ≡ r.drawn
  found_at s r = ap (λ ws. slice_index ws 0) r.words_are

  pub served_at : (s : St) (r : Rule s) → slice_index s.words 1 ≡ length r.history
  served_at s r = ap (λ ws. slice_index ws 1) r.words_are

  marks_below : (s : St) (r : Rule s) → total (marked term) s.views ≤ 2 ^ 32
  marks_below s r = let w : total (λ (v : K). v.parts) s.views ≡ 2 ^ 32 = r.whole in let h = total_below (marked term) (λ (v : K). v.parts) (λ v. mark_most term v.parts v.ticket) s.views in omega arith

  -- the one who drew the ticket d
  drawer : ℕ → ℕ → (ℕ → ℕ) → ℕ → ℕ
  drawer id d holder t = cond (eqb t d) id (holder t)

  drawer_new : (id d : ℕ) (holder : ℕ → ℕ) → drawer id d holder d ≡ id
  unfolding drawer
  drawer_new id d holder = ap (λ c. cond c id (holder d)) (eq-eqb d d refl)

  drawer_old : (id d : ℕ) (holder : ℕ → ℕ) (t : ℕ) → t ≢ d → drawer id d holder t ≡ holder t
  unfolding drawer
  drawer_old id d holder t ne = ap (λ c. cond c id (holder t)) (ne_eqb t d ne)

  draws_at : (id : ℕ) (m : M) → m.0.ticket ≡ None → 0 < m.0.parts → (s : St) (r : Rule s) → get_elem? s.views id ≡ some m.0 → (n : ℕ) → n ≡ r.drawn + 1 → Rule (stepped s 0 n id m.1 (with_ticket m.0 (Some r.drawn)) keeps)
  draws_at id m fresh live s r at n is = let d : ℕ = r.drawn in let w : K = with_ticket m.0 (Some d) in let f = r.each_seat id m.0 at in let behind = r.behind in record {
    history = r.history;
    drawn = d + 1;
    home = r.home;
    holder = drawer id d r.holder;
    owner = r.owner;
    small = r.small;
    words_are = ap (λ ws. set ws 0 n) r.words_are ∙ ap (λ k. k ∷ length r.history ∷ []) is;
    homes_are = r.homes_are;
    just = r.just;
    short = r.short;
    behind = omega arith;
    each_seat = seats_stay (Fits b term r.history (d + 1) (drawer id d r.holder) r.owner) s.views id w
        record {
          same_base = f.same_base;
          same_term = f.same_term;
          answers = f.answers;
          rejoined = f.rejoined;
          range_owned = f.range_owned;
          range_unused = f.range_unused;
          drew = λ t e. let i = same_Some d t e in omega arith;
          waits = λ t e _. let i = same_Some d t e in (omega arith, subst (λ k. drawer id d r.holder k ≡ id) i (drawer_new id d r.holder));
          on_turn = λ e. let o = f.on_turn e in no_ticket (length r.history) (sym fresh ∙ o.0);
          spent = λ e. absurd (omega arith);
        }
        (λ j u ne there. let g = r.each_seat j u there in record {
          same_base = g.same_base;
          same_term = g.same_term;
          answers = g.answers;
          rejoined = g.rejoined;
          range_owned = g.range_owned;
          range_unused = g.range_unused;
          drew = λ t e. let l = g.drew t e in omega arith;
          waits = λ t e l. let o = g.waits t e l in let below = g.drew t e in (o.0, drawer_old id d r.holder t (λ (i : t ≡ d). omega arith) ∙ o.1);
          on_turn = g.on_turn;
          spent = g.spent;
        });
    waiting = λ t l u k. dite (ℕ_discrete t d)
        (λ e. (w, subst (λ (i : ℕ). get_elem? (set s.views id w) i ≡ some w) (sym (ap (drawer id d r.holder) e ∙ drawer_new id d r.holder)) (set_at s.views id m.0 w at), ap Some (sym e)))
        (λ ne. let o = still_waiting s.views id m.0 w r.holder t at (λ e. no_ticket t (sym fresh ∙ e)) (r.waiting t l (omega arith) k) in
        (o.0, subst (λ (i : ℕ). get_elem? (set s.views id w) i ≡ some o.0) (sym (drawer_old id d r.holder t ne)) o.1, o.2));
    answered = each-map _ _ (λ e. still_answered s.views id m.0 w r.owner at refl e.pass) r.history r.answered;
    whole = let h = total_set (λ (v : K). v.parts) s.views id m.0 w at in let o = r.whole in omega arith;
    marks = let h = total_set (marked term) s.views id m.0 w at in let o = r.marks in let z : marked term m.0 ≡ 0 = ap (mark_of term m.0.parts) fresh in dite (dec_lt d term)
        (λ under. omega arith)
        (λ over. let y : marked term w ≡ m.0.parts = mark_over term m.0.parts d (omega arith) in omega arith);
    rests = still_rests r.home r.rests;
  }
    where
      still_rests : (h : maybe.Option V) → Rests base entries room b term r.history s.views h → Rests base entries room b term r.history (set s.views id (with_ticket m.0 (Some r.drawn))) h
      still_rests none (j, u, there, turn) = dite (ℕ_discrete j id)
          (λ e. let i = same_at s.views id m.0 u at (subst (λ k. get_elem? s.views k ≡ some u) e there) in
          let o = (r.each_seat id m.0 at).on_turn (ap (λ (k : K). k.turn) i ∙ turn) in no_ticket (length r.history) (sym fresh ∙ o.0))
          (λ ne. (j, u, set_else s.views id j (with_ticket m.0 (Some r.drawn)) ne ∙ there, turn))
      still_rests (some x) h = h

  pub draws : (slots id : ℕ) (m : M) → m.0.ticket ≡ None → 0 < m.0.parts → Allows Rule slots id m 0 (λ n. (n + 1) % 2 ^ 64) (drew (step slots 0 1 0 none) m)
  draws slots id m fresh live s r _ at _ =
      let P : ℕ → Type 0 = λ n. (w : K) × (a : Act V) × Valid s.homes m.1 a × Rule (stepped s 0 ((n + 1) % 2 ^ 64) id m.1 w a) × drew (step slots 0 1 0 none) m n (w, carried_after m.1 a) in
      subst P (sym (found_at s r)) (with_ticket m.0 (Some r.drawn), keeps, tt, draws_at id m fresh live s r at ((r.drawn + 1) % 2 ^ 64) (small_sum r.drawn (let h = marks_below s r in let o = r.marks in let k = r.small in omega arith)), refl)
    where
      small_sum : (n : ℕ) → n ≤ 65536 + 2 ^ 32 → (n + 1) % 2 ^ 64 ≡ n + 1
      small_sum n h = omega arith

  -- the value, where no pass has the turn
  pub value_home : (history : List (Entry C A)) (views : List K) → ((j : ℕ) (u : K) → get_elem? views j ≡ some u → u.turn ≡ true → ⊥) → (h : maybe.Option V) → Rests base entries room b term history views h
      → (x : V) × (h ≡ some x) × Stands base entries room b term history x
  value_home history views nobody none (j, u, there, turn) = absurd (nobody j u there turn)
  value_home history views nobody (some x) h = (x, refl, h)

  -- one seat at most has the turn
  one_turn_only : (s : St) (r : Rule s) (id t j : ℕ) (v u : K) → get_elem? s.views id ≡ some v → v.ticket ≡ Some t → t ≡ length r.history → get_elem? s.views j ≡ some u → u.turn ≡ true → j ≡ id
  one_turn_only s r id t j v u at has_it is there turn =
      let o = (r.each_seat j u there).on_turn turn in
      let theirs = (r.each_seat j u there).waits (length r.history) o.0 o.1 in
      let mine = (r.each_seat id v at).waits (length r.history) (has_it ∙ ap Some is) o.1 in
      sym theirs.1 ∙ mine.1

  pub no_item : {X : Type 0} (l : List X) (k : ℕ) (p : X) → length l ≡ 0 → get_elem? l k ≡ some p → ⊥
  no_item [] k p e h = some-ne-none p (sym h)
  no_item (x ∷ l) k p e h = absurd (omega arith)

  comes_at : (id t : ℕ) (m : M) (s : St) (r : Rule s) (x : V) → get_elem? s.views id ≡ some m.0 → m.0.ticket ≡ Some t → t < term → length m.0.joined ≡ 0 → t ≡ length r.history → r.home ≡ some x → (n : ℕ) → n ≡ length r.history
      → Rule (stepped s 1 n id m.1 (at_turn m.0 r.history) (takes 0 x))
  comes_at id t m s r x at has_it under plain is home n same = let w : K = at_turn m.0 r.history in let f = r.each_seat id m.0 at in record {
    history = r.history;
    drawn = r.drawn;
    home = none;
    holder = r.holder;
    owner = r.owner;
    small = r.small;
    words_are = ap (λ ws. set ws 1 n) r.words_are ∙ ap (λ k. r.drawn ∷ k ∷ []) same;
    homes_are = ap (λ hs. set hs 0 none) r.homes_are;
    just = r.just;
    short = r.short;
    behind = r.behind;
    each_seat = seats_stay (Fits b term r.history r.drawn r.holder r.owner) s.views id w
        record {
          same_base = f.same_base;
          same_term = f.same_term;
          answers = ([], sym (append-nil r.history), refl, f.answers.3);
          rejoined = λ k p e. absurd (no_item m.0.joined k p plain e);
          range_owned = f.range_owned;
          range_unused = f.range_unused;
          drew = f.drew;
          waits = f.waits;
          on_turn = λ _. (has_it ∙ ap Some is, (let i = is in omega arith), refl);
          spent = λ e. let o = f.spent e in no_ticket t (sym o.1 ∙ has_it);
        }
        (λ j u ne there. r.each_seat j u there);
    waiting = λ t' l u k. let o = r.waiting t' l u k in dite (ℕ_discrete (r.holder t') id)
        (λ e. (
          w,
          subst (λ (i : ℕ). get_elem? (set s.views id w) i ≡ some w) (sym e) (set_at s.views id m.0 w at),
          ap (λ (k : K). k.ticket) (same_at s.views id m.0 o.0 at (subst (λ i. get_elem? s.views i ≡ some o.0) e o.1)) ∙ o.2,
        ))
        (λ ne. (o.0, set_else s.views id (r.holder t') w ne ∙ o.1, o.2));
    answered = each-map _ _ (λ e. still_answered s.views id m.0 w r.owner at refl e.pass) r.history r.answered;
    whole = let h = total_set (λ (v : K). v.parts) s.views id m.0 w at in let o = r.whole in omega arith;
    marks = let h = total_set (marked term) s.views id m.0 w at in let o = r.marks in omega arith;
    rests = (id, w, set_at s.views id m.0 w at, refl);
  }

  -- a step that changes nothing
  pub stays_at : (i id : ℕ) (m : M) (s : St) (r : Rule s) → get_elem? s.views id ≡ some m.0 → (n : ℕ) → n ≡ slice_index s.words i → set s.words i n ≡ s.words → Rule (stepped s i n id m.1 m.0 keeps)
  stays_at i id m s r at n is same = let P : List ℕ × List K → Type 0 = λ p. Rule record { words = p.0; homes = s.homes; views = p.1 } in
      subst P (λ k. (sym same k, sym (set_again s.views id m.0 at) k)) r

  pub looks : (slots id t : ℕ) (m : M) → m.0.ticket ≡ Some t → t < m.0.term → m.0.turn ≡ false → length m.0.joined ≡ 0
      → Allows Rule slots id m 1 (λ n. n) (looked base entries room lawful (step slots 1 0 0 none) m)
  looks slots id t m has_it under before plain s r _ at _ =
      let P : ℕ → Type 0 = λ n. (w : K) × (a : Act V) × Valid s.homes m.1 a × Rule (stepped s 1 n id m.1 w a) × looked base entries room lawful (step slots 1 0 0 none) m n (w, carried_after m.1 a) in
      let f = r.each_seat id m.0 at in
      let live = has_parts m.0.parts (λ e. let o = f.spent e in no_ticket t (sym o.1 ∙ has_it)) in
      let under' : t < term = let e = f.same_term live in omega arith in
      subst P (sym (served_at s r)) (dite (ℕ_discrete t (length r.history))
      (λ is.
      let found = value_home r.history s.views (λ j u there turn.
      let mine = one_turn_only s r id t j m.0 u at has_it is there turn in
      let same = same_at s.views id m.0 u at (subst (λ k. get_elem? s.views k ≡ some u) mine there) in
      off (sym turn ∙ (sym (ap (λ (k : K). k.turn) same) ∙ before))) r.home r.rests in
      let x = found.0 in (
        at_turn m.0 r.history,
        takes 0 x,
        ap (λ hs. get_elem? hs 0) (r.homes_are ∙ ap (λ h. h ∷ []) found.1),
        comes_at id t m s r x at has_it under' plain is found.1 (length r.history) refl,
        (
          (λ _. record {
            value = x;
            history = r.history;
            is = refl;
            stands = record { base_is = found.2.base_is ∙ sym (f.same_base live); entries_are = found.2.entries_are; roomy = (let e = f.same_term live in let o = found.2.roomy in omega arith) };
            just = subst (λ c. lawful c r.history) (sym (f.same_base live)) r.just;
            place = refl;
            begins = (f.answers.0, f.answers.1);
            same_own = ap (own m.0.numbers) f.answers.1 ∙ own-later m.0.numbers m.0.seen f.answers.0 f.answers.2;
          }),
          (λ ne. absurd (ne (has_it ∙ ap Some is))),
        ),
      ))
      (λ ne. (
        m.0,
        keeps,
        tt,
        stays_at 1 id m s r at (length r.history) (sym (served_at s r)) (ap (λ ws. set ws 1 (length r.history)) r.words_are ∙ sym r.words_are),
        ((λ e. absurd (ne (same_Some t (length r.history) (sym has_it ∙ e)))), (λ _. refl)),
      )))

  serves_at : (id t : ℕ) (m : M) (s : St) (r : Rule s) (x : V) (e : Entry C A) → get_elem? s.views id ≡ some m.0 → m.0.ticket ≡ Some t → m.0.turn ≡ true → length m.0.joined ≡ 0 → has m.0.numbers e.pass ≡ true
      → entries x ≡ m.0.seen ++ e ∷ [] → base x ≡ m.0.base → m.0.term ≤ room x → lawful m.0.base (entries x) → m.1 ≡ (0, x) ∷ rest m.1 → (n : ℕ) → n ≡ t + 1
      → Rule (stepped s 1 n id m.1 (after_turn m.0 (entries x)) gives)
  serves_at id t m s r x e at has_it turn plain mine grew same_base room_for just out n is =
      let w : K = after_turn m.0 (entries x) in
      let f = r.each_seat id m.0 at in
      let o = f.on_turn turn in
      let live = has_parts m.0.parts (λ e. let o = f.spent e in no_ticket t (sym o.1 ∙ has_it)) in
      let history : List (Entry C A) = entries x in
      let here : t ≡ length r.history = same_Some t (length r.history) (sym has_it ∙ o.0) in
      let longer : history ≡ r.history ++ e ∷ [] = grew ∙ ap (λ (es : List (Entry C A)). es ++ e ∷ []) o.2 in
      let long : length history ≡ t + 1 = ap length longer ∙ (length-append r.history (e ∷ []) ∙ ap (λ k. k + 1) (sym here)) in
      let under : t < term = let l = o.1 in omega arith in
      let drawn : t < r.drawn = f.drew t has_it in
      let its : r.owner e.pass ≡ id = f.answers.3 e.pass mine in
      record {
        history = history;
        drawn = r.drawn;
        home = some x;
        holder = r.holder;
        owner = r.owner;
        small = r.small;
        words_are = ap (λ ws. set ws 1 n) r.words_are ∙ ap (λ k. r.drawn ∷ k ∷ []) (is ∙ sym long);
        homes_are = ap (put_back s.homes) out ∙ ap (λ hs. set hs 0 (some x)) r.homes_are;
        just = subst (λ c. lawful c history) (f.same_base live) just;
        short = omega arith;
        behind = omega arith;
        each_seat = seats_stay (Fits b term history r.drawn r.holder r.owner) s.views id w
            record {
              same_base = f.same_base;
              same_term = f.same_term;
              answers = ([], sym (append-nil history), refl, f.answers.3);
              rejoined = λ k p e. absurd (no_item m.0.joined k p plain e);
              range_owned = f.range_owned;
              range_unused = f.range_unused;
              drew = λ t e. no_ticket t e;
              waits = λ t e _. no_ticket t e;
              on_turn = λ e. off (sym e);
              spent = λ e. let p = f.spent e in no_ticket t (sym p.1 ∙ has_it);
            }
            (λ j u ne there.
            let g = r.each_seat j u there in
            let not_theirs : (ns : List ℕ) → ((k : ℕ) → has ns k ≡ true → r.owner k ≡ j) → has ns e.pass ≡ false = λ ns owns. false_from_ne_true (has ns e.pass) (λ h. ne (sym (owns e.pass h) ∙ its)) in
            let more : (ns : List ℕ) (seen : List (Entry C A)) → Answers r.history r.owner j ns seen → Answers history r.owner j ns seen
            = λ ns seen a. (a.0 ++ e ∷ [], longer ∙ (ap (λ (es : List (Entry C A)). es ++ e ∷ []) a.1 ∙ append_assoc seen a.0 (e ∷ [])), none_own-append ns a.0 (e ∷ []) a.2 (none_own-one ns e (not_theirs ns a.3)), a.3) in
            record {
              same_base = g.same_base;
              same_term = g.same_term;
              answers = more u.numbers u.seen g.answers;
              rejoined = λ k p there'. more p.numbers p.seen (g.rejoined k p there');
              range_owned = g.range_owned;
              range_unused = g.range_unused;
              drew = g.drew;
              waits = λ t' has' under'. let a = g.waits t' has' under' in let mine' = f.waits t has_it under in
                  let apart' : t' ≢ t = λ (same : t' ≡ t). ne (sym a.1 ∙ (ap r.holder same ∙ mine'.1)) in (omega arith, a.1);
              on_turn = λ turn'. absurd (ne (one_turn_only s r id t j m.0 u at has_it here there turn'));
              spent = g.spent;
            });
        waiting = λ t' l u k. still_waiting s.views id m.0 w r.holder t' at (λ e'. let same = same_Some t t' (sym has_it ∙ e') in absurd (omega arith)) (r.waiting t' (omega arith) u k);
        answered = subst (λ (es : List (Entry C A)). Each (λ e. (v : K) × (get_elem? (set s.views id w) (r.owner e.pass) ≡ some v) × (has v.numbers e.pass ≡ true)) es) (sym longer)
            (each-snoc _ r.history e (each-map _ _ (λ e. still_answered s.views id m.0 w r.owner at refl e.pass) r.history r.answered)
            (w, subst (λ (i : ℕ). get_elem? (set s.views id w) i ≡ some w) (sym its) (set_at s.views id m.0 w at), mine));
        whole = let h = total_set (λ (v : K). v.parts) s.views id m.0 w at in let a = r.whole in omega arith;
        marks = let h = total_set (marked term) s.views id m.0 w at in let a = r.marks in
            let z : marked term m.0 ≡ 0 = ap (mark_of term m.0.parts) has_it ∙ mark_under term m.0.parts t under in omega arith;
        rests = record { base_is = same_base ∙ f.same_base live; entries_are = refl; roomy = (let a = f.same_term live in omega arith) };
      }

  pub serves : (slots id t : ℕ) (m : M) (x : V) (e : Entry C A) → m.0.ticket ≡ Some t → m.0.turn ≡ true → length m.0.joined ≡ 0 → has m.0.numbers e.pass ≡ true
      → entries x ≡ m.0.seen ++ e ∷ [] → base x ≡ m.0.base → m.0.term ≤ room x → lawful m.0.base (entries x) → m.1 ≡ (0, x) ∷ rest m.1
      → Allows Rule slots id m 1 (λ _. t + 1) (λ _. served entries (step slots 1 (t + 1) 0 none) m (t + 1))
  serves slots id t m x e has_it turn plain mine grew same_base room_for just out s r _ at _ = (
    after_turn m.0 (entries x),
    gives,
    tt,
    serves_at id t m s r x e at has_it turn plain mine grew same_base room_for just out (t + 1) refl,
    λ y out'. ap (λ (z : V). (after_turn m.0 (entries z), rest m.1)) (one_value x y (rest m.1) (sym out ∙ out')),
  )
    where
      one_value : (x y : V) (l : List (ℕ × V)) → (0, x) ∷ l ≡ (0, y) ∷ l → x ≡ y
      one_value x y l h = let a : ℕ × V = (0, x) in let b' : ℕ × V = (0, y) in let p : a ≡ b' = cc in ap (λ (z : ℕ × V). z.1) p
