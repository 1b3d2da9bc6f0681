-- One call, put together from its steps.
use Rattle.std.proofs.Common.{◌≡◌, ℕ, ◌+◌, ◌<◌, List, [], ◌∷◌, ◌++◌, length, true, Option, Some, None, refl, sym, ap, ◌∙◌, subst, arith}
use mathlib.Core.Option.{none}
use Rattle.atomic_table.specs.Table.{Me, step, rest, Allows}
use Rattle.turnstile.specs.declared.entry.Entry.{Entry}
use Rattle.turnstile.specs.declared.view.SeatView.{SeatView}
use Rattle.turnstile.specs.History.{has, StartsWith, own}
use Rattle.turnstile.specs.Entry.{entry_of}
use Rattle.turnstile.specs.Rule.{Stands, DeskRule}
use Rattle.turnstile.specs.Steps.{with_ticket, at_turn, after_turn, Came, served}
use Rattle.turnstile.specs.Known.{Enters}
use Rattle.turnstile.specs.Passes.{known_of}
use Rattle.turnstile.specs.Known.{Known}
use Rattle.atomic_table.specs.Seated.{TableId}
use Rattle.turnstile.proofs.Histories.{own-snoc}
use Rattle.turnstile.proofs.Steps.{serves}

pub heads : {X : Type 0} (a b : X) (l m : List X) → a ∷ l ≡ b ∷ m → a ≡ b
heads a b l m e = cc

pub slot_value : {V : Type 0} (x y : V) (l m : List (ℕ × V)) → (0, x) ∷ l ≡ (0, y) ∷ m → x ≡ y
slot_value {V} x y l m e = ap (λ (z : ℕ × V). z.1) (heads (0, x) (0, y) l m e)

pub held : {V : Type 0} (l m : List (ℕ × V)) (x : ℕ × V) → l ≡ x ∷ m → l ≡ x ∷ rest l
held {V} l m x e = let P : List (ℕ × V) → Type 0 = λ k. k ≡ x ∷ rest k in subst P (sym e) refl

module _ {V C A B : Type 0} (base : V → B) (entries : V → List (Entry C A)) (room : V → ℕ) (lawful : B → List (Entry C A) → Type 0) where
  -- the pass has the turn, and the value in hand
  pub record Mine (v : SeatView C A B) (t : ℕ) (w : SeatView C A B) (x : V) : Type 0 where
    pub history : List (Entry C A)
    pub w_is : w ≡ at_turn (with_ticket v (Some t)) history
    pub stands : Stands base entries room v.base v.term history x
    pub just : lawful v.base history
    pub place : length history ≡ t
    pub begins : StartsWith history v.seen
    pub same_own : own v.numbers history ≡ own v.numbers v.seen

  mine_at : (v : SeatView C A B) (t : ℕ) (m : Me V (SeatView C A B)) (x : V) (came : Came base entries room lawful (with_ticket v (Some t), []) t m) → came.value ≡ x → Mine v t m.0 x
  mine_at v t m x came is = record {
    history = came.history;
    w_is = ap (λ (k : Me V (SeatView C A B)). k.0) came.is;
    stands = subst (Stands base entries room v.base v.term came.history) is came.stands;
    just = came.just;
    place = came.place;
    begins = came.begins;
    same_own = came.same_own;
  }

  slot_held : (v : SeatView C A B) (t : ℕ) (m : Me V (SeatView C A B)) (came : Came base entries room lawful (with_ticket v (Some t), []) t m) → m.1 ≡ (0, came.value) ∷ []
  slot_held v t m came = ap (λ (k : Me V (SeatView C A B)). k.1) came.is

  pub came_with : (v : SeatView C A B) (t : ℕ) (m n : Me V (SeatView C A B)) → m ≡ (with_ticket v (Some t), []) → Came base entries room lawful m t n → Came base entries room lawful (with_ticket v (Some t), []) t n
  came_with v t m n e = subst (λ (k : Me V (SeatView C A B)). Came base entries room lawful k t n) e

  pub may_take : (v : SeatView C A B) (t : ℕ) (m : Me V (SeatView C A B)) → Came base entries room lawful (with_ticket v (Some t), []) t m → (o : V) × (m.1 ≡ (0, o) ∷ rest m.1)
  may_take v t m came = (came.value, held m.1 [] (0, came.value) (slot_held v t m came))

  pub takes_mine : (v : SeatView C A B) (t : ℕ) (m : Me V (SeatView C A B)) (x : V) → Came base entries room lawful (with_ticket v (Some t), []) t m → m.1 ≡ (0, x) ∷ rest m.1 → Mine v t m.0 x × (rest m.1 ≡ [])
  takes_mine v t m x came e = (
    mine_at v t m x came (slot_value came.value x [] (rest m.1) (sym (slot_held v t m came) ∙ e)),
    ap rest (slot_held v t m came),
  )

  pub has_room : (v : SeatView C A B) (t : ℕ) (w : SeatView C A B) (x : V) → Mine v t w x → t < v.term → length (entries x) < room x
  has_room v t w x mine under = let e : length (entries x) ≡ length mine.history = ap length mine.stands.entries_are in let p = mine.place in let r = mine.stands.roomy in omega arith

  pub is_lawful : (v : SeatView C A B) (t : ℕ) (w : SeatView C A B) (x : V) → Mine v t w x → lawful (base x) (entries x)
  is_lawful v t w x mine = let P : B × List (Entry C A) → Type 0 = λ p. lawful p.0 p.1 in subst P (λ i. (sym mine.stands.base_is i, sym mine.stands.entries_are i)) mine.just

  module _ (b : B) (term : ℕ) where
    serves_at : (slots id t : ℕ) (v w : SeatView C A B) (x y : V) (e : Entry C A) → Mine v t w x → length v.joined ≡ 0 → has v.numbers e.pass ≡ true
        → entries y ≡ entries x ++ e ∷ [] → base y ≡ base x → room y ≡ room x → lawful (base y) (entries y)
        → Allows (DeskRule base entries room lawful b term) slots id (w, (0, y) ∷ []) 1 (λ _. t + 1) (λ _. served entries (step slots 1 (t + 1) 0 none) (w, (0, y) ∷ []) (t + 1))
    serves_at slots id t v w x y e mine plain own_pass grew same_base same_room just =
        let k = mine.w_is in
        let is = mine.stands in
        serves base entries room lawful b term slots id t (w, (0, y) ∷ []) y e
        (ap (λ (u : SeatView C A B). u.ticket) k)
        (ap (λ (u : SeatView C A B). u.turn) k)
        (ap (λ (u : SeatView C A B). length u.joined) k ∙ plain)
        (ap (λ (u : SeatView C A B). has u.numbers e.pass) k ∙ own_pass)
        (grew ∙ (ap (λ (es : List (Entry C A)). es ++ e ∷ []) (is.entries_are ∙ sym (ap (λ (u : SeatView C A B). u.seen) k))))
        (same_base ∙ (is.base_is ∙ sym (ap (λ (u : SeatView C A B). u.base) k)))
        (let s : w.term ≡ v.term = ap (λ (u : SeatView C A B). u.term) k in let r = is.roomy in omega arith)
        (subst (λ c. lawful c (entries y)) (same_base ∙ (is.base_is ∙ sym (ap (λ (u : SeatView C A B). u.base) k))) just)
        refl

    pub serves_mine : (slots id t : ℕ) (v w : SeatView C A B) (x y : V) (e : Entry C A) (m : Me V (SeatView C A B)) → m ≡ (w, (0, y) ∷ []) → Mine v t w x → length v.joined ≡ 0 → has v.numbers e.pass ≡ true
        → entries y ≡ entries x ++ e ∷ [] → base y ≡ base x → room y ≡ room x → lawful (base y) (entries y)
        → Allows (DeskRule base entries room lawful b term) slots id m 1 (λ _. t + 1) (λ _. served entries (step slots 1 (t + 1) 0 none) m (t + 1))
    serves_mine slots id t v w x y e m is mine plain own_pass grew same_base same_room just =
        subst (λ (m : Me V (SeatView C A B)). Allows (DeskRule base entries room lawful b term) slots id m 1 (λ _. t + 1) (λ _. served entries (step slots 1 (t + 1) 0 none) m (t + 1))) (sym is)
        (serves_at slots id t v w x y e mine plain own_pass grew same_base same_room just)

  finishes : (table table' : TableId) (v : SeatView C A B) (t : ℕ) (w u : SeatView C A B) (x y : V) (p place : ℕ) (call : C) (reply : A) → table' ≡ table → Mine v t w x → v.ticket ≡ None → t < v.term → v.number ≡ p → has v.numbers p ≡ true
      → entries y ≡ entries x ++ entry_of (length (entries x)) p call reply ∷ [] → place ≡ length (entries x) → base y ≡ base x → lawful (base y) (entries y) → u ≡ after_turn w (entries y)
      → Enters lawful (known_of table v) call reply place (known_of table' u)
  finishes table table' v t w u x y p place call reply same_table mine fresh under number own_pass grew place_is same_base just is =
      let e : ℕ → ℕ → Entry C A = λ k q. entry_of k q call reply in
      let history : List (Entry C A) = mine.history in
      let entry_is : e (length (entries x)) p ≡ e place v.number = λ i. e (sym place_is i) (sym number i) in
      let grown : u.seen ≡ entries y = ap (λ (k : SeatView C A B). k.seen) is in
      let seen : u.seen ≡ history ++ e place v.number ∷ [] = grown ∙ (grew ∙ (λ i. mine.stands.entries_are i ++ entry_is i ∷ [])) in
      let all : u ≡ after_turn v (entries y) = is ∙ ap (λ (k : SeatView C A B). after_turn k (entries y)) mine.w_is in
      let ticket : place ≡ length history = place_is ∙ ap length mine.stands.entries_are in
      let with_seen : List (Entry C A) → Option ℕ → Known C A B = λ s m. record (known_of table v) { seen = s; mark = m } in
      record {
        history = history;
        begins = mine.begins;
        ticket = ticket;
        seen_is = seen;
        within = let q = mine.place in omega arith;
        just = let P : B × List (Entry C A) → Type 0 = λ q. lawful q.0 q.1 in subst P (λ i. ((same_base ∙ mine.stands.base_is) i, sym grown i)) just;
        own_grew = ap (λ (k : SeatView C A B). own k.numbers u.seen) all ∙ (ap (own v.numbers) seen ∙ (own-snoc v.numbers history (e place v.number) (ap (has v.numbers) number ∙ own_pass) ∙ ap (λ (es : List (Entry C A)). es ++ e place v.number ∷ []) mine.same_own));
        no_mark = fresh;
        same = (λ i. known_of (same_table i) (all i)) ∙ (λ i. with_seen (sym grown i) (sym fresh i));
      }

  pub finishes_from : (before : Known C A B) (table table' : TableId) (v : SeatView C A B) (t : ℕ) (w u : SeatView C A B) (x y : V) (p place : ℕ) (call : C) (reply : A) → known_of table v ≡ before → table' ≡ table → Mine v t w x → v.ticket ≡ None → t < v.term
      → v.number ≡ p → has v.numbers p ≡ true → entries y ≡ entries x ++ entry_of (length (entries x)) p call reply ∷ [] → place ≡ length (entries x) → base y ≡ base x → lawful (base y) (entries y) → u ≡ after_turn w (entries y)
      → Enters lawful before call reply place (known_of table' u)
  finishes_from before table table' v t w u x y p place call reply known_is same_table mine fresh under number own_pass grew place_is same_base just is =
      subst (λ (k : Known C A B). Enters lawful k call reply place (known_of table' u)) known_is
      (finishes table table' v t w u x y p place call reply same_table mine fresh under number own_pass grew place_is same_base just is)
