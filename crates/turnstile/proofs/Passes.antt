-- What a pass says of its view.
use Rattle.std.proofs.Common.{◌≡◌, ℕ, ◌+◌, ◌^◌, ◌<◌, ◌≤◌, List, [], ◌∷◌, length, cond, Some, refl, sym, ap, ◌∙◌, subst, arith, le_refl}
use Rattle.std.proofs.lemmas.Bool.{lt-ltb, le-ltb, or_left}
use mathlib.Core.Logic.{dite}
use mathlib.Core.Option.{some, none}
use lib.ListN.{get_elem?}
use Rattle.turnstile.specs.declared.entry.Entry.{Entry}
use native.Mathlib.Decide.{dec_lt}
use Rattle.turnstile.specs.declared.view.Part.{Part}
use Rattle.turnstile.specs.declared.view.SeatView.{SeatView}
use Rattle.turnstile.specs.declared.pass.Pass.TheInside.{Inside}
use Rattle.turnstile.specs.Known.{Known}
use Rattle.turnstile.specs.History.{has}
use Rattle.turnstile.specs.Rule.{DeskRule}
use Rattle.turnstile.specs.Known.{longer, own_entries, Joined, Remembers, SameRights, Standing}
use Rattle.turnstile.specs.Passes.{known_of, known, AtRest}
use Rattle.turnstile.specs.Steps.{part_of, both, without_parts, Holds, recalled}
use Rattle.atomic_table.specs.Table.{Me, step, Final, Seen}
use Rattle.atomic_table.specs.Seated.{TableId}
use Rattle.turnstile.proofs.Histories.{has-append}
use Rattle.turnstile.proofs.Sharing.{Resting, above_either, closes_value}

module _ {C A B : Type 0} where
  pub resting : (p : Inside C A B) → AtRest p → Resting p.seat.me.0
  resting p rest = record {
    no_turn = rest.no_turn;
    plain = ap length rest.no_parts;
    live = let a = rest.standing.some_spare in let b = rest.standing.enough_parts in omega arith;
    above = rest.standing.beyond;
  }

  pub same_rights_on : (a b c : Known C A B) → SameRights a b → SameRights b c → SameRights a c
  same_rights_on a b c first second = record {
    desk = second.desk ∙ first.desk;
    base = second.base ∙ first.base;
    number = second.number ∙ first.number;
    spare = second.spare ∙ first.spare;
    numbers = second.numbers ∙ first.numbers;
    parts = second.parts ∙ first.parts;
  }

module _ {X : Type 0} where
  pub longer_left : (xs ys : List X) → length xs ≤ length (longer xs ys)
  longer_left xs ys = dite (dec_lt (length xs) (length ys))
      (λ (y : length xs < length ys). subst (λ c. length xs ≤ length (cond c ys xs)) (sym (lt-ltb (length xs) (length ys) y)) (omega arith))
      (λ n. let h : length ys ≤ length xs = omega arith in subst (λ c. length xs ≤ length (cond c ys xs)) (sym (le-ltb (length xs) (length ys) h)) (le_refl (length xs)))

  pub longer_right : (xs ys : List X) → length ys ≤ length (longer xs ys)
  longer_right xs ys = dite (dec_lt (length xs) (length ys))
      (λ (y : length xs < length ys). subst (λ c. length ys ≤ length (cond c ys xs)) (sym (lt-ltb (length xs) (length ys) y)) (le_refl (length ys)))
      (λ n. let h : length ys ≤ length xs = omega arith in subst (λ c. length ys ≤ length (cond c ys xs)) (sym (le-ltb (length xs) (length ys) h)) h)

module _ {C A B : Type 0} where
  remembers : (table : TableId) (v : SeatView C A B) (seen : List (Entry C A)) → Holds seen (part_of v) → Remembers seen (known_of table v)
  remembers table v seen h = record { begins = h.begins; same_own = h.same_own }

module _ {V C A B : Type 0} where
  pub joined_from : (table other table' : TableId) (v w u : SeatView C A B) (m m' : Me V (SeatView C A B)) → table' ≡ table → m.0 ≡ both v w → recalled (step 0 0 0 0 none) m 0 m' → u ≡ m'.0
      → Joined (known_of table v) (known_of other w) (known_of table' u)
  joined_from table other table' v w u m m' same_table is (after, facts) now =
      let u_is : u ≡ without_parts (both v w) = now ∙ (ap (λ (k : Me V (SeatView C A B)). k.0) after ∙ ap without_parts is) in
      let held : (k : ℕ) (p : Part C A) → get_elem? (part_of v ∷ part_of w ∷ []) k ≡ some p → length p.seen ≤ length (longer v.seen w.seen) → Holds (longer v.seen w.seen) p
      = subst (λ (z : SeatView C A B). (k : ℕ) (p : Part C A) → get_elem? z.joined k ≡ some p → length p.seen ≤ length z.seen → Holds z.seen p) is facts in
      let seen : longer v.seen w.seen ≡ u.seen = sym (ap (λ (k : SeatView C A B). k.seen) u_is) in
      record {
        is = λ i. known_of (same_table i) (u_is i);
        of_first = subst (λ (l : List (Entry C A)). Remembers l (known_of table v)) seen (remembers table v (longer v.seen w.seen) (held 0 (part_of v) refl (longer_left v.seen w.seen)));
        of_second = subst (λ (l : List (Entry C A)). Remembers l (known_of other w)) seen (remembers other w (longer v.seen w.seen) (held 1 (part_of w) refl (longer_right v.seen w.seen)));
      }

  pub joined_known : (p q : Inside C A B) (first second : Known C A B) (table' : TableId) (u : SeatView C A B) (m m' : Me V (SeatView C A B)) → known p ≡ first → known q ≡ second → table' ≡ p.seat.table_id
      → m.0 ≡ both p.seat.me.0 q.seat.me.0 → recalled (step 0 0 0 0 none) m 0 m' → u ≡ m'.0 → Joined first second (known_of table' u)
  joined_known p q first second table' u m m' first_is second_is same_table is recall now =
      subst (λ (z : Known C A B × Known C A B). Joined z.0 z.1 (known_of table' u)) (λ i. (first_is i, second_is i))
      (joined_from p.seat.table_id q.seat.table_id table' p.seat.me.0 q.seat.me.0 u m m' same_table is recall now)

module _ {C A B : Type 0} where
  pub join_standing : (table other table' : TableId) (v w u : SeatView C A B) → u ≡ without_parts (both v w) → w.term ≡ v.term → Standing (known_of table v) → Standing (known_of other w) → Standing (known_of table' u)
  join_standing table other table' v w u is same_term first second = record {
    own_number = ap (λ (k : SeatView C A B). has k.numbers k.number) is ∙ (has-append v.numbers w.numbers v.number ∙ or_left (has v.numbers v.number) (has w.numbers v.number) first.own_number);
    some_spare = let e : u.spare ≡ v.spare = ap (λ (k : SeatView C A B). k.spare) is in let a = first.some_spare in omega arith;
    range = let e : u.spare ≡ v.spare = ap (λ (k : SeatView C A B). k.spare) is in let f : u.number ≡ v.number = ap (λ (k : SeatView C A B). k.number) is in let a = first.range in omega arith;
    enough_parts = let e : u.spare ≡ v.spare = ap (λ (k : SeatView C A B). k.spare) is in let f : u.parts ≡ v.parts + w.parts = ap (λ (k : SeatView C A B). k.parts) is in let a = first.enough_parts in omega arith;
    beyond = λ t e. let f : u.term ≡ v.term = ap (λ (k : SeatView C A B). k.term) is in
        let a : v.term ≤ t = above_either v.ticket w.ticket t (sym (ap (λ (k : SeatView C A B). k.ticket) is) ∙ e) first.beyond (λ t' e'. let b : w.term ≤ t' = second.beyond t' e' in omega arith) in omega arith;
  }

module _ {V C A B : Type 0} (base : V → B) (entries : V → List (Entry C A)) (room : V → ℕ) (lawful : B → List (Entry C A) → Type 0) (b : B) (term : ℕ) where
  -- what the closed desk's value is to what was known of the last pass
  pub record Ends (k : Known C A B) (x : V) : Type 0 where
    pub base_is : base x ≡ k.base
    pub entries_are : entries x ≡ k.seen
    pub just : lawful k.base k.seen
    pub all_own : own_entries k ≡ k.seen
    pub full : (t : ℕ) → k.mark ≡ Some t → length k.seen ≡ k.desk.term

  pub ends : (slots : List V) (words : List ℕ) (id : ℕ) (p : Inside C A B) (known_is : Known C A B) (v : SeatView C A B) → known p ≡ known_is → v ≡ p.seat.me.0 → AtRest p → known_is.parts ≡ 2 ^ 32
      → Final (Seen (DeskRule base entries room lawful b term) id v) words slots → (x : V) → get_elem? slots 0 ≡ some x → Ends known_is x
  ends slots words id p known_is v is same rest all final x found =
      let out = closes_value base entries room lawful b term slots words id p.seat.me.0 v same (ap (λ (k : Known C A B). k.parts) is ∙ all) (resting p rest) final x found in
      subst (λ (k : Known C A B). Ends k x) is record { base_is = out.base_is; entries_are = out.entries_are; just = out.just; all_own = out.all_own; full = out.full }
