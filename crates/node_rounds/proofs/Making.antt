-- The entries that a part makes, and their places.
use Rattle.std.proofs.Common.{◌≡◌, ℕ, ◌+◌, ◌≤◌, List, [], ◌∷◌, ◌++◌, length, Option, Some, None, Result, Ok, Err, refl, sym, ap, ◌∙◌, subst, append_assoc, append-nil, arith, length-append}
use Rattle.std.specs.Prelude.{map, vec_capacity}
use Rattle.std.specs.Global.{Vec}
use mathlib.Core.List.{map-append}
use Rattle.turnstile.specs.Entry.{entry_of}
use Rattle.turnstile.specs.History.{Each, StartsWith}
use Rattle.turnstile.specs.Known.{Enters, with_mark}
use Rattle.desk_runs.specs.Entered.{At, Entered, Marked, place_of}
use Rattle.desk_runs.proofs.Entering.{at_later, entered_full, entered_more, entered_none, entered_one, marked_full, stands}
use Rattle.machine_calls.specs.declared.call.Call.{Call}
use Rattle.machine_calls.specs.declared.reply.Reply.{Reply}
use Rattle.sat_book.specs.Book.{AreOf}
use Rattle.sat_book.specs.Legal.{E}
use Rattle.sat_book.specs.declared.opening.Origin.{Origin}
use Rattle.sat_sessions.specs.Sessions.{V}
use Rattle.sat_sessions.specs.declared.rounds.RoundEnd.{RoundEnd}
use Rattle.sat_sessions.specs.declared.rounds.RoundEnd.TheVariants as ends
use Rattle.node_rounds.specs.Calls.{AreLawful, IfFull, Makes, Names, Turns}

pub names_none : (v : Vec ℕ) → Names [] v v
names_none v = record { items = sym (append-nil v.items); room = refl }

names_more : (xs ys : List ℕ) (a b c : Vec ℕ) → Names xs a b → Names ys b c → Names (xs ++ ys) a c
names_more xs ys a b c first second = record {
  items = second.items ∙ (ap (λ (l : List ℕ). l ++ ys) first.items ∙ append_assoc a.items xs ys);
  room = second.room ∙ first.room;
}

-- nothing was entered
pub makes_none : {K : Type 0} (k : V K) (went : Option RoundEnd) (places : Vec ℕ) → IfFull k went k → Makes k [] went k places places
makes_none k went places full = record { entered = entered_none k; named = names_none places; lawful = tt; stand = tt; still = λ e. refl; full = full }

-- the term is full
pub makes_full : {K : Type 0} (k : V K) (call : Call) (ticket : ℕ) (k' : V K) (old new : Vec ℕ) → Turns k call (Err ticket) k' old new → Makes k [] (Some (ends.TermFull ticket)) k' old new
makes_full k call ticket k' old new turns = record {
  entered = entered_full k ticket k' turns.0;
  named = turns.2;
  lawful = tt;
  stand = tt;
  still = λ e. ap (λ z. z.seen) turns.0;
  full = (marked_full k ticket k' turns.0, turns.1);
}

-- one call was entered
pub makes_one : {K : Type 0} (k : V K) (call : Call) (reply : Reply) (k' : V K) (old new : Vec ℕ) (went : Option RoundEnd) (turns : Turns k call (Ok reply) k' old new) → IfFull k went k' → Makes k (entry_of turns.0 k.number call reply ∷ []) went k' old new
makes_one k call reply k' old new went turns full = record {
  entered = entered_one AreOf k call reply turns.0 k' turns.1;
  named = turns.2;
  lawful = turns.1.just;
  stand = (stands AreOf k call reply turns.0 k' turns.1, tt);
  still = λ e. absurd (cc);
  full = full;
}

lawful_on : {K : Type 0} (a b : V K) (c : V K) (ys : List E) → Entered a [] b → AreLawful b ys c → AreLawful a ys c
lawful_on a b c [] first second = tt
lawful_on {K} a b c (e ∷ ys) first second = subst (λ (z : Option (Origin K)). AreOf z c.seen) first.rights.base second

full_on : {K : Type 0} (a b c : V K) (xs : List E) (went : Option RoundEnd) → Entered a xs b → IfFull b went c → IfFull a went c
full_on a b c xs None first full = tt
full_on a b c xs (Some ends.Through) first full = tt
full_on a b c xs (Some ends.WordsFault) first full = tt
full_on a b c xs (Some (ends.TermFull ticket)) first full = (full.0, subst (λ n. n ≤ ticket) (ap (λ d. d.term) first.rights.desk) full.1)
full_on a b c xs (Some ends.Stopped) first full = tt
full_on a b c xs (Some ends.NoMemory) first full = tt

-- what was seen is lawful behind the second, where it entered something, and else as it was behind the first
lawful_more : {K : Type 0} (a b c : V K) (xs ys : List E) → Entered a xs b → Entered b ys c → AreLawful a xs b → AreLawful b ys c → (ys ≡ [] → c.seen ≡ b.seen) → AreLawful a (xs ++ ys) c
lawful_more {K} a b c [] ys first second one two same = lawful_on a b c ys first two
lawful_more {K} a b c (x ∷ xs) [] first second one two same = subst (λ (l : List E). AreOf a.base l) (sym (same refl)) one
lawful_more {K} a b c (x ∷ xs) (y ∷ ys) first second one two same = subst (λ (z : Option (Origin K)). AreOf z c.seen) first.rights.base two

stand_later : {K : Type 0} (b c : V K) (xs : List E) → StartsWith c.seen b.seen → Each (λ e. At b.seen e.place e) xs → Each (λ e. At c.seen e.place e) xs
stand_later b c [] begins stand = tt
stand_later b c (x ∷ xs) begins stand = (at_later b.seen c.seen x.place x begins stand.0, stand_later b c xs begins stand.1)

stand_both : {K : Type 0} (xs ys : List E) (c : V K) → Each (λ e. At c.seen e.place e) xs → Each (λ e. At c.seen e.place e) ys → Each (λ e. At c.seen e.place e) (xs ++ ys)
stand_both [] ys c one two = two
stand_both (x ∷ xs) ys c one two = (one.0, stand_both xs ys c one.1 two)

nothing_before : (xs ys : List E) → xs ++ ys ≡ [] → xs ≡ []
nothing_before [] ys e = refl
nothing_before (x ∷ xs) ys e = absurd (cc)

nothing_behind : (xs ys : List E) → xs ++ ys ≡ [] → ys ≡ []
nothing_behind [] ys e = e
nothing_behind (x ∷ xs) ys e = absurd (cc)

pub makes_more : {K : Type 0} (a b c : V K) (xs ys : List E) (between went : Option RoundEnd) (one two three : Vec ℕ) → Makes a xs between b one two → Makes b ys went c two three
    → Makes a (xs ++ ys) went c one three
makes_more a b c xs ys between went one two three first second = record {
  entered = entered_more a b c xs ys first.entered second.entered;
  named = subst (λ (l : List ℕ). Names l one three) (sym (map-append place_of xs ys)) (names_more (map place_of xs) (map place_of ys) one two three first.named second.named);
  lawful = lawful_more a b c xs ys first.entered second.entered first.lawful second.lawful second.still;
  stand = stand_both xs ys c (stand_later b c xs second.entered.begins first.stand) second.stand;
  still = λ e. second.still (nothing_behind xs ys e) ∙ first.still (nothing_before xs ys e);
  full = full_on a b c xs went first.entered second.full;
}
