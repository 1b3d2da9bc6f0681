-- One part of a round, put together.
use Rattle.std.proofs.Common.{◌≡◌, ℕ, ◌+◌, ◌<◌, ◌≤◌, List, [], ◌∷◌, ◌++◌, length, Bool, true, false, Option, Some, None, Result, Ok, Err, refl, sym, ap, ◌∙◌, subst, arith, length-append}
use Rattle.std.specs.Prelude.{map, vec_capacity}
use Rattle.std.specs.Global.{Vec}
use Rattle.std.proofs.lemmas.List.{length-map}
use Rattle.sat_base.specs.declared.no_memory.NoMemory.{NoMemory as NoRoom}
use Rattle.sat_base.specs.declared.scheme.Scheme.{Scheme}
use Rattle.turnstile.specs.Entry.{entry_of}
use Rattle.turnstile.specs.Known.{SameRights}
use Rattle.desk_runs.specs.Entered.{place_of}
use Rattle.desk_runs.proofs.Entering.{entered_one}
use Rattle.machine_calls.specs.declared.call.Call.{Call}
use Rattle.machine_calls.specs.declared.reply.Reply.{Reply}
use Rattle.sat_book.specs.Book.{AreOf}
use Rattle.sat_book.specs.Legal.{E}
use Rattle.sat_book.specs.declared.opening.Origin.{Origin}
use Rattle.sat_sessions.specs.Draws.{as_moment}
use Rattle.sat_sessions.specs.Sessions.{V}
use Rattle.sat_sessions.specs.declared.rounds.RoundEnd.{RoundEnd}
use Rattle.sat_sessions.specs.declared.rounds.RoundEnd.TheVariants as ends
use Rattle.node_rounds.specs.Askable.{IsAskable}
use Rattle.node_rounds.specs.Calls.{IfFull, Makes, Names, Turns}
use Rattle.node_rounds.specs.Entering.{FailsToOpen, Finishes, Opens, went_after}
use Rattle.node_rounds.specs.Parts.{S, Asks, FailsToDraw, Follows, Part, Planned, Timed}
use Rattle.node_rounds.specs.Upkeep.{end_call, is_plan_of, is_refusal_to_stop, plan_call, stops_by, went_at, words_of}
use Rattle.node_rounds.specs.Works.{Does}
use Rattle.node_rounds.specs.declared.upkeep.Found.{Found}
use Rattle.node_rounds.specs.declared.upkeep.Upkeep.{Upkeep}
use Rattle.node_rounds.proofs.Answering.{OfStore, answered, askable}
use Rattle.node_rounds.proofs.Making.{makes_full, makes_more, makes_none, makes_one}

-- ---- what a part finds behind its plan

-- the pass has the rights that it had
pub rights_by : {K : Type 0} (k : V K) (call : Call) (reply : Reply) (k' : V K) (old new : Vec ℕ) → Turns k call (Ok reply) k' old new → SameRights k k'
rights_by k call reply k' old new turns = (entered_one AreOf k call reply turns.0 k' turns.1).rights

pub of_store : {K : Type 0} (k k' : V K) (secret : List ℕ) (scheme : Scheme) → SameRights k k' → OfStore k.base secret scheme → OfStore k'.base secret scheme
of_store {K} k k' secret scheme same own = subst (λ (b : Option (Origin K)). OfStore b secret scheme) (sym same.base) own

-- there is room for the place of its end
pub room_left : (place : ℕ) (old new : Vec ℕ) → Names (place ∷ []) old new → length old.items + 2 ≤ vec_capacity old → length new.items < vec_capacity new
room_left place old new names room =
    let l : length new.items ≡ length old.items + 1 = ap length names.items ∙ length-append old.items (place ∷ []) in
    let c = names.room in
    omega (arith, l, c, room)

-- its plan can be asked
pub plan_askable : {K : Type 0} (kind : Upkeep) (secret : List ℕ) (scheme : Scheme) (s : S) (k : V K) (reply : Reply) (s' : S) (k' : V K) (old new : Vec ℕ) → Opens kind s k (Ok reply) s' k' old new → OfStore k.base secret scheme
    → is_plan_of kind reply ≡ true → IsAskable scheme reply
plan_askable kind secret scheme s k reply s' k' old new opens own is =
    askable kind (as_moment opens.1) opens.0 reply scheme (omega arith) (answered k (plan_call kind (as_moment opens.1) opens.0) reply opens.3.0 k' secret scheme opens.3.1 own) is

-- ---- what it did

full_by : {K : Type 0} (k k' : V K) (b : Bool) → IfFull k (stops_by b) k'
full_by k k' true = tt
full_by k k' false = tt

pub full_at : {K : Type 0} (k k' : V K) (reply : Reply) → IfFull k (went_at reply) k'
full_at k k' reply = full_by k k' (is_refusal_to_stop reply)

module _ (secret : List ℕ) (scheme : Scheme) (kind : Upkeep) where
  planned : (reply : Reply) (ready : S) (rest : List E) (went : Option RoundEnd) (s' : S) → is_plan_of kind reply ≡ true → Planned secret scheme reply ready rest went s'
      → Follows secret scheme (is_plan_of kind reply) reply ready rest went s'
  planned reply ready rest went s' is p = subst (λ (b : Bool). Follows secret scheme b reply ready rest went s') (sym is) p

module _ {K : Type 0} (secret : List ℕ) (scheme : Scheme) (kind : Upkeep) where
  stays : (s : S) (k : V K) (end : RoundEnd) (s' : S) (k' : V K) (old new : Vec ℕ) → IfFull k (Some end) k → Part secret scheme kind s [] (Some end) s' → k' ≡ k → new ≡ old → Does secret scheme kind s k (Some end) s' k' old new
  stays s k end s' k' old new full part pass places =
      subst (λ (z : V K × Vec ℕ). Does secret scheme kind s k (Some end) s' z.0 old z.1) (λ i. (sym pass i, sym places i))
      (record { new = []; makes = makes_none k (Some end) old full; part = part })

  -- no plan was entered
  pub does_unplanned : (s : S) (k : V K) (end : RoundEnd) (s' : S) (k' : V K) (old new : Vec ℕ) → FailsToOpen kind s k end s' k' old new → Does secret scheme kind s k (Some end) s' k' old new
  does_unplanned s k ends.Through s' k' old new f = absurd f.0
  does_unplanned s k ends.WordsFault s' k' old new f = stays s k ends.WordsFault s' k' old new tt f.0 f.1 f.2
  does_unplanned s k (ends.TermFull ticket) s' k' old new f =
      record { new = []; makes = makes_full k (plan_call kind (as_moment f.1) f.0) ticket k' old new f.3; part = (f.0, f.1, f.2) }
  does_unplanned s k ends.Stopped s' k' old new f = absurd f.0
  does_unplanned s k ends.NoMemory s' k' old new f = stays s k ends.NoMemory s' k' old new tt f.0 f.1 f.2

  -- a plan was entered and answered so, and this followed
  with_plan : (s : S) (k : V K) (reply : Reply) (ready : S) (k' : V K) (old new : Vec ℕ) (opens : Opens kind s k (Ok reply) ready k' old new) (rest : List E) (went : Option RoundEnd) (s' : S)
      → Follows secret scheme (is_plan_of kind reply) reply ready rest went s'
      → Part secret scheme kind s (entry_of opens.3.0 k.number (plan_call kind (as_moment opens.1) opens.0) reply ∷ rest) went s'
  with_plan s k reply ready k' old new opens rest went s' follows =
      record { drawn = opens.0; moment = opens.1; ready = ready; readied = opens.2; call = refl; follows = follows }

  -- the reply held no plan
  pub does_passed : (s : S) (k : V K) (reply : Reply) (s' : S) (k' : V K) (old new : Vec ℕ) → Opens kind s k (Ok reply) s' k' old new → is_plan_of kind reply ≡ false
      → Does secret scheme kind s k (went_at reply) s' k' old new
  does_passed s k reply s' k' old new opens is = record {
    new = entry_of opens.3.0 k.number (plan_call kind (as_moment opens.1) opens.0) reply ∷ [];
    makes = makes_one k (plan_call kind (as_moment opens.1) opens.0) reply k' old new (went_at reply) opens.3 (full_at k k' reply);
    part = with_plan s k reply s' k' old new opens [] (went_at reply) s'
        (subst (λ (b : Bool). Follows secret scheme b reply s' [] (went_at reply) s') (sym is) (refl, refl, refl));
  }

  -- memory ran out as its nodes were asked
  pub does_stopped : (s : S) (k : V K) (reply : Reply) (ready : S) (k' : V K) (old new : Vec ℕ) (none : NoRoom) (s' : S) → Opens kind s k (Ok reply) ready k' old new → is_plan_of kind reply ≡ true
      → Asks secret scheme reply ready (Err none) s' → Does secret scheme kind s k (Some ends.NoMemory) s' k' old new
  does_stopped s k reply ready k' old new none s' opens is asks = record {
    new = entry_of opens.3.0 k.number (plan_call kind (as_moment opens.1) opens.0) reply ∷ [];
    makes = makes_one k (plan_call kind (as_moment opens.1) opens.0) reply k' old new (Some ends.NoMemory) opens.3 tt;
    part = with_plan s k reply ready k' old new opens [] (Some ends.NoMemory) s' (planned secret scheme kind reply ready [] (Some ends.NoMemory) s' is (none, asks));
  }

  -- the end was entered, or the term was full
  ends_at : (s : S) (k : V K) (reply : Reply) (ready : S) (k1 : V K) (old mid new : Vec ℕ) (found : Found) (asked : S) (moment : ℕ) (went : Option RoundEnd) (s' : S) (k' : V K) → Opens kind s k (Ok reply) ready k1 old mid
      → is_plan_of kind reply ≡ true → Asks secret scheme reply ready (Ok found) asked → Timed asked moment s' → (answered : Result Reply ℕ) → Turns k1 (end_call found (as_moment moment)) answered k' mid new
      → went ≡ went_after answered → Does secret scheme kind s k went s' k' old new
  ends_at s k reply ready k1 old mid new found asked moment went s' k' opens is asks timed (Ok last) turns went_is =
      let p = entry_of opens.3.0 k.number (plan_call kind (as_moment opens.1) opens.0) reply in
      let e = entry_of turns.0 k1.number (end_call found (as_moment moment)) last in
      subst (λ (w : Option RoundEnd). Does secret scheme kind s k w s' k' old new) (sym went_is) (record {
        new = p ∷ e ∷ [];
        makes = makes_more k k1 k' (p ∷ []) (e ∷ []) None (went_at last) old mid new
            (makes_one k (plan_call kind (as_moment opens.1) opens.0) reply k1 old mid None opens.3 tt)
            (makes_one k1 (end_call found (as_moment moment)) last k' mid new (went_at last) turns (full_at k1 k' last));
        part = with_plan s k reply ready k1 old mid opens (e ∷ []) (went_at last) s' (planned secret scheme kind reply ready (e ∷ []) (went_at last) s' is (record {
          found = found;
          between = asked;
          asks = asks;
          moment = moment;
          timed = timed;
          call = refl;
          went_is = refl;
        }));
      })
  ends_at s k reply ready k1 old mid new found asked moment went s' k' opens is asks timed (Err ticket) turns went_is =
      let p = entry_of opens.3.0 k.number (plan_call kind (as_moment opens.1) opens.0) reply in
      subst (λ (w : Option RoundEnd). Does secret scheme kind s k w s' k' old new) (sym went_is) (record {
        new = p ∷ [];
        makes = makes_more k k1 k' (p ∷ []) [] None (Some (ends.TermFull ticket)) old mid new
            (makes_one k (plan_call kind (as_moment opens.1) opens.0) reply k1 old mid None opens.3 tt)
            (makes_full k1 (end_call found (as_moment moment)) ticket k' mid new turns);
        part = with_plan s k reply ready k1 old mid opens [] (Some (ends.TermFull ticket)) s'
            (planned secret scheme kind reply ready [] (Some (ends.TermFull ticket)) s' is (found, asked, moment, asks, timed));
      })

  pub does_ended : (s : S) (k : V K) (reply : Reply) (ready : S) (k1 : V K) (old mid new : Vec ℕ) (found : Found) (asked : S) (went : Option RoundEnd) (s' : S) (k' : V K) → Opens kind s k (Ok reply) ready k1 old mid
      → is_plan_of kind reply ≡ true → Asks secret scheme reply ready (Ok found) asked → (f : Finishes found asked.coming k1 went s'.coming k' mid new) → s' ≡ record asked { coming = s'.coming }
      → Does secret scheme kind s k went s' k' old new
  does_ended s k reply ready k1 old mid new found asked went s' k' opens is asks f rest =
      ends_at s k reply ready k1 old mid new found asked f.moment went s' k' opens is asks (record { timed = f.timed; rest = rest }) f.answered f.turns f.went_is

module _ (secret : List ℕ) (scheme : Scheme) where
  -- a part makes two entries at most
  few_follow : (b : Bool) (reply : Reply) (s : S) (rest : List E) (went : Option RoundEnd) (s' : S) → Follows secret scheme b reply s rest went s' → length rest ≤ 1
  few_follow true reply s [] went s' f = omega arith
  few_follow true reply s (e ∷ []) went s' f = omega arith
  few_follow true reply s (e ∷ g ∷ more) went s' f = absurd f
  few_follow false reply s rest went s' f = let none : length rest ≡ 0 = ap length f.0 in omega (arith, none)

  few : (kind : Upkeep) (s : S) (new : List E) (went : Option RoundEnd) (s' : S) → Part secret scheme kind s new went s' → length new ≤ 2
  few kind s [] went s' p = omega arith
  few kind s (e ∷ rest) went s' p = let one = few_follow (is_plan_of kind e.reply) e.reply p.ready rest went s' p.follows in omega (arith, one)

  -- so there is room for the places of another
  pub room_behind : {K : Type 0} (kind : Upkeep) (s : S) (k : V K) (went : Option RoundEnd) (s' : S) (k' : V K) (old mid : Vec ℕ) → Does secret scheme kind s k went s' k' old mid → old.items ≡ [] → 4 ≤ vec_capacity old
      → length mid.items + 2 ≤ vec_capacity mid
  room_behind kind s k went s' k' old mid d none room =
      let all : length mid.items ≡ length old.items + length (map place_of d.new) = ap length d.makes.named.items ∙ length-append old.items (map place_of d.new) in
      let more : length (map place_of d.new) ≡ length d.new = length-map d.new place_of in
      let empty : length old.items ≡ 0 = ap length none in
      let two = few kind s d.new went s' d.part in
      let same = d.makes.named.room in
      omega (arith, all, more, empty, two, same, room)
