-- A round, put together.
use Rattle.std.proofs.Common.{◌≡◌, ℕ, List, [], ◌∷◌, ◌++◌, Option, Some, None, refl, sym, ap, ◌∙◌, subst, append-nil}
use Rattle.std.specs.Prelude.{map}
use Rattle.std.specs.Global.{Vec}
use Rattle.sat_base.specs.declared.scheme.Scheme.{Scheme}
use Rattle.desk_runs.specs.Entered.{place_of}
use Rattle.sat_book.specs.Legal.{E}
use Rattle.sat_sessions.specs.Sessions.{V}
use Rattle.sat_sessions.specs.declared.rounds.Round.{Round}
use Rattle.sat_sessions.specs.declared.rounds.RoundEnd.{RoundEnd}
use Rattle.sat_sessions.specs.declared.rounds.RoundEnd.TheVariants as ends
use Rattle.node_rounds.specs.Calls.{IfFull, Makes}
use Rattle.node_rounds.specs.Parts.{S}
use Rattle.node_rounds.specs.Upkeep.{end_of}
use Rattle.node_rounds.specs.Works.{Does, Rounds, Works}
use Rattle.node_rounds.specs.declared.upkeep.Upkeep.{Upkeep}
use Rattle.node_rounds.proofs.Counting.{counted_works}
use Rattle.node_rounds.proofs.Answering.{OfStore}
use Rattle.node_rounds.proofs.Holding.{hold_open}
use Rattle.node_rounds.proofs.Making.{makes_more, makes_none}
use Rattle.node_rounds.proofs.Taken.{draw_works, ticks_works}

pub full_end : {K : Type 0} (k k' : V K) (went : Option RoundEnd) → IfFull k went k' → IfFull k (Some (end_of went)) k'
full_end k k' None full = tt
full_end k k' (Some why) full = full

module _ {K : Type 0} (secret : List ℕ) (scheme : Scheme) (first second : Upkeep) where
  -- by its entries and what they come to
  made : (s : S) (k : V K) (x : Round) (s' : S) (k' : V K) → OfStore k.base secret scheme → (new : List E) (went : Option RoundEnd) (old : Vec ℕ) → old.items ≡ [] → Makes k new went k' old x.places → x.end ≡ end_of went
      → Works secret scheme first second s new x.end s' → Rounds secret scheme first second s k x s' k'
  made s k x s' k' own new went old none makes end works = record {
    new = new;
    entered = makes.entered;
    named = sym (makes.named.items ∙ ap (λ (l : List ℕ). l ++ map place_of new) none);
    lawful = makes.lawful;
    stand = makes.stand;
    held = hold_open k secret scheme new k' own makes.lawful makes.stand;
    full = subst (λ (e : RoundEnd). IfFull k (Some e) k') (sym end) (full_end k k' went makes.full);
    works = works;
    draws = draw_works secret scheme first second s new x.end s' works;
    ticks = ticks_works secret scheme first second s new x.end s' works;
    counted = counted_works secret scheme first second s new x.end s' works;
  }

  -- there was no room for the places
  pub rounds_none : (s : S) (k : V K) → OfStore k.base secret scheme → (places : Vec ℕ) → places.items ≡ [] → Rounds secret scheme first second s k (record { places = places; end = ends.NoMemory }) s k
  rounds_none s k own places none =
      made s k (record { places = places; end = ends.NoMemory }) s k own [] (Some ends.NoMemory) places none (makes_none k (Some ends.NoMemory) places tt) refl
      (record { ones = []; others = []; new_is = refl; between = s; went = Some ends.NoMemory; begins = refl; goes = (refl, refl, refl) })

  -- the first part ended it
  pub rounds_first : (s : S) (k : V K) → OfStore k.base secret scheme → (end : RoundEnd) (s' : S) (k' : V K) (old new : Vec ℕ) → old.items ≡ [] → Does secret scheme first s k (Some end) s' k' old new
      → Rounds secret scheme first second s k (record { places = new; end = end }) s' k'
  rounds_first s k own end s' k' old new none d =
      made s k (record { places = new; end = end }) s' k' own d.new (Some end) old none d.makes refl
      (record { ones = d.new; others = []; new_is = sym (append-nil d.new); between = s'; went = Some end; begins = d.part; goes = (refl, refl, refl) })

  -- both parts
  pub rounds_both : (s : S) (k : V K) → OfStore k.base secret scheme → (m : S) (j : V K) (went : Option RoundEnd) (s' : S) (k' : V K) (old mid new : Vec ℕ) (end : RoundEnd) → old.items ≡ [] → Does secret scheme first s k None m j old mid
      → Does secret scheme second m j went s' k' mid new → end ≡ end_of went → Rounds secret scheme first second s k (record { places = new; end = end }) s' k'
  rounds_both s k own m j went s' k' old mid new end none a b is =
      made s k (record { places = new; end = end }) s' k' own (a.new ++ b.new) went old none (makes_more k j k' a.new b.new None went old mid new a.makes b.makes) is
      (record { ones = a.new; others = b.new; new_is = refl; between = m; went = None; begins = a.part; goes = (went, b.part, is) })
