-- A round of a kit.
use Rattle.std.proofs.Common.{◌≡◌, ℕ, List, Option, Some, None, true, sym, ap, ◌∙◌, subst}
use Rattle.std.specs.Prelude.{IsSomeAnd}
use Rattle.sat_base.specs.declared.scheme.Scheme.{Scheme}
use Rattle.sat_base.specs.Ticks.{TicksView}
use Rattle.desk_runs.specs.Entered.{Marked}
use Rattle.desk_runs.specs.Runs.{Lasts}
use Rattle.sat_book.specs.Book.{opening_of}
use Rattle.sat_book.specs.Legal.{E}
use Rattle.sat_book.specs.declared.opening.Opening.{Opening}
use Rattle.sat_book.specs.declared.opening.Origin.{Origin}
use Rattle.sat_sessions.specs.Rounds.{RoundDoes, is_full_end}
use Rattle.sat_sessions.specs.Sessions.{V}
use Rattle.sat_sessions.specs.declared.rounds.Round.{Round}
use Rattle.sat_sessions.specs.declared.rounds.RoundEnd.{RoundEnd}
use Rattle.sat_sessions.specs.declared.rounds.RoundEnd.TheVariants as ends
use Rattle.node_rounds.specs.Askable.{IsStoreOf}
use Rattle.node_rounds.specs.Calls.{IfFull}
use Rattle.node_rounds.specs.Kits.{Tells}
use Rattle.node_rounds.specs.Parts.{S}
use Rattle.node_rounds.specs.Works.{Rounds, Works}
use Rattle.node_rounds.specs.declared.upkeep.Upkeep.{Upkeep}
use Rattle.node_rounds.proofs.Answering.{OfStore}

pub full_marked : {K : Type 0} (k k' : V K) (end : RoundEnd) → IfFull k (Some end) k' → is_full_end end ≡ true → Marked k'
full_marked k k' ends.Through full is = absurd (cc)
full_marked k k' ends.WordsFault full is = absurd (cc)
full_marked k k' (ends.TermFull ticket) full is = full.0
full_marked k k' ends.Stopped full is = absurd (cc)
full_marked k k' ends.NoMemory full is = absurd (cc)

pub tells_last : (first second : Upkeep) (opening : Option Opening) → Lasts (Tells first second opening)
tells_last first second opening s x new h h' s' starts told = told

-- the store of a book is that of its opening
pub by_opening : {K : Type 0} (base : Option (Origin K)) (secret : List ℕ) (scheme : Scheme) → IsSomeAnd (opening_of base) (λ opening. IsStoreOf opening secret scheme) → OfStore base secret scheme
by_opening None secret scheme own = own
by_opening (Some origin) secret scheme own = own

module _ {K : Type 0} (secret : List ℕ) (scheme : Scheme) (first second : Upkeep) where
  by_store : (base : Option (Origin K)) (s : S) (x : Round) (new history : List E) (s' : S) → OfStore base secret scheme → Works secret scheme first second (record s { ticks = s'.ticks }) new x.end s'
      → Tells first second (opening_of base) s x new history s'
  by_store None s x new history s' own works = absurd own
  by_store (Some origin) s x new history s' own works = record {
    scheme = scheme;
    scheme_is = own.scheme_is;
    works = subst (λ (key : List ℕ). Works key scheme first second (record s { ticks = s'.ticks }) new x.end s') own.secret_is works;
  }

  -- what a round did, from whatever the kit was before its tick
  pub does_round : (s : S) (k : V K) (x : Round) (s' : S) (k' : V K) → Rounds secret scheme first second s k x s' k' → OfStore k.base secret scheme → RoundDoes (Tells first second (opening_of k.base)) s k x s' k'
  does_round s k x s' k' r own = record {
    new = r.new;
    entered = r.entered;
    named = r.named;
    full = full_marked k k' x.end r.full;
    draws = r.draws;
    ticks = r.ticks;
    tells = λ before same.
        let begun : s ≡ record before { ticks = s'.ticks } = sym same ∙ ap (λ (t : TicksView). let q : S = record before { ticks = t } in q) (sym r.ticks) in
        by_store k.base before x r.new k'.seen s' own (subst (λ (z : S). Works secret scheme first second z r.new x.end s') begun r.works);
  }
