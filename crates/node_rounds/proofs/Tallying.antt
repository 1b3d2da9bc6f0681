-- A round of a tally, put together.
use Rattle.std.proofs.Common.{◌≡◌, ℕ, List, [], ◌∷◌, ◌++◌, Option, Some, Result, Ok, Err, refl, sym, ap, ◌∙◌, subst, inl}
use Rattle.std.specs.Prelude.{map}
use Rattle.std.specs.Global.{Vec}
use Rattle.sat_base.specs.Ticks.{TicksView}
use Rattle.turnstile.specs.Entry.{entry_of}
use Rattle.desk_runs.specs.Entered.{place_of}
use Rattle.desk_runs.specs.Runs.{Lasts}
use Rattle.machine_calls.specs.declared.call.Call.TheVariants as calls
use Rattle.machine_calls.specs.declared.task.Task.TheVariants as tasks
use Rattle.machine_calls.specs.declared.reply.Reply.{Reply}
use Rattle.sat_book.specs.Legal.{E}
use Rattle.sat_book.specs.declared.opening.Opening.{Opening}
use Rattle.sat_sessions.specs.Draws.{as_moment}
use Rattle.sat_sessions.specs.Rounds.{KitView, RoundDoes}
use Rattle.sat_sessions.specs.Sessions.{V}
use Rattle.sat_sessions.specs.declared.rounds.Round.{Round}
use Rattle.sat_sessions.specs.declared.rounds.RoundEnd.{RoundEnd}
use Rattle.sat_sessions.specs.declared.rounds.RoundEnd.TheVariants as ends
use Rattle.node_rounds.specs.Calls.{IfFull, Makes, Turns}
use Rattle.node_rounds.specs.Parts.{Timed}
use Rattle.node_rounds.specs.Tally.{TallyRounds, TallyTells, TallyWorks}
use Rattle.node_rounds.specs.Upkeep.{end_of, went_at}
use Rattle.node_rounds.proofs.KitLemmas.{full_marked}
use Rattle.node_rounds.proofs.Making.{makes_full, makes_none, makes_one}
use Rattle.node_rounds.proofs.Parting.{full_at}
use Rattle.node_rounds.proofs.Rounding.{full_end}
use Rattle.node_rounds.proofs.Taken.{Draw, draw_at, draw_same, draw_timed}

abbrev pub T : Type 0
T = KitView (Unit {0})

module _ {K : Type 0} where
  -- by its entries and what they come to
  made : (s : T) (k : V K) (x : Round) (s' : T) (k' : V K) (new : List E) (went : Option RoundEnd) (old : Vec ℕ) → old.items ≡ [] → Makes k new went k' old x.places → x.end ≡ end_of went → TallyWorks s new x.end s'
      → Draw s new s' → s'.ticks ≡ s.ticks → TallyRounds s k x s' k'
  made s k x s' k' new went old none makes end works draws ticks = record {
    new = new;
    entered = makes.entered;
    named = sym (makes.named.items ∙ ap (λ (l : List ℕ). l ++ map place_of new) none);
    lawful = makes.lawful;
    stand = makes.stand;
    full = subst (λ (e : RoundEnd). IfFull k (Some e) k') (sym end) (full_end k k' went makes.full);
    works = works;
    draws = draws;
    ticks = ticks;
  }

  -- there was no room for the place
  pub tally_none : (s : T) (k : V K) (places : Vec ℕ) → places.items ≡ [] → TallyRounds s k (record { places = places; end = ends.NoMemory }) s k
  tally_none s k places none =
      made s k (record { places = places; end = ends.NoMemory }) s k [] (Some ends.NoMemory) places none (makes_none k (Some ends.NoMemory) places tt) refl refl (draw_same s s refl) refl

  -- the term is full
  pub tally_full : (s : T) (k : V K) (moment now ticket : ℕ) (answered : Result Reply ℕ) (s' : T) (k' : V K) (old new : Vec ℕ) → old.items ≡ [] → Timed s moment s' → now ≡ as_moment moment → answered ≡ Err ticket
      → Turns k (calls.Own now tasks.TallyHour) answered k' old new → TallyRounds s k (record { places = new; end = ends.TermFull ticket }) s' k'
  tally_full s k moment now ticket answered s' k' old new none timed at is turns =
      let full = subst (λ (r : Result Reply ℕ). Turns k (calls.Own now tasks.TallyHour) r k' old new) is turns in
      made s k (record { places = new; end = ends.TermFull ticket }) s' k' [] (Some (ends.TermFull ticket)) old none (makes_full k (calls.Own now tasks.TallyHour) ticket k' old new full) refl (moment, timed)
      (draw_timed s moment s' timed) (ap (λ (z : T). z.ticks) timed.rest)

  -- the call was entered, and answered so
  pub tally_one : (s : T) (k : V K) (moment now : ℕ) (reply : Reply) (answered : Result Reply ℕ) (s' : T) (k' : V K) (old new : Vec ℕ) (end : RoundEnd) → old.items ≡ [] → Timed s moment s' → now ≡ as_moment moment → answered ≡ Ok reply
      → Turns k (calls.Own now tasks.TallyHour) answered k' old new → end ≡ end_of (went_at reply) → TallyRounds s k (record { places = new; end = end }) s' k'
  tally_one s k moment now reply answered s' k' old new end none timed at is turns end_is =
      let call = calls.Own now tasks.TallyHour in
      let one = subst (λ (r : Result Reply ℕ). Turns k call r k' old new) is turns in
      let e = entry_of one.0 k.number call reply in
      let own : e.call ≡ calls.Own (as_moment moment) tasks.TallyHour = ap (λ (m : ℕ). calls.Own m tasks.TallyHour) at in
      made s k (record { places = new; end = end }) s' k' (e ∷ []) (went_at reply) old none (makes_one k call reply k' old new (went_at reply) one (full_at k k' reply)) end_is
      (record { moment = moment; timed = timed; call = own; end_is = end_is }) (draw_at s moment s' (calls.Own (as_moment moment) tasks.TallyHour) e timed own (inl (refl, tt)) tt) (ap (λ (z : T). z.ticks) timed.rest)

  -- what a round did, from whatever the kit was before its tick
  pub tally_does : (opening : Option Opening) (s : T) (k : V K) (x : Round) (s' : T) (k' : V K) → TallyRounds s k x s' k' → RoundDoes (TallyTells opening) s k x s' k'
  tally_does opening s k x s' k' r = record {
    new = r.new;
    entered = r.entered;
    named = r.named;
    full = full_marked k k' x.end r.full;
    draws = r.draws;
    ticks = r.ticks;
    tells = λ before same.
        let begun : s ≡ record before { ticks = s'.ticks } = sym same ∙ ap (λ (t : TicksView). let q : T = record before { ticks = t } in q) (sym r.ticks) in
        subst (λ (z : T). TallyWorks z r.new x.end s') begun r.works;
  }

pub tally_lasts : (opening : Option Opening) → Lasts (TallyTells opening)
tally_lasts opening s x new h h' s' starts told = told
