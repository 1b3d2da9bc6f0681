-- Rounds of a worker, one after another.
use Rattle.std.proofs.Common.{◌≡◌, List, [], ◌∷◌, ◌++◌, Bool, true, false, Option, refl, sym, ap, ◌∙◌, subst}
use Rattle.sat_base.specs.Outside.{raised}
use Rattle.sat_base.specs.declared.ticks.Beat.{Beat}
use Rattle.sat_base.specs.declared.ticks.Beat.TheVariants as beats
use Rattle.sat_base.specs.Ticks.{TicksView}
use Rattle.turnstile.specs.Known.{DeskId}
use Rattle.desk_runs.specs.Runs.{Does, Lasts, some_is}
use Rattle.desk_runs.proofs.Running.{runs_more}
use Rattle.sat_book.specs.Legal.{E}
use Rattle.sat_book.specs.declared.opening.Origin.{Origin}
use Rattle.sat_sessions.specs.Rounds.{KitBeats, KitView, RoundDoes, RoundRuns, RoundTells, RoundsRan, ends_rounds, round_ends, round_full, round_places, told_of_kit}
use Rattle.sat_sessions.specs.Draws.{Draws}
use Rattle.sat_sessions.specs.Sessions.{V}
use Rattle.sat_sessions.specs.declared.rounds.Round.{Round}
use Rattle.sat_sessions.specs.declared.rounds.RoundsEnd.TheVariants as causes
use Rattle.sat_sessions.proofs.LastOf.{met_more}

-- a kit at whose tick a round is made
abbrev pub ticked_kit : {N : Type 0} → KitView N → KitView N
ticked_kit s = record s { ticks = record s.ticks { given = raised s.ticks.given } }

-- a wait that didn't end came to a tick
pub ticked : {N : Type 0} (s : KitView N) (beat : Beat) (s' : KitView N) → KitBeats s beat s' → (beat ≡ beats.Ended → ⊥) → (s.ticks.over ≡ false) × (s' ≡ ticked_kit s)
ticked {N} s beats.Tick s' came other = (came.beats.0, came.rest ∙ ap (λ (t : TicksView). let q : KitView N = record s { ticks = t } in q) came.beats.1)
ticked s beats.Ended s' came other = absurd (other refl)

-- Fits is what a worker's kit is to be for the store that its book was opened over, and Says what is told of a round
module _ {N K : Type 0} (Fits : Option (Origin K) → Type 0) (Says : KitView N → Round → List E → List E → KitView N → Type 0) where
  -- a worker, so far; whether its last round is one behind which none comes
  pub record SoFar (desk : DeskId) (s0 : KitView N) (k0 : V K) (xs : List Round) (s : KitView N) (k : V K) (met : Bool) : Type 0 where
    pub runs : RoundRuns Says s0 k0 xs s k
    pub desk_is : k.desk ≡ desk
    pub desk_was : k0.desk ≡ desk
    pub base_is : k.base ≡ k0.base
    pub own : Fits k.base
    pub met_is : some_is round_ends xs ≡ met

  pub far_none : (desk : DeskId) (s : KitView N) (k : V K) → k.desk ≡ desk → Fits k.base → SoFar desk s k [] s k false
  far_none desk s k same own = record { runs = (refl, refl); desk_is = same; desk_was = same; base_is = refl; own = own; met_is = refl }

  pub far_more : (desk : DeskId) (s0 : KitView N) (k0 : V K) (xs : List Round) (s : KitView N) (k : V K) (x : Round) (s' : KitView N) (k' : V K) (zs ys : List Round) → SoFar desk s0 k0 xs s k false
      → Does round_places round_full (RoundTells Says) s k x s' k' → zs ≡ xs → ys ≡ zs ++ x ∷ [] → SoFar desk s0 k0 ys s' k' (round_ends x)
  far_more desk s0 k0 xs s k x s' k' zs ys far does same added =
      let grew : ys ≡ xs ++ x ∷ [] = added ∙ ap (λ (l : List Round). l ++ x ∷ []) same in
      let rights = does.entered.rights in
      record {
        runs = subst (λ (l : List Round). RoundRuns Says s0 k0 l s' k') (sym grew) (runs_more round_places round_full (RoundTells Says) s0 k0 xs s k x s' k' far.runs does);
        desk_is = rights.desk ∙ far.desk_is;
        desk_was = far.desk_was;
        base_is = rights.base ∙ far.base_is;
        own = subst Fits (sym rights.base) far.own;
        met_is = ap (some_is round_ends) grew ∙ met_more round_ends xs x far.met_is;
      }

  -- no memory for the next one was found
  pub ran_wanting : (desk : DeskId) (s0 : KitView N) (k0 : V K) (xs : List Round) (s : KitView N) (k : V K) (zs : List Round) → Lasts Says → SoFar desk s0 k0 xs s k false → zs ≡ xs → RoundsRan Says s0 k0 zs causes.NoMemory s k
  ran_wanting desk s0 k0 xs s k zs lasts far same = subst (λ (l : List Round). RoundsRan Says s0 k0 l causes.NoMemory s k) (sym same) (record {
    before_last = s;
    runs = far.runs;
    closes = refl;
    desk = far.desk_is ∙ sym far.desk_was;
    base = far.base_is;
    met = far.met_is;
    lasts = lasts;
  })

  -- no tick came
  pub ran_over : (desk : DeskId) (s0 : KitView N) (k0 : V K) (xs : List Round) (s : KitView N) (k : V K) (zs : List Round) (s' : KitView N) → Lasts Says → SoFar desk s0 k0 xs s k false → zs ≡ xs → KitBeats s beats.Ended s' → RoundsRan Says s0 k0 zs causes.Over s' k
  ran_over desk s0 k0 xs s k zs s' lasts far same beat = subst (λ (l : List Round). RoundsRan Says s0 k0 l causes.Over s' k) (sym same) (record {
    before_last = s;
    runs = far.runs;
    closes = beat.rest ∙ ap (λ (t : TicksView). let q : KitView N = record s { ticks = t } in q) beat.beats;
    desk = far.desk_is ∙ sym far.desk_was;
    base = far.base_is;
    met = far.met_is;
    lasts = lasts;
  })

  -- others come behind it
  pub far_on : (desk : DeskId) (s0 : KitView N) (k0 : V K) (xs : List Round) (s : KitView N) (k : V K) (met : Bool) → SoFar desk s0 k0 xs s k met → met ≡ false → SoFar desk s0 k0 xs s k false
  far_on desk s0 k0 xs s k met far on = subst (λ (b : Bool). SoFar desk s0 k0 xs s k b) on far

  -- none does
  pub ran_last : (desk : DeskId) (s0 : KitView N) (k0 : V K) (xs : List Round) (x : Round) (s' : KitView N) (k' : V K) (ys : List Round) → Lasts Says → SoFar desk s0 k0 ys s' k' (round_ends x) → ys ≡ xs ++ x ∷ [] → ends_rounds x.end ≡ true
      → RoundsRan Says s0 k0 ys causes.Round s' k'
  ran_last desk s0 k0 xs x s' k' ys lasts far grew so = record {
    before_last = s';
    runs = far.runs;
    closes = (refl, (xs, x, grew, so));
    desk = far.desk_is ∙ sym far.desk_was;
    base = far.base_is;
    met = far.met_is ∙ so;
    lasts = lasts;
  }

module _ {N K : Type 0} (Says : KitView N → Round → List E → List E → KitView N → Type 0) where
  -- one round, put together: a tick came, and then it was made
  pub does_one : (s m : KitView N) (k : V K) (x : Round) (s' : KitView N) (k' : V K) → s.ticks.over ≡ false → m ≡ ticked_kit s → RoundDoes Says m k x s' k' → Does round_places round_full (RoundTells Says) s k x s' k'
  does_one s m k x s' k' open' came r = record {
    new = r.new;
    entered = r.entered;
    named = r.named;
    full = r.full;
    tells = record {
      not_over = open';
      ticks_are = r.ticks ∙ ap (λ (z : KitView N). z.ticks) came;
      draws = subst (λ (z : KitView N). Draws (told_of_kit z s') r.new) came r.draws;
      tells = r.tells s (ap (λ (z : KitView N). let q : KitView N = record s { ticks = z.ticks } in q) came ∙ sym came);
    };
  }
