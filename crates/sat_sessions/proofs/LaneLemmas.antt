-- Sessions, one after another.
use Rattle.std.proofs.Common.{◌≡◌, ℕ, suc, zero, ◌+◌, List, [], ◌∷◌, ◌++◌, length, Bool, true, false, Some, refl, sym, ap, ◌∙◌, subst, arith, append_assoc, append-nil, length-append}
use Rattle.std.specs.Prelude.{slice_get, map, Option, IsSome}
use mathlib.Core.Bool.{or-false}
use Rattle.sat_base.specs.Lane.{LaneView, handed, got_back}
use Rattle.sat_base.specs.Outside.{About}
use Rattle.turnstile.specs.History.{StartsWith}
use Rattle.turnstile.specs.Known.{DeskId, own_entries}
use Rattle.desk_runs.specs.Entered.{place_of}
use Rattle.desk_runs.specs.Runs.{Does, Lasts, some_is}
use Rattle.desk_runs.proofs.Running.{runs_more}
use Rattle.sat_book.specs.Legal.{E}
use Rattle.sat_book.specs.declared.opening.Origin.{Origin}
use Rattle.sat_sessions.specs.Lanes.{PostView, told_of, LaneTells, AreNumbered, Closes, LaneRuns, LaneRan, is_stopped, is_term_full, session_places, session_full}
use Rattle.sat_sessions.specs.Serves.{Serves, IfStops, StopsAt, StopsLast, is_stop}
use Rattle.sat_sessions.specs.Sessions.{V, Connects, is_full, places_of}
use Rattle.sat_sessions.specs.declared.lanes.LaneEnd.{LaneEnd}
use Rattle.sat_sessions.specs.declared.lanes.LaneEnd.TheVariants as causes
use Rattle.sat_sessions.specs.declared.told.Session.{Session}
use Rattle.sat_sessions.specs.declared.told.SessionEnd.{SessionEnd}
use Rattle.sat_sessions.specs.declared.told.SessionEnd.TheVariants as ends
use Rattle.sat_sessions.proofs.Ending.{connects_later, stops_later}
use Rattle.sat_sessions.proofs.LastOf.{met_more}

pub lane_lasts : (secret : List ℕ) (term : ℕ) → Lasts (LaneTells secret term)
lane_lasts secret term s x new h h' s' t a = record {
  link = a.link;
  link_after = a.link_after;
  not_over = a.not_over;
  lane_is = a.lane_is;
  connects = connects_later secret term (told_of s s') a.link a.link_after h h' x.end t a.connects;
  draws = a.draws;
}

pub closes_later : (end : LaneEnd) (xs : List Session) (h h' : List E) (s s' : PostView) → StartsWith h' h → Closes end xs h s s' → Closes end xs h' s s'
closes_later causes.Over xs h h' s s' t c = c
closes_later causes.Failed xs h h' s s' t c = c
closes_later causes.Stopped xs h h' s s' t c = (c.0, (c.1.0, c.1.1, c.1.2, stops_later c.1.1.end h h' t c.1.3))
closes_later causes.TermFull xs h h' s s' t c = c
closes_later causes.Many xs h h' s s' t c = c
closes_later causes.NoMemory xs h h' s s' t c = c

pub numbered_none : AreNumbered []
numbered_none i x q = absurd (cc)

get_snoc : {X : Type 0} (P : ℕ → X → Type 0) (xs : List X) (y : X) → ((i : ℕ) (x : X) → slice_get xs i ≡ Some x → P i x) → P (length xs) y → (i : ℕ) (x : X) → slice_get (xs ++ y ∷ []) i ≡ Some x → P i x
get_snoc P [] y f p zero x q = subst (P 0) (cc) p
get_snoc P [] y f p (suc i) x q = absurd (cc)
get_snoc P (z ∷ xs) y f p zero x q = f zero x q
get_snoc P (z ∷ xs) y f p (suc i) x q = get_snoc (λ n. P (suc n)) xs y (λ n w e. f (suc n) w e) (subst (λ (n : ℕ). P n y) (omega arith) p) i x q

numbered_more : (xs : List Session) (y : Session) (n : ℕ) → AreNumbered xs → length xs ≡ n → y.number ≡ n → AreNumbered (xs ++ y ∷ [])
numbered_more xs y n f len is = get_snoc (λ i (x : Session). x.number ≡ i) xs y f (is ∙ sym len)

-- one session of a lane, put together
does_one : {K : Type 0} (secret : List ℕ) (term : ℕ) (s s' : PostView) (k k' : V K) (x : Session) (stops : Bool) (link link_after : About) → k.desk.term ≡ term → s.lane.over ≡ false → s'.lane ≡ got_back (handed s.lane link) link_after → Serves secret k (told_of s s') link link_after x.end stops k'
    → Does session_places session_full (LaneTells secret term) s k x s' k'
does_one secret term s s' k k' x stops link link_after same open' lane h = record {
  new = h.new;
  entered = h.entered;
  named = h.named;
  full = h.full;
  tells = record {
    link = link;
    link_after = link_after;
    not_over = open';
    lane_is = lane;
    connects = subst (λ (n : ℕ). Connects secret n (told_of s s') link link_after k'.seen x.end) same h.connects;
    draws = h.draws;
  };
}

-- a session that stops its worker has an entry
stops_unfull : (end : SessionEnd) (history : List E) → StopsAt end history → is_full end ≡ false
stops_unfull (ends.Entered place sent) history h = refl
stops_unfull (ends.Edge error sent) history h = refl
stops_unfull ends.ReadFault history h = refl
stops_unfull (ends.WordsFault sent) history h = refl
stops_unfull (ends.TermFull ticket sent) history h = absurd h

-- a session makes one entry at most
few_places : (e f : E) (more : List E) (end : SessionEnd) → map place_of (e ∷ f ∷ more) ≡ places_of end → ⊥
few_places e f more (ends.Entered place sent) named = cc
few_places e f more (ends.Edge error sent) named = cc
few_places e f more ends.ReadFault named = cc
few_places e f more (ends.WordsFault sent) named = cc
few_places e f more (ends.TermFull ticket sent) named = cc

stops_more : (made new : List E) (stops : Bool) (end : SessionEnd) → some_is is_stop made ≡ false → map place_of new ≡ places_of end → some_is is_stop new ≡ stops → StopsLast stops (made ++ new)
stops_more made [] true end quiet named are = absurd cc
stops_more made [] false end quiet named are = ap (some_is is_stop) (append-nil made) ∙ quiet
stops_more made (e ∷ []) true end quiet named are = (made, e, refl, quiet, sym (or-false (is_stop e)) ∙ are)
stops_more made (e ∷ []) false end quiet named are = met_more is_stop made e quiet ∙ sym (or-false (is_stop e)) ∙ are
stops_more made (e ∷ f ∷ more) stops end quiet named are = absurd (few_places e f more end named)

-- a lane's worker, so far; whether it met the full term, and whether it was told to stop
pub record SoFar {K : Type 0} (secret : List ℕ) (desk : DeskId) (s0 : PostView) (k0 : V K) (xs : List Session) (n : ℕ) (s : PostView) (k : V K) (met stopped : Bool) : Type 0 where
  pub runs : LaneRuns secret desk.term s0 k0 xs s k
  pub desk_is : k.desk ≡ desk
  pub desk_was : k0.desk ≡ desk
  pub base_is : k.base ≡ k0.base
  pub some : IsSome k.base
  pub count : length xs ≡ n
  pub numbered : AreNumbered xs
  pub met_is : some_is session_full xs ≡ met
  pub made : List E
  pub made_is : own_entries k ≡ own_entries k0 ++ made
  pub stops : StopsLast stopped made

pub so_far_none : {K : Type 0} (secret : List ℕ) (desk : DeskId) (s : PostView) (k : V K) → k.desk ≡ desk → IsSome k.base → SoFar secret desk s k [] 0 s k false false
so_far_none secret desk s k same some = record { runs = (refl, refl); desk_is = same; desk_was = same; base_is = refl; some = some; count = refl; numbered = numbered_none; met_is = refl; made = []; made_is = sym (append-nil (own_entries k)); stops = refl }

pub so_far_more : {K : Type 0} (secret : List ℕ) (desk : DeskId) (s0 : PostView) (k0 : V K) (xs : List Session) (n : ℕ) (s : PostView) (k : V K) (x : Session) (stops : Bool) (link link_after : About) (m : LaneView) (s' : PostView) (k' : V K) (zs ys : List Session)
    → SoFar secret desk s0 k0 xs n s k false false → s.lane.over ≡ false → m ≡ handed s.lane link → s'.lane ≡ got_back m link_after → Serves secret k (told_of s s') link link_after x.end stops k' → x.number ≡ n → zs ≡ xs → ys ≡ zs ++ x ∷ []
    → SoFar secret desk s0 k0 ys (n + 1) s' k' (session_full x) stops
so_far_more {K} secret desk s0 k0 xs n s k x stops link link_after m s' k' zs ys far open' came back h num same added =
    let grew : ys ≡ xs ++ x ∷ [] = added ∙ ap (λ (l : List Session). l ++ x ∷ []) same in
    let lane : s'.lane ≡ got_back (handed s.lane link) link_after = back ∙ ap (λ (l : LaneView). got_back l link_after) came in
    record {
      runs = subst (λ (l : List Session). LaneRuns secret desk.term s0 k0 l s' k') (sym grew) (runs_more session_places session_full (LaneTells secret desk.term) s0 k0 xs s k x s' k' far.runs (does_one secret desk.term s s' k k' x stops link link_after (ap (λ (d : DeskId). d.term) far.desk_is) open' lane h));
      desk_is = h.entered.rights.desk ∙ far.desk_is;
      desk_was = far.desk_was;
      base_is = h.entered.rights.base ∙ far.base_is;
      some = subst (λ (b : Option (Origin K)). IsSome b) (sym h.entered.rights.base) far.some;
      count = ap length grew ∙ (length-append xs (x ∷ []) ∙ (let c = far.count in omega arith));
      numbered = subst AreNumbered (sym grew) (numbered_more xs x n far.numbered far.count num);
      met_is = ap (some_is session_full) grew ∙ met_more session_full xs x far.met_is;
      made = far.made ++ h.new;
      made_is = h.entered.grew ∙ ap (λ (l : List E). l ++ h.new) far.made_is ∙ append_assoc (own_entries k0) far.made h.new;
      stops = stops_more far.made h.new stops x.end far.stops h.named h.stops_are;
    }

pub far_on : {K : Type 0} (secret : List ℕ) (desk : DeskId) (s0 : PostView) (k0 : V K) (xs : List Session) (n : ℕ) (s : PostView) (k : V K) {met stopped : Bool} → met ≡ false → stopped ≡ false → SoFar secret desk s0 k0 xs n s k met stopped → SoFar secret desk s0 k0 xs n s k false false
far_on secret desk s0 k0 xs n s k {met} {stopped} none goes far =
    subst (λ (b : Bool). SoFar secret desk s0 k0 xs n s k b false) none (subst (SoFar secret desk s0 k0 xs n s k met) goes far)

pub ran_as : {K : Type 0} (secret : List ℕ) (desk : DeskId) (s0 : PostView) (k0 : V K) (xs : List Session) (n : ℕ) (s : PostView) (k : V K) (end : LaneEnd) (zs : List Session) (s' : PostView) (met stopped : Bool) → SoFar secret desk s0 k0 xs n s k met stopped → met ≡ is_term_full end → stopped ≡ is_stopped end → zs ≡ xs → Closes end xs k.seen s s' → LaneRan secret desk.term s0 k0 zs end s' k
ran_as secret desk s0 k0 xs n s k end zs s' met stopped far ended stopping same closes = subst (λ (l : List Session). LaneRan secret desk.term s0 k0 l end s' k) (sym same) (record {
  before_last = s;
  runs = far.runs;
  closes = closes;
  numbered = far.numbered;
  met = far.met_is ∙ ended;
  made = far.made;
  made_is = far.made_is;
  stops = subst (λ (b : Bool). StopsLast b far.made) stopping far.stops;
  desk = far.desk_is ∙ sym far.desk_was;
  base = far.base_is;
})

pub ran_stopped : {K : Type 0} (secret : List ℕ) (desk : DeskId) (s0 : PostView) (k0 : V K) (xs : List Session) (x : Session) (n : ℕ) (s' : PostView) (k' : V K) (ys : List Session) (stops : Bool)
    → SoFar secret desk s0 k0 ys n s' k' (session_full x) stops → ys ≡ xs ++ x ∷ [] → IfStops stops x.end k'.seen → stops ≡ true → LaneRan secret desk.term s0 k0 ys causes.Stopped s' k'
ran_stopped secret desk s0 k0 xs x n s' k' ys stops far grew stopped so =
    let at : StopsAt x.end k'.seen = subst (λ (b : Bool). IfStops b x.end k'.seen) so stopped in
    ran_as secret desk s0 k0 ys n s' k' causes.Stopped ys s' (session_full x) stops far (stops_unfull x.end k'.seen at) so refl (refl, (xs, x, grew, at))

pub ran_full : {K : Type 0} (secret : List ℕ) (desk : DeskId) (s0 : PostView) (k0 : V K) (xs : List Session) (x : Session) (n : ℕ) (s' : PostView) (k' : V K) (ys : List Session) (stops : Bool)
    → SoFar secret desk s0 k0 ys n s' k' (session_full x) stops → ys ≡ xs ++ x ∷ [] → stops ≡ false → is_full x.end ≡ true → LaneRan secret desk.term s0 k0 ys causes.TermFull s' k'
ran_full secret desk s0 k0 xs x n s' k' ys stops far grew goes so = ran_as secret desk s0 k0 ys n s' k' causes.TermFull ys s' (session_full x) stops far so goes refl (refl, (xs, x, grew, so))
