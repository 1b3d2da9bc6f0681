-- What a worker did, as its own pass knows it and as the whole pass does.
use Rattle.std.proofs.Common.{◌≡◌, ℕ, List, [], ◌∷◌, ◌++◌, sym, ap, subst, ◌∙◌}
use Rattle.turnstile.specs.History.{own}
use Rattle.turnstile.specs.Known.{SameRights, own_entries}
use Rattle.desk_runs.specs.Gathered.{Keeps}
use Rattle.desk_runs.specs.Runs.{Lasts}
use Rattle.desk_runs.proofs.Doing.{done_kept, runs_done}
use Rattle.sat_sessions.specs.Lanes.{PostView, LaneRan, LaneTells, is_stopped, session_places, session_full}
use Rattle.sat_sessions.specs.Rounds.{KitView, RoundTells, RoundsRan, round_places, round_full}
use Rattle.sat_book.specs.Legal.{E}
use Rattle.sat_sessions.specs.Serves.{StopsLast}
use Rattle.sat_sessions.specs.Sessions.{V}
use Rattle.sat_sessions.specs.declared.lanes.LaneEnd.{LaneEnd}
use Rattle.sat_sessions.specs.declared.rounds.Round.{Round}
use Rattle.sat_sessions.specs.declared.rounds.RoundsEnd.{RoundsEnd}
use Rattle.sat_sessions.specs.declared.told.Session.{Session}
use Rattle.sat_sessions.proofs.LaneLemmas.{closes_later, lane_lasts}
use Rattle.sat_term.specs.Workers.{Every, KitRow, LaneHolds, LaneRow, RoundHolds, Telling}
use Rattle.sat_term.proofs.Rows.{every_map}

pub lane_holds : {K : Type 0} (secret : List ℕ) (term : ℕ) (k : V K) (s : PostView) (xs : List Session) (end : LaneEnd) (s' : PostView) (k' : V K) (n : ℕ) → k.numbers ≡ n ∷ [] → own_entries k ≡ [] → LaneRan secret term s k xs end s' k'
    → SameRights k k' × LaneHolds secret term k' (record { number = n; before = s; sessions = xs; end = end; after = s' })
lane_holds secret term k s xs end s' k' n nums idle ran =
    let done = runs_done session_places session_full (LaneTells secret term) (lane_lasts secret term) s k xs ran.before_last k' n nums idle ran.runs in
    let own_is : own (n ∷ []) k'.seen ≡ ran.made = ap (λ (l : List ℕ). own l k'.seen) (sym (done.0.numbers ∙ nums)) ∙ ran.made_is ∙ ap (λ (l : List E). l ++ ran.made) idle in (
      done.0,
      record {
        before_last = ran.before_last;
        done = done.1;
        closes = ran.closes;
        numbered = ran.numbered;
        met = ran.met;
        stops = subst (StopsLast (is_stopped end)) (sym own_is) ran.stops;
      },
    )

pub lane_kept : {K : Type 0} (secret : List ℕ) (term : ℕ) (r u : V K) (row : LaneRow) → Keeps r u → LaneHolds secret term r row → LaneHolds secret term u row
lane_kept secret term r u row keeps h = record {
  before_last = h.before_last;
  done = done_kept session_places session_full (LaneTells secret term) (lane_lasts secret term) r u row.number row.before row.sessions h.before_last keeps h.done;
  closes = closes_later row.end row.sessions r.seen u.seen h.before_last row.after keeps.begins h.closes;
  numbered = h.numbered;
  met = h.met;
  stops = subst (StopsLast (is_stopped row.end)) (sym (keeps.same row.number h.done.answers)) h.stops;
}

pub lanes_kept : {K : Type 0} (secret : List ℕ) (term : ℕ) (r u : V K) (rows : List LaneRow) → Keeps r u → Every (LaneHolds secret term r) rows → Every (LaneHolds secret term u) rows
lanes_kept secret term r u rows keeps e = every_map (LaneHolds secret term r) (LaneHolds secret term u) (λ row h. lane_kept secret term r u row keeps h) rows e

module _ {N : Type 0} (Tells : Telling N) where
  round_lasts : Lasts Tells → Lasts (RoundTells Tells)
  round_lasts lasts s x new h h' s' t a = record { not_over = a.not_over; ticks_are = a.ticks_are; draws = a.draws; tells = lasts s x new h h' s' t a.tells }

  pub round_holds : {K : Type 0} (k : V K) (s : KitView N) (xs : List Round) (end : RoundsEnd) (s' : KitView N) (k' : V K) (n : ℕ) → k.numbers ≡ n ∷ [] → own_entries k ≡ [] → RoundsRan Tells s k xs end s' k'
      → SameRights k k' × RoundHolds Tells k' (record { number = n; before = s; rounds = xs; end = end; after = s' })
  round_holds k s xs end s' k' n nums idle ran =
      let done = runs_done round_places round_full (RoundTells Tells) (round_lasts ran.lasts) s k xs ran.before_last k' n nums idle ran.runs in
      (done.0, record { before_last = ran.before_last; done = done.1; closes = ran.closes; met = ran.met })

  pub round_kept : {K : Type 0} → Lasts Tells → (r u : V K) (row : KitRow N) → Keeps r u → RoundHolds Tells r row → RoundHolds Tells u row
  round_kept lasts r u row keeps h = record {
    before_last = h.before_last;
    done = done_kept round_places round_full (RoundTells Tells) (round_lasts lasts) r u row.number row.before row.rounds h.before_last keeps h.done;
    closes = h.closes;
    met = h.met;
  }
