-- What the rounds of one kit come to in the whole history.
use Rattle.std.proofs.Common.{◌≡◌, ℕ, ◌+◌, ◌-◌, ◌^◌, ◌<◌, List, [], ◌∷◌, length, Option, true, refl, sym, ap, ◌∙◌, subst, arith}
use Rattle.sat_base.specs.Outside.{with_front}
use Rattle.sat_base.specs.Ticks.{TicksView}
use Rattle.turnstile.specs.History.{own}
use Rattle.desk_runs.specs.Runs.{Acts, some_is}
use Rattle.sat_book.specs.Legal.{E}
use Rattle.sat_sessions.specs.Draws.{Draws, Gives}
use Rattle.sat_sessions.specs.Rounds.{KitView, RoundTells, RoundsClose, is_by_round, round_ends, round_places, told_of_kit}
use Rattle.sat_sessions.specs.Sessions.{V}
use Rattle.sat_sessions.specs.declared.rounds.Round.{Round}
use Rattle.sat_sessions.specs.declared.rounds.RoundsEnd.{RoundsEnd}
use Rattle.sat_sessions.specs.declared.rounds.RoundsEnd.TheVariants as causes
use Rattle.sat_term.specs.Workers.{KitRow, RoundHolds, Telling}
use Rattle.sat_term.specs.Term.{AreTold, RoundCause, RoundClauses}
use Rattle.sat_sessions.proofs.Among.{draws_nothing, draws_then}
use Rattle.sat_term.proofs.LaneLaws.{one_more}

module _ {N : Type 0} (Tells : Telling N) (h : List E) where
  abbrev Did : KitView N → List Round → List E → KitView N → Type 0
  Did = Acts round_places (RoundTells Tells) h

  did_given : (s : KitView N) (xs : List Round) (made : List E) (s' : KitView N) → Did s xs made s' → s'.ticks.given < 2 ^ 64 - 1 → s'.ticks.given ≡ s.ticks.given + length xs
  did_given s [] made s' a low = ap (λ (z : KitView N). z.ticks.given) a.0 ∙ omega arith
  did_given s (x ∷ xs) made s' a low = let r = one_more s.ticks.given a.0.ticks.given s'.ticks.given (length xs) (ap (λ (z : TicksView). z.given) a.5.ticks_are) (did_given a.0 xs a.2 s' a.6) low in omega arith

  did_draw : (s : KitView N) (xs : List Round) (made : List E) (s' : KitView N) → Did s xs made s' → Draws (told_of_kit s s') made
  did_draw s [] made s' a = subst (λ (l : List E). Draws (told_of_kit s s') l) (sym a.1) (draws_nothing (told_of_kit s s') (ap (λ (z : KitView N). z.coming) a.0) (ap (λ (z : KitView N). z.words) a.0))
  did_draw s (x ∷ xs) made s' a = subst (λ (l : List E). Draws (told_of_kit s s') l) (sym a.3) (draws_then s.coming a.0.coming s'.coming s.words a.0.words s'.words s.words_faults a.0.words_faults s'.words_faults a.1 a.2 a.5.draws (did_draw a.0 xs a.2 s' a.6))

  did_tell : (s : KitView N) (xs : List Round) (made : List E) (m s' : KitView N) → Did s xs made m → s'.nodes ≡ m.nodes → s'.words_faults ≡ m.words_faults → AreTold Tells h s xs made s'
  did_tell s [] made m s' a same faults = (a.1, same ∙ ap (λ (z : KitView N). z.nodes) a.0, faults ∙ ap (λ (z : KitView N). z.words_faults) a.0)
  did_tell s (x ∷ xs) made m s' a same faults = (a.0, a.1, a.2, a.3, a.4, a.5.tells, did_tell a.0 xs a.2 m s' a.6 same faults)

  -- what the last wait leaves
  record IsSame (s s' : KitView N) : Type 0 where
    pub given : s'.ticks.given ≡ s.ticks.given
    pub nodes : s'.nodes ≡ s.nodes
    pub coming : s'.coming ≡ s.coming
    pub words : s'.words ≡ s.words
    pub words_faults : s'.words_faults ≡ s.words_faults

  same_but : (s s' : KitView N) (ticks : TicksView) → ticks.given ≡ s.ticks.given → s' ≡ record s { ticks = ticks } → IsSame s s'
  same_but s s' ticks given e = record {
    given = ap (λ (z : KitView N). z.ticks.given) e ∙ given;
    nodes = ap (λ (z : KitView N). z.nodes) e;
    coming = ap (λ (z : KitView N). z.coming) e;
    words = ap (λ (z : KitView N). z.words) e;
    words_faults = ap (λ (z : KitView N). z.words_faults) e;
  }

  closes_same : (end : RoundsEnd) (xs : List Round) (s s' : KitView N) → RoundsClose end xs s s' → IsSame s s' × RoundCause end xs s'
  closes_same causes.Over xs s s' c = (same_but s s' (record s.ticks { over = true }) refl c, ap (λ (z : KitView N). z.ticks.over) c)
  closes_same causes.Round xs s s' c = (same_but s s' s.ticks refl c.0, c.1)
  closes_same causes.NoMemory xs s s' c = (same_but s s' s.ticks refl c, tt)

  round_clauses_at : (row : KitRow N) (made : List E) (m : KitView N) → Did row.before row.rounds made m → RoundsClose row.end row.rounds m row.after → made ≡ own (row.number ∷ []) h → some_is round_ends row.rounds ≡ is_by_round row.end → RoundClauses Tells h row
  round_clauses_at row made m a closes is met =
      let last = closes_same row.end row.rounds m row.after closes in
      let same = last.0 in
      let d : Draws (told_of_kit row.before m) (own (row.number ∷ []) h) = subst (λ (l : List E). Draws (told_of_kit row.before m) l) is (did_draw row.before row.rounds made m a) in
      record {
        given = λ low. (let e = same.given in let r = did_given row.before row.rounds made m a (omega arith) in omega arith);
        cause = last.1;
        met = met;
        gave = d.gave;
        gives = subst (λ (o : Option (List ℕ)). Gives row.before.coming d.gave o) (sym same.coming) d.gives;
        moments = d.moments;
        drew = d.drew;
        draws = d.draws ∙ ap (with_front d.drew) (sym same.words);
        words = d.words;
        told = subst (λ (l : List E). AreTold Tells h row.before row.rounds l row.after) is (did_tell row.before row.rounds made m row.after a same.nodes same.words_faults);
      }

pub round_clauses : {K : Type 0} {N : Type 0} (Tells : Telling N) (history : List E) (u : V K) (row : KitRow N) → RoundHolds Tells u row → u.seen ≡ history → RoundClauses Tells history row
round_clauses Tells history u row x is = subst (λ (l : List E). RoundClauses Tells l row) is (round_clauses_at Tells u.seen row (own (row.number ∷ []) u.seen) x.before_last x.done.acts x.closes refl x.met)
