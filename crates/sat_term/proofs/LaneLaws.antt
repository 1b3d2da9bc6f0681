-- What the sessions of one lane come to in the whole history.
use Rattle.std.proofs.Common.{◌≡◌, ℕ, ◌+◌, ◌-◌, ◌^◌, ◌<◌, ◌≤◌, List, [], ◌∷◌, ◌++◌, length, Bool, true, false, cond, Some, None, Option, refl, sym, ap, ◌∙◌, subst, arith, append_assoc, append-nil}
use Rattle.sat_base.specs.Lane.{Links, LaneView, with_came, with_done}
use Rattle.sat_base.specs.Outside.{About, CountsExactly, Rose, counted, raised, with_front}
use Rattle.turnstile.specs.History.{own}
use Rattle.desk_runs.specs.Runs.{Acts, some_is}
use Rattle.sat_book.specs.Legal.{E}
use Rattle.sat_sessions.specs.Draws.{Draws, Gives}
use Rattle.sat_sessions.specs.Lanes.{PostView, AreNumbered, Closes, LaneTells, is_term_full, session_full, session_places, told_of, is_stopped}
use Rattle.sat_sessions.specs.Serves.{StopsLast}
use Rattle.sat_sessions.specs.Sessions.{V, is_words_fault}
use Rattle.sat_sessions.specs.declared.lanes.LaneEnd.{LaneEnd}
use Rattle.sat_sessions.specs.declared.lanes.LaneEnd.TheVariants as causes
use Rattle.sat_sessions.specs.declared.told.Session.{Session}
use Rattle.sat_sessions.proofs.Ending.{words_counted}
use Rattle.sat_term.specs.Workers.{LaneHolds, LaneRow}
use Rattle.sat_term.specs.Term.{LaneCause, LaneClauses, LinksGrew, count_of, ends_by_words, is_failed}
use Rattle.sat_sessions.proofs.Among.{draws_nothing, draws_then}
use Rattle.sat_base.proofs.Fetches.{counts_up}

pub one_more : (a b c n : ℕ) → b ≡ raised a → (c < 2 ^ 64 - 1 → c ≡ b + n) → c < 2 ^ 64 - 1 → c ≡ a + (n + 1)
one_more a b c n up rest low = let r : c ≡ b + n = rest low in omega arith

counts_one : (b : Bool) (old new : ℕ) → CountsExactly b old new → new < 2 ^ 64 - 1 → old + cond b 1 0 ≤ new
counts_one true old new c low = let a = c.0 in let d = c.1 in omega arith
counts_one false old new c low = omega (arith, c)

module _ (secret : List ℕ) (term : ℕ) (h : List E) where
  abbrev Did : PostView → List Session → List E → PostView → Type 0
  Did = Acts session_places (LaneTells secret term) h

  did_given : (s : PostView) (xs : List Session) (made : List E) (s' : PostView) → Did s xs made s' → s'.lane.given < 2 ^ 64 - 1 → s'.lane.given ≡ s.lane.given + length xs
  did_given s [] made s' a low = ap (λ (z : PostView). z.lane.given) a.0 ∙ omega arith
  did_given s (x ∷ xs) made s' a low = let r = one_more s.lane.given a.0.lane.given s'.lane.given (length xs) (ap (λ (z : LaneView). z.given) a.5.lane_is) (did_given a.0 xs a.2 s' a.6) low in omega arith

  did_draw : (s : PostView) (xs : List Session) (made : List E) (s' : PostView) → Did s xs made s' → Draws (told_of s s') made
  did_draw s [] made s' a = subst (λ (l : List E). Draws (told_of s s') l) (sym a.1) (draws_nothing (told_of s s') (ap (λ (z : PostView). z.coming) a.0) (ap (λ (z : PostView). z.words) a.0))
  did_draw s (x ∷ xs) made s' a = subst (λ (l : List E). Draws (told_of s s') l) (sym a.3) (draws_then s.coming a.0.coming s'.coming s.words a.0.words s'.words s.words_faults a.0.words_faults s'.words_faults a.1 a.2 a.5.draws (did_draw a.0 xs a.2 s' a.6))

  did_faults : (s : PostView) (xs : List Session) (made : List E) (s' : PostView) → Did s xs made s' → (s.words_faults ≤ s'.words_faults) × (s'.words_faults < 2 ^ 64 - 1 → s.words_faults + count_of ends_by_words xs ≤ s'.words_faults)
  did_faults s [] made s' a = let e : s'.words_faults ≡ s.words_faults = ap (λ (z : PostView). z.words_faults) a.0 in (omega arith, λ low. omega arith)
  did_faults s (x ∷ xs) made s' a =
      let r = did_faults a.0 xs a.2 s' a.6 in
      let counted : CountsExactly (is_words_fault x.end) s.words_faults a.0.words_faults = words_counted secret term (told_of s a.0) a.5.link a.5.link_after h x.end a.5.connects in
      let up = counts_up (is_words_fault x.end) s.words_faults a.0.words_faults counted in
      let r0 = r.0 in (
        omega arith,
        λ low.
            let rest = r.1 low in
            let one = counts_one (is_words_fault x.end) s.words_faults a.0.words_faults counted (omega arith) in
            omega arith,
      )

  links_same : (a b c d : List About) → a ≡ c → b ≡ d → ◌≡◌ {A = Option Links} (Some (record { came = a; done = b })) (Some (record { came = c; done = d }))
  links_same a b c d p q i = Some (record { came = p i; done = q i })

  did_links : (o : Option Links) (xs : List Session) (s : PostView) (made : List E) (s' : PostView) → s.lane.links ≡ o → Did s xs made s' → LinksGrew secret term h xs o s'.lane.links
  did_links None [] s made s' is a = ap (λ (z : PostView). z.lane.links) a.0 ∙ is
  did_links None (x ∷ xs) s made s' is a = did_links None xs a.0 a.2 s' (ap (λ (z : LaneView). z.links) a.5.lane_is ∙ ap (λ (o : Option Links). with_done (with_came o a.5.link) a.5.link_after) is) a.6
  did_links (Some l) [] s made s' is a = ([], [], ap (λ (z : PostView). z.lane.links) a.0 ∙ (is ∙ links_same l.came l.done (l.came ++ []) (l.done ++ []) (sym (append-nil l.came)) (sym (append-nil l.done))), tt)
  did_links (Some l) (x ∷ xs) s made s' is a =
      let t = a.5 in
      let l' : Links = record { came = l.came ++ t.link ∷ []; done = l.done ++ t.link_after ∷ [] } in
      let now : a.0.lane.links ≡ Some l' = ap (λ (z : LaneView). z.links) t.lane_is ∙ ap (λ (o : Option Links). with_done (with_came o t.link) t.link_after) is in
      let r : LinksGrew secret term h xs (Some l') s'.lane.links = did_links (Some l') xs a.0 a.2 s' now a.6 in (
        t.link ∷ r.0,
        t.link_after ∷ r.1,
        r.2 ∙ links_same (l'.came ++ r.0) (l'.done ++ r.1) (l.came ++ t.link ∷ r.0) (l.done ++ t.link_after ∷ r.1) (append_assoc l.came (t.link ∷ []) r.0) (append_assoc l.done (t.link_after ∷ []) r.1),
        ((told_of s a.0, t.connects), r.3),
      )

  did_wait : (s : PostView) (xs : List Session) (made : List E) (s' : PostView) → Did s xs made s' → s'.lane.faults ≡ s.lane.faults
  did_wait s [] made s' a = ap (λ (z : PostView). z.lane.faults) a.0
  did_wait s (x ∷ xs) made s' a = did_wait a.0 xs a.2 s' a.6 ∙ ap (λ (z : LaneView). z.faults) a.5.lane_is

  -- what the last wait leaves
  record IsSame (s s' : PostView) : Type 0 where
    pub given : s'.lane.given ≡ s.lane.given
    pub links : s'.lane.links ≡ s.lane.links
    pub coming : s'.coming ≡ s.coming
    pub words : s'.words ≡ s.words
    pub words_faults : s'.words_faults ≡ s.words_faults

  same_but : (s s' : PostView) (lane : LaneView) → lane.given ≡ s.lane.given → lane.links ≡ s.lane.links → s' ≡ record s { lane = lane } → IsSame s s'
  same_but s s' lane given links e = record {
    given = ap (λ (z : PostView). z.lane.given) e ∙ given;
    links = ap (λ (z : PostView). z.lane.links) e ∙ links;
    coming = ap (λ (z : PostView). z.coming) e;
    words = ap (λ (z : PostView). z.words) e;
    words_faults = ap (λ (z : PostView). z.words_faults) e;
  }

  closes_same : (end : LaneEnd) (xs : List Session) (s s' : PostView) → Closes end xs h s s' → IsSame s s'
  closes_same causes.Over xs s s' c = same_but s s' (record s.lane { over = true }) refl refl c
  closes_same causes.Failed xs s s' c = same_but s s' (record s.lane { faults = raised s.lane.faults }) refl refl c
  closes_same causes.Stopped xs s s' c = same_but s s' s.lane refl refl c.0
  closes_same causes.TermFull xs s s' c = same_but s s' s.lane refl refl c.0
  closes_same causes.Many xs s s' c = same_but s s' s.lane refl refl c.0
  closes_same causes.NoMemory xs s s' c = same_but s s' s.lane refl refl c

  rose_by : (a b : ℕ) → b ≡ raised a → Rose a b
  rose_by a b e = omega (arith, e)

  cause_of : (end : LaneEnd) (xs : List Session) (s0 s s' : PostView) → s.lane.faults ≡ s0.lane.faults → Closes end xs h s s' → LaneCause end xs h s0.lane s'.lane
  cause_of causes.Over xs s0 s s' f c = ap (λ (z : PostView). z.lane.over) c
  cause_of causes.Failed xs s0 s s' f c = subst (λ (n : ℕ). Rose n s'.lane.faults) f (rose_by s.lane.faults s'.lane.faults (ap (λ (z : PostView). z.lane.faults) c))
  cause_of causes.Stopped xs s0 s s' f c = c.1
  cause_of causes.TermFull xs s0 s s' f c = c.1
  cause_of causes.Many xs s0 s s' f c = c.1
  cause_of causes.NoMemory xs s0 s s' f c = tt

  failed_of : (end : LaneEnd) (xs : List Session) (s0 s s' : PostView) → s.lane.faults ≡ s0.lane.faults → Closes end xs h s s' → s'.lane.faults ≡ counted (is_failed end) s0.lane.faults
  failed_of causes.Over xs s0 s s' f c = ap (λ (z : PostView). z.lane.faults) c ∙ f
  failed_of causes.Failed xs s0 s s' f c = ap (λ (z : PostView). z.lane.faults) c ∙ ap raised f
  failed_of causes.Stopped xs s0 s s' f c = ap (λ (z : PostView). z.lane.faults) c.0 ∙ f
  failed_of causes.TermFull xs s0 s s' f c = ap (λ (z : PostView). z.lane.faults) c.0 ∙ f
  failed_of causes.Many xs s0 s s' f c = ap (λ (z : PostView). z.lane.faults) c.0 ∙ f
  failed_of causes.NoMemory xs s0 s s' f c = ap (λ (z : PostView). z.lane.faults) c ∙ f

  pub lane_clauses_at : (row : LaneRow) (made : List E) (m : PostView) → Did row.before row.sessions made m → Closes row.end row.sessions h m row.after → made ≡ own (row.number ∷ []) h → AreNumbered row.sessions → some_is session_full row.sessions ≡ is_term_full row.end → StopsLast (is_stopped row.end) (own (row.number ∷ []) h) → LaneClauses secret term h row
  lane_clauses_at row made m a closes is numbered met stops =
      let same = closes_same row.end row.sessions m row.after closes in
      let d : Draws (told_of row.before m) (own (row.number ∷ []) h) = subst (λ (l : List E). Draws (told_of row.before m) l) is (did_draw row.before row.sessions made m a) in
      let f = did_faults row.before row.sessions made m a in
      record {
        given = λ low. (let e = same.given in let r = did_given row.before row.sessions made m a (omega arith) in omega arith);
        numbered = numbered;
        cause = cause_of row.end row.sessions row.before m row.after (did_wait row.before row.sessions made m a) closes;
        met = met;
        stops = stops;
        failed = failed_of row.end row.sessions row.before m row.after (did_wait row.before row.sessions made m a) closes;
        links = subst (λ (o : Option Links). LinksGrew secret term h row.sessions row.before.lane.links o) (sym same.links) (did_links row.before.lane.links row.sessions row.before made m refl a);
        gave = d.gave;
        gives = subst (λ (o : Option (List ℕ)). Gives row.before.coming d.gave o) (sym same.coming) d.gives;
        moments = d.moments;
        drew = d.drew;
        draws = d.draws ∙ ap (with_front d.drew) (sym same.words);
        words = d.words;
        words_faults = λ low. (let e = same.words_faults in let r = f.1 (omega arith) in omega arith);
      }

pub lane_clauses : {K : Type 0} (secret : List ℕ) (term : ℕ) (history : List E) (u : V K) (row : LaneRow) → LaneHolds secret term u row → u.seen ≡ history → LaneClauses secret term history row
lane_clauses secret term history u row x is = subst (λ (l : List E). LaneClauses secret term l row) is (lane_clauses_at secret term u.seen row (own (row.number ∷ []) u.seen) x.before_last x.done.acts x.closes refl x.numbered x.met x.stops)
