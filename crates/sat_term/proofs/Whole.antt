-- The whole term, once the desk is closed.
use Rattle.std.proofs.Common.{◌≡◌, ℕ, ◌+◌, ◌^◌, ◌≤◌, List, [], ◌∷◌, ◌++◌, map, length, Bool, true, Some, Option, refl, sym, ap, ◌∙◌, subst, inl, inr}
use Rattle.std.specs.Prelude.{◌||◌, flat_map, nat_lt, cond}
use Rattle.std.proofs.lemmas.Bool.{or_cases}
use mathlib.Core.List.{map-append}
use Rattle.turnstile.specs.History.{own}
use Rattle.turnstile.specs.Known.{DeskId, first_pass, own_entries}
use Rattle.desk_runs.specs.Entered.{Marked}
use Rattle.desk_runs.specs.Numbered.{Covers, places_of_number, times}
use Rattle.desk_runs.specs.Runs.{some_is}
use Rattle.desk_runs.proofs.Counting.{covers_rest, flat_again, once_each, rises_apart}
use Rattle.desk_runs.proofs.Running.{acts_places}
use Rattle.machine_history.specs.Orders.{SettleOnce}
use Rattle.sat_base.specs.Keeper.{KeeperView}
use Rattle.sat_book.specs.Book.{AreOf, Keeps, Spell, opening_of, start_of}
use Rattle.sat_book.specs.Legal.{E, IsHistory, last_shown, said_of}
use Rattle.sat_book.specs.Paid.{ClosedMonthsStay, PaysByTariff}
use Rattle.sat_book.specs.declared.opening.Opening.{Opening}
use Rattle.sat_book.specs.declared.opening.Origin.{Origin}
use Rattle.sat_sessions.specs.Lanes.{PostView, LaneTells, session_places, session_full}
use Rattle.sat_sessions.specs.Rounds.{RoundTells, round_places, round_full}
use Rattle.sat_sessions.specs.Sessions.{V}
use Rattle.sat_sessions.specs.declared.lanes.LaneEnd.{LaneEnd}
use Rattle.sat_sessions.specs.declared.told.Session.{Session}
use Rattle.sat_term.specs.Workers.{AllDone, AreRows, Every, KitRow, KitsView, LaneHolds, LaneRow, RoundHolds, RoundsLeft, Telling, lanes_of}
use Rattle.sat_term.specs.Term.{LaneClauses, TermClauses, WholeTerm, all_places, met_full, sessions_of}
use Rattle.sat_term.specs.declared.term.Ends.{Ends}
use Rattle.sat_term.specs.declared.term.TermLog.{TermLog}
use Rattle.sat_term.specs.declared.term.Term.{Term}
use Rattle.sat_term.proofs.LaneLaws.{lane_clauses}
use Rattle.sat_term.proofs.RoundLaws.{round_clauses}

lanes_full : {K : Type 0} (secret : List ℕ) (term : ℕ) (u : V K) (rows : List LaneRow) → Every (LaneHolds secret term u) rows → some_is (some_is session_full) (map (λ (r : LaneRow). r.sessions) rows) ≡ true → Marked u
lanes_full secret term u [] e h = absurd (cc)
lanes_full secret term u (r ∷ rows) e h = elim (or_cases (some_is session_full r.sessions) (some_is (some_is session_full) (map (λ (x : LaneRow). x.sessions) rows)) h) [
  | inl q ↦ e.0.done.full q
  | inr q ↦ lanes_full secret term u rows e.1 q
]

lanes_told : {K : Type 0} (secret : List ℕ) (term : ℕ) (u : V K) (rows : List LaneRow) → Every (LaneHolds secret term u) rows → map (places_of_number u.seen) (map (λ (r : LaneRow). r.number) rows) ≡ map (flat_map session_places) (map (λ (r : LaneRow). r.sessions) rows)
lanes_told secret term u [] e = refl
lanes_told secret term u (r ∷ rows) e = λ i. acts_places session_places (LaneTells secret term) u.seen r.before r.sessions (own (r.number ∷ []) u.seen) e.0.before_last e.0.done.acts i ∷ lanes_told secret term u rows e.1 i

round_told : {K : Type 0} {N : Type 0} (Tells : Telling N) (u : V K) (row : KitRow N) → RoundHolds Tells u row → places_of_number u.seen row.number ≡ flat_map round_places row.rounds
round_told Tells u row x = acts_places round_places (RoundTells Tells) u.seen row.before row.rounds (own (row.number ∷ []) u.seen) x.before_last x.done.acts

every_clause : {K : Type 0} (secret : List ℕ) (term : ℕ) (history : List E) (u : V K) (rows : List LaneRow) → Every (LaneHolds secret term u) rows → u.seen ≡ history → Every (LaneClauses secret term history) rows
every_clause secret term history u [] e is = tt
every_clause secret term history u (r ∷ rows) e is = (lane_clauses secret term history u r e.0 is, every_clause secret term history u rows e.1 is)

module _ {N M O : Type 0} (AuditTells : Telling N) (RepairTells : Telling M) (TallyTells : Telling O) where
  -- the workers' numbers, and what they name, once the desk is closed
  whole_term : {K : Type 0} (secret : List ℕ) (term : ℕ) (desk : DeskId) (origin : Origin K) (u : V K) (bs fs : List PostView) (kits kits' : KitsView N M O) (log : TermLog) (left : RoundsLeft)
      → desk.term ≡ term → AllDone AuditTells RepairTells TallyTells secret term (first_pass desk (Some origin)) bs kits u fs kits' log left → AreOf u.base u.seen → own_entries u ≡ u.seen → ((m : ℕ) → u.mark ≡ Some m → length u.seen ≡ u.desk.term)
      → (places : List (List ℕ)) → places ≡ map (flat_map session_places) (lanes_of log) ++ flat_map round_places left.audits ∷ flat_map round_places left.repairs ∷ flat_map round_places left.tallies ∷ []
      → (full : Bool) → full ≡ some_is (some_is session_full) (lanes_of log) || (some_is round_full left.audits || (some_is round_full left.repairs || some_is round_full left.tallies))
      → WholeTerm term origin.opening u.seen log.numbers.items places full
  whole_term {K} secret term desk origin u bs fs kits kits' log left same_term a legal0 all_own full0 places places_are full full_are =
      let legal : IsHistory (start_of origin.opening) origin.opening.faults u.seen = subst (λ (b : Option (Origin K)). AreOf b u.seen) a.gathered.base_is legal0 in
      let filled : (m : ℕ) → u.mark ≡ Some m → length u.seen ≡ term = λ m q. full0 m q ∙ (ap (λ (d : DeskId). d.term) a.gathered.desk_is ∙ same_term) in
      let ns : List ℕ = log.numbers.items in
      let mine : own (0 ∷ ns) u.seen ≡ u.seen = ap (λ (l : List ℕ). own l u.seen) (sym a.gathered.numbers_are) ∙ all_own in
      let covered : Covers ns u.seen = covers_rest 0 ns u.seen mine (a.gathered.idle 0 refl) in
      let apart = rises_apart 0 ns (0 + 2 ^ 32) a.gathered.rises in
      let f : ℕ → List ℕ = places_of_number u.seen in
      let told : map f ns ≡ map (flat_map session_places) (lanes_of log) ++ flat_map round_places left.audits ∷ flat_map round_places left.repairs ∷ flat_map round_places left.tallies ∷ [] =
      ap (map f) a.numbers_are ∙ (map-append f a.lane_numbers (a.audit_number ∷ a.repair_number ∷ a.tally_number ∷ []) ∙ (λ i.
      (ap (map f) (sym a.are_rows.numbers_are) ∙ (lanes_told secret term u a.rows a.holds ∙ ap (map (flat_map session_places)) a.are_rows.lanes_are)) i
      ++ round_told AuditTells u _ a.audit i ∷ round_told RepairTells u _ a.repair i ∷ round_told TallyTells u _ a.tally i ∷ [])) in
      let told' : map f ns ≡ places = told ∙ sym places_are in
      let marked : full ≡ true → Marked u = λ h. elim (or_cases (some_is (some_is session_full) (lanes_of log)) (some_is round_full left.audits || (some_is round_full left.repairs || some_is round_full left.tallies)) (sym full_are ∙ h)) [
        | inl q ↦ lanes_full secret term u a.rows a.holds (ap (some_is (some_is session_full)) a.are_rows.lanes_are ∙ q)
        | inr q ↦ elim (or_cases (some_is round_full left.audits) (some_is round_full left.repairs || some_is round_full left.tallies) q) [
          | inl r ↦ a.audit.done.full r
          | inr r ↦ elim (or_cases (some_is round_full left.repairs) (some_is round_full left.tallies) r) [
            | inl s ↦ a.repair.done.full s
            | inr s ↦ a.tally.done.full s
          ]
        ]
      ] in
      let once : (p : ℕ) → times p (flat_map (λ (ps : List ℕ). ps) places) ≡ cond (nat_lt p (length u.seen)) 1 0 =
      λ p. ap (λ (l : List (List ℕ)). times p (flat_map (λ (ps : List ℕ). ps) l)) (sym told') ∙ (ap (times p) (flat_again f ns) ∙ once_each ns u.seen p legal.places apart covered) in
      record { legal = legal; apart = apart; covered = covered; told = told'; once = once; full_is = λ h. (let m = marked h in filled m.0 m.1) }

  pub whole : {K : Type 0} (secret : List ℕ) (term : ℕ) (desk : DeskId) (origin : Origin K) (v u : V K) (bs fs : List PostView) (kits kits' : KitsView N M O) (log : TermLog) (left : RoundsLeft) (t : Term) (ends : Ends)
      → desk.term ≡ term → v ≡ first_pass desk (Some origin) → AllDone AuditTells RepairTells TallyTells secret desk.term v bs kits u fs kits' log left
      → t.opening.items ≡ origin.opening.rows → t.history.items ≡ u.seen → t.passes ≡ log.numbers → t.lanes ≡ log.lanes → ends.lanes ≡ log.ends
      → left ≡ record { audits = t.audits.items; repairs = t.repairs.items; tallies = t.tallies.items; audit_end = ends.audit; repair_end = ends.repair; tally_end = ends.tally }
      → AreOf u.base u.seen → own_entries u ≡ u.seen → ((m : ℕ) → u.mark ≡ Some m → length u.seen ≡ u.desk.term)
      → TermClauses AuditTells RepairTells TallyTells secret term origin.opening t ends bs fs kits kits'
  whole {K} secret term desk origin v u bs fs kits kits' log left t ends same_term first a0 rows hist nums lanes lane_ends left_is legal all_own full0 =
      let now : RoundsLeft = record { audits = t.audits.items; repairs = t.repairs.items; tallies = t.tallies.items; audit_end = ends.audit; repair_end = ends.repair; tally_end = ends.tally } in
      let a : AllDone AuditTells RepairTells TallyTells secret term (first_pass desk (Some origin)) bs kits u fs kits' log now =
      subst (λ (z : ℕ × V K × RoundsLeft). AllDone AuditTells RepairTells TallyTells secret z.0 z.1 bs kits u fs kits' log z.2) (λ i. (same_term i, first i, left_is i)) a0 in
      let passes : t.passes.items ≡ log.numbers.items = ap (λ v. v.items) nums in
      let sess : sessions_of t ≡ lanes_of log = ap (map (λ v. v.items)) (ap (λ v. v.items) lanes) in
      let there : u.seen ≡ t.history.items = sym hist in
      let base : WholeTerm term origin.opening u.seen log.numbers.items (all_places t) (met_full t) =
      whole_term secret term desk origin u bs fs kits kits' log now same_term a legal all_own full0
      (all_places t) (ap (λ (l : List (List Session)). map (flat_map session_places) l ++ flat_map round_places t.audits.items ∷ flat_map round_places t.repairs.items ∷ flat_map round_places t.tallies.items ∷ []) sess)
      (met_full t) (ap (λ (l : List (List Session)). some_is (some_is session_full) l || (some_is round_full t.audits.items || (some_is round_full t.repairs.items || some_is round_full t.tallies.items))) sess) in
      record {
        rows_are = rows;
        whole = subst (λ (z : List E × List ℕ). WholeTerm term origin.opening z.0 z.1 (all_places t) (met_full t)) (λ i. (there i, sym passes i)) base;
        lane_numbers = a.lane_numbers;
        audit_number = a.audit_number;
        repair_number = a.repair_number;
        tally_number = a.tally_number;
        passes_are = passes ∙ a.numbers_are;
        rows = a.rows;
        are_rows = subst (λ (z : List (List Session) × List LaneEnd). AreRows a.rows a.lane_numbers bs z.0 z.1 fs) (λ i. (sym sess i, sym (ap (λ v. v.items) lane_ends) i)) a.are_rows;
        lanes = every_clause secret term t.history.items u a.rows a.holds there;
        audit = round_clauses AuditTells t.history.items u _ a.audit there;
        repair = round_clauses RepairTells t.history.items u _ a.repair there;
        tally = round_clauses TallyTells t.history.items u _ a.tally there;
      }

-- the same where what is told is told from the opening that the first pass has
module _ {N M O : Type 0} (audit_tells : Option Opening → Telling N) (repair_tells : Option Opening → Telling M) (tally_tells : Option Opening → Telling O) where
  pub whole_from : {K : Type 0} (secret : List ℕ) (term : ℕ) (desk : DeskId) (origin : Origin K) (v u : V K) (bs fs : List PostView) (kits kits' : KitsView N M O) (log : TermLog) (left : RoundsLeft) (t : Term) (ends : Ends)
      → desk.term ≡ term → v ≡ first_pass desk (Some origin) → AllDone (audit_tells (opening_of v.base)) (repair_tells (opening_of v.base)) (tally_tells (opening_of v.base)) secret desk.term v bs kits u fs kits' log left
      → t.opening.items ≡ origin.opening.rows → t.history.items ≡ u.seen → t.passes ≡ log.numbers → t.lanes ≡ log.lanes → ends.lanes ≡ log.ends
      → left ≡ record { audits = t.audits.items; repairs = t.repairs.items; tallies = t.tallies.items; audit_end = ends.audit; repair_end = ends.repair; tally_end = ends.tally }
      → AreOf u.base u.seen → own_entries u ≡ u.seen → ((m : ℕ) → u.mark ≡ Some m → length u.seen ≡ u.desk.term)
      → TermClauses (audit_tells (Some origin.opening)) (repair_tells (Some origin.opening)) (tally_tells (Some origin.opening)) secret term origin.opening t ends bs fs kits kits'
  whole_from {K} secret term desk origin v u bs fs kits kits' log left t ends same_term first a0 =
      whole (audit_tells (Some origin.opening)) (repair_tells (Some origin.opening)) (tally_tells (Some origin.opening)) secret term desk origin v u bs fs kits kits' log left t ends same_term first
      (subst (λ (b : Option Opening). AllDone (audit_tells b) (repair_tells b) (tally_tells b) secret desk.term v bs kits u fs kits' log left) (ap (λ (k : V K). opening_of k.base) first) a0)

-- the closed book has the origin of the one that the desk began with
pub origin_same : {K : Type 0} (desk : DeskId) (origin origin' : Origin K) (v u : V K) → Some origin' ≡ u.base → u.base ≡ v.base → v ≡ first_pass desk (Some origin) → origin' ≡ origin
origin_same {K} desk origin origin' v u closed same first =
    let is : Some origin' ≡ Some origin = closed ∙ (same ∙ ap (λ (k : V K). k.base) first) in
    cc

pub shown_same : (opening opening' : Opening) (history history' : List E) (n : ℕ) → opening' ≡ opening → history' ≡ history → last_shown opening'.faults history' ≤ n → last_shown opening.faults history ≤ n
shown_same opening opening' history history' n p q = subst (λ (z : Opening × List E). last_shown z.0.faults z.1 ≤ n) (λ i. (p i, q i))

pub spell_same : (opening opening' : Opening) → opening' ≡ opening → Spell opening' → Spell opening
spell_same opening opening' p = subst (λ (o : Opening). Spell o) p

pub once_same : (opening opening' : Opening) (history history' : List E) → opening' ≡ opening → history' ≡ history → SettleOnce (start_of opening') (map said_of history') → SettleOnce (start_of opening) (map said_of history)
once_same opening opening' history history' p q = subst (λ (z : Opening × List E). SettleOnce (start_of z.0) (map said_of z.1)) (λ i. (p i, q i))

pub pays_same : (opening opening' : Opening) (history history' : List E) → opening' ≡ opening → history' ≡ history → PaysByTariff (start_of opening') history' → PaysByTariff (start_of opening) history
pays_same opening opening' history history' p q = subst (λ (z : Opening × List E). PaysByTariff (start_of z.0) z.1) (λ i. (p i, q i))

pub closed_same : (opening opening' : Opening) (history history' : List E) → opening' ≡ opening → history' ≡ history → ClosedMonthsStay (start_of opening') history' → ClosedMonthsStay (start_of opening) history
closed_same opening opening' history history' p q = subst (λ (z : Opening × List E). ClosedMonthsStay (start_of z.0) z.1) (λ i. (p i, q i))

module _ {K : Type 0} (about : K → KeeperView) where
  pub keeps_same : (origin origin' : Origin K) (history history' : List E) (keeper : K) → origin' ≡ origin → history' ≡ history
      → Keeps about origin'.first origin'.opened keeper (start_of origin'.opening) history'
      → Keeps about origin.first origin.opened keeper (start_of origin.opening) history
  keeps_same origin origin' history history' keeper p q = subst (λ (z : Origin K × List E). Keeps about z.0.first z.0.opened keeper (start_of z.0.opening) z.1) (λ i. (p i, q i))
