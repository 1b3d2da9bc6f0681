-- Workers whose passes are joined again.
use Rattle.std.proofs.Common.{◌≡◌, ℕ, ◌-◌, ◌/◌, ◌≤◌, List, [], ◌∷◌, ◌++◌, map, sym, ap, ◌∙◌, subst, arith, append_assoc, Vec, Global}
use Rattle.turnstile.specs.Known.{Joined, kept_half, given_half, own_entries}
use Rattle.desk_runs.specs.Gathered.{Gathered}
use Rattle.desk_runs.proofs.Gathering.{gathered_none, gathered_more, keeps_first, keeps_second}
use Rattle.sat_sessions.specs.Lanes.{PostView, LaneRan}
use Rattle.sat_sessions.specs.Rounds.{RoundsRan}
use Rattle.sat_sessions.specs.Sessions.{V}
use Rattle.sat_sessions.specs.declared.lanes.LaneEnd.{LaneEnd}
use Rattle.sat_sessions.specs.declared.told.Session.{Session}
use Rattle.sat_term.specs.Workers.{AllDone, AreRows, KitsView, LaneHolds, LaneRow, LanesDone, RoundsLeft, Telling, lanes_of}
use Rattle.sat_term.specs.declared.term.TermLog.{TermLog}
use Rattle.sat_term.proofs.Holding.{lane_holds, lane_kept, lanes_kept, round_holds, round_kept}
use Rattle.sat_term.proofs.Rows.{every_snoc, rows_more}

-- a pass that was given away has one number
given_numbers : {K : Type 0} (v o0 : V K) (n : ℕ) → o0 ≡ given_half v → n ≡ o0.number → o0.numbers ≡ n ∷ []
given_numbers {K} v o0 n is_o is_n = ap (λ (k : V K). k.numbers) is_o ∙ ap (λ (m : ℕ). m ∷ []) (sym (is_n ∙ ap (λ (k : V K). k.number) is_o))

pub done_none : {K : Type 0} (secret : List ℕ) (term : ℕ) (v : V K) (befores afters : List PostView) (log : TermLog) → befores ≡ [] → afters ≡ [] → log.numbers.items ≡ [] → log.lanes.items ≡ [] → log.ends.items ≡ [] → LanesDone secret term v befores v afters log
done_none secret term v befores afters log b f n l e = record {
  gathered = subst (λ (ns : List ℕ). Gathered v ns v) (sym n) (gathered_none v);
  rows = [];
  are_rows = record { numbers_are = sym n; befores_are = sym b; lanes_are = sym (ap (map (λ (w : Vec Session Global). w.items)) l); ends_are = sym e; afters_are = sym f };
  holds = tt;
}

-- one lane more
pub done_more : {K : Type 0} (secret : List ℕ) (term : ℕ) (v l o0 r o u : V K) (bs bs' fs fs' : List PostView) (log log' : TermLog) (s s' : PostView) (xs : List Session) (end : LaneEnd) (n : ℕ)
    → l ≡ kept_half v → o0 ≡ given_half v → own_entries o0 ≡ [] → n ≡ o0.number → 2 ≤ v.spare → LanesDone secret term l bs r fs log → LaneRan secret term s o0 xs end s' o → Joined r o u
    → log'.numbers.items ≡ log.numbers.items ++ n ∷ [] → bs' ≡ bs ++ s ∷ [] → lanes_of log' ≡ lanes_of log ++ xs ∷ [] → log'.ends.items ≡ log.ends.items ++ end ∷ [] → fs' ≡ fs ++ s' ∷ []
    → LanesDone secret term v bs' u fs' log'
done_more secret term v l o0 r o u bs bs' fs fs' log log' s s' xs end n is_l is_o idle is_n wide done ran j ns_are bs_are ls_are es_are fs_are =
    let held = lane_holds secret term o0 s xs end s' o n (given_numbers v o0 n is_o is_n) idle ran in
    let row : LaneRow = record { number = n; before = s; sessions = xs; end = end; after = s' } in
    record {
      gathered = subst (λ (ns : List ℕ). Gathered v ns u) (sym ns_are) (gathered_more v l o0 r o u log.numbers.items n is_l is_o is_n wide done.gathered held.0 j);
      rows = done.rows ++ row ∷ [];
      are_rows = rows_more done.rows row log.numbers.items log'.numbers.items bs bs' (lanes_of log) (lanes_of log') log.ends.items log'.ends.items fs fs' done.are_rows ns_are bs_are ls_are es_are fs_are;
      holds = every_snoc (LaneHolds secret term u) done.rows row (lanes_kept secret term r u done.rows (keeps_first r o u j) done.holds) (lane_kept secret term o u row (keeps_second r o u j) held.1);
    }

module _ {N M O : Type 0} (AuditTells : Telling N) (RepairTells : Telling M) (TallyTells : Telling O) where
  -- all three workers of rounds are joined to the lanes
  pub all_done : {K : Type 0} (secret : List ℕ) (term : ℕ) (v0 v1 v2 v3 t0 r0 a0 r u1 u2 u3 a1 r1 t1 : V K) (bs fs : List PostView) (kits kits' : KitsView N M O) (log log' : TermLog) (left : RoundsLeft) (an rn tn : ℕ)
      → 8 ≤ v0.spare → v1 ≡ kept_half v0 → t0 ≡ given_half v0 → own_entries t0 ≡ [] → v2 ≡ kept_half v1 → r0 ≡ given_half v1 → own_entries r0 ≡ [] → v3 ≡ kept_half v2 → a0 ≡ given_half v2 → own_entries a0 ≡ []
      → an ≡ a0.number → rn ≡ r0.number → tn ≡ t0.number
      → LanesDone secret term v3 bs r fs log
      → RoundsRan AuditTells kits.audit a0 left.audits left.audit_end kits'.audit a1 → RoundsRan RepairTells kits.repair r0 left.repairs left.repair_end kits'.repair r1 → RoundsRan TallyTells kits.tally t0 left.tallies left.tally_end kits'.tally t1
      → Joined r a1 u1 → Joined u1 r1 u2 → Joined u2 t1 u3
      → log'.numbers.items ≡ log.numbers.items ++ an ∷ rn ∷ tn ∷ [] → log'.lanes ≡ log.lanes → log'.ends ≡ log.ends
      → AllDone AuditTells RepairTells TallyTells secret term v0 bs kits u3 fs kits' log' left
  all_done {K} secret term v0 v1 v2 v3 t0 r0 a0 r u1 u2 u3 a1 r1 t1 bs fs kits kits' log log' left an rn tn wide is1 ist idlet is2 isr idler is3 isa idlea ea er et done ran_a ran_r ran_t j1 j2 j3 nums lanes ends =
      let s1 : v1.spare ≡ v0.spare - v0.spare / 2 = ap (λ (k : V K). k.spare) is1 in
      let s2 : v2.spare ≡ v1.spare - v1.spare / 2 = ap (λ (k : V K). k.spare) is2 in
      let wide1 : 4 ≤ v1.spare = omega arith in
      let wide2 : 2 ≤ v2.spare = omega arith in
      let wide0 : 2 ≤ v0.spare = omega arith in
      let a = round_holds AuditTells a0 kits.audit left.audits left.audit_end kits'.audit a1 an (given_numbers v2 a0 an isa ea) idlea ran_a in
      let b = round_holds RepairTells r0 kits.repair left.repairs left.repair_end kits'.repair r1 rn (given_numbers v1 r0 rn isr er) idler ran_r in
      let c = round_holds TallyTells t0 kits.tally left.tallies left.tally_end kits'.tally t1 tn (given_numbers v0 t0 tn ist et) idlet ran_t in
      let g1 = gathered_more v2 v3 a0 r a1 u1 log.numbers.items an is3 isa ea wide2 done.gathered a.0 j1 in
      let g2 = gathered_more v1 v2 r0 u1 r1 u2 (log.numbers.items ++ an ∷ []) rn is2 isr er (omega arith) g1 b.0 j2 in
      let g3 = gathered_more v0 v1 t0 u2 t1 u3 ((log.numbers.items ++ an ∷ []) ++ rn ∷ []) tn is1 ist et wide0 g2 c.0 j3 in
      let all_nums : ((log.numbers.items ++ an ∷ []) ++ rn ∷ []) ++ tn ∷ [] ≡ log'.numbers.items = append_assoc (log.numbers.items ++ an ∷ []) (rn ∷ []) (tn ∷ []) ∙ (append_assoc log.numbers.items (an ∷ []) (rn ∷ tn ∷ []) ∙ sym nums) in
      let k1 = keeps_first r a1 u1 j1 in
      let k2 = keeps_first u1 r1 u2 j2 in
      let k3 = keeps_first u2 t1 u3 j3 in
      record {
        gathered = subst (λ (ns : List ℕ). Gathered v0 ns u3) all_nums g3;
        lane_numbers = log.numbers.items;
        audit_number = an;
        repair_number = rn;
        tally_number = tn;
        numbers_are = nums;
        rows = done.rows;
        are_rows = subst (λ (z : TermLog). AreRows done.rows log.numbers.items bs (lanes_of z) z.ends.items fs) (λ i. record { numbers = log.numbers; lanes = sym lanes i; ends = sym ends i }) done.are_rows;
        holds = lanes_kept secret term u2 u3 done.rows k3 (lanes_kept secret term u1 u2 done.rows k2 (lanes_kept secret term r u1 done.rows k1 done.holds));
        audit = round_kept AuditTells ran_a.lasts u2 u3 _ k3 (round_kept AuditTells ran_a.lasts u1 u2 _ k2 (round_kept AuditTells ran_a.lasts a1 u1 _ (keeps_second r a1 u1 j1) a.1));
        repair = round_kept RepairTells ran_r.lasts u2 u3 _ k3 (round_kept RepairTells ran_r.lasts r1 u2 _ (keeps_second u1 r1 u2 j2) b.1);
        tally = round_kept TallyTells ran_t.lasts t1 u3 _ (keeps_second u2 t1 u3 j3) c.1;
      }
