-- The nodes that a round calls silent, and the targets that it doesn't tell as placed, are counted.
use Rattle.std.proofs.Common.{◌≡◌, ℕ, zero, suc, ◌+◌, ◌-◌, ◌^◌, ◌<◌, ◌≤◌, Bool, true, false, List, [], ◌∷◌, ◌++◌, length, Option, Some, None, Result, Ok, Err, refl, sym, ap, ◌∙◌, subst, cond, arith}
use Rattle.std.specs.Prelude.{count_by, if◌then◌else◌, map}
use Rattle.std.specs.Str.{bytes_eq}
use Rattle.sha2.specs.Sha256.{sha256}
use Rattle.std.proofs.lemmas.List.{length-map}
use Rattle.std.proofs.lemmas.List.Sums.{sum_by-cons}
use Rattle.sat_base.specs.declared.no_memory.NoMemory.{NoMemory as NoRoom}
use Rattle.sat_base.specs.declared.nodes.Fetched.{Fetched}
use Rattle.sat_base.specs.declared.nodes.Fetched.TheVariants as fetches
use Rattle.sat_base.specs.declared.requests.Place.{Place}
use Rattle.sat_base.specs.declared.scheme.Scheme.{Scheme}
use Rattle.sat_base.specs.Nodes.{is_unanswered}
use Rattle.sat_base.specs.Outside.{CountsExactly}
use Rattle.turnstile.specs.History.{total}
use Rattle.audit_core.specs.declared.plan.Heard.{Heard}
use Rattle.audit_core.specs.declared.rechecking.Checked.{Checked}
use Rattle.audit_core.specs.declared.rechecking.Checked.TheVariants as checks
use Rattle.audit_core.specs.declared.verdict.Silent.{Silent}
use Rattle.audit_core.specs.Heard.{is_out_of_memory, silent_of}
use Rattle.audit_core.specs.Recheck.{checked}
use Rattle.audit_core.specs.Verdict.{silent_indexes}
use Rattle.repair_core.specs.declared.outcome.RepairOutcome.{RepairOutcome}
use Rattle.repair_core.specs.declared.outcome.RepairOutcome.TheVariants as repairs
use Rattle.repair_core.specs.declared.plan.RepairPlan.{RepairPlan}
use Rattle.repair_core.specs.declared.rebuilt.Remade.{Remade}
use Rattle.machine_calls.specs.declared.call.Call.{Call}
use Rattle.machine_calls.specs.declared.reply.Reply.{Reply}
use Rattle.machine_calls.specs.declared.reply.Reply.TheVariants as replies
use Rattle.sat_book.specs.Legal.{E}
use Rattle.sat_sessions.specs.Draws.{as_moment}
use Rattle.sat_sessions.specs.declared.rounds.RoundEnd.{RoundEnd}
use Rattle.sat_sessions.specs.declared.rounds.RoundEnd.TheVariants as ends
use Rattle.node_asks.specs.Asks.{at_of, pieces_of}
use Rattle.node_asks.specs.Hearing.{fetched_in}
use Rattle.node_asks.specs.declared.remaking.Heeded.{Heeded}
use Rattle.node_rounds.specs.declared.kit.NodesView.{NodesView}
use Rattle.node_rounds.specs.declared.upkeep.Found.{Found}
use Rattle.node_rounds.specs.declared.upkeep.Found.TheVariants as founds
use Rattle.node_rounds.specs.declared.upkeep.Upkeep.{Upkeep}
use Rattle.node_rounds.specs.declared.upkeep.Upkeep.TheVariants as kinds
use Rattle.node_rounds.specs.Asked.{Finds, IsEnded, IsRepaired, IsSpreadOut, IsUnmended}
use Rattle.node_rounds.specs.Clauses.{CountsUnanswered, left_out_of, silent_check, unanswered_in}
use Rattle.node_rounds.specs.Parts.{S, Asks, Follows, Part, Readied, Timed}
use Rattle.node_rounds.specs.Upkeep.{end_call, is_plan_of, plan_call}
use Rattle.node_rounds.specs.Works.{Goes, Works}

-- ---- by one end

counted_by : (x : Fetched) (xs : List Fetched) → count_by is_unanswered (x ∷ xs) ≡ cond (is_unanswered x) 1 0 + count_by is_unanswered xs
counted_by x xs = sum_by-cons (λ (one : Fetched). cond {A = ℕ} (is_unanswered one) 1 0) x xs

silent_more : (index : ℕ) (what : Fetched) (rest : List Heard) → length (silent_of rest) ≡ count_by is_unanswered (fetched_in rest)
    → length (silent_of (record { index = index; what = what } ∷ rest)) ≡ count_by is_unanswered (what ∷ fetched_in rest)
silent_more index (fetches.Share bytes) rest before = let c = counted_by (fetches.Share bytes) (fetched_in rest) in omega (arith, c, before)
silent_more index fetches.Missing rest before = let c = counted_by fetches.Missing (fetched_in rest) in omega (arith, c, before)
silent_more index fetches.NoAnswer rest before = let c = counted_by fetches.NoAnswer (fetched_in rest) in omega (arith, c, before)
silent_more index fetches.NoMemory rest before = let c = counted_by fetches.NoMemory (fetched_in rest) in omega (arith, c, before)

silent_counted : (heard : List Heard) → length (silent_of heard) ≡ count_by is_unanswered (fetched_in heard)
silent_counted [] = refl
silent_counted (one ∷ rest) = silent_more one.index one.what rest (silent_counted rest)

-- a share passes or fails
share_checked : (b : Bool) → silent_check (if b then checks.Pass else checks.Fail) ≡ 0
share_checked true = refl
share_checked false = refl

check_silent : (expect : List ℕ) (fetched : Fetched) (old new : ℕ) → is_out_of_memory fetched ≡ false → CountsExactly (is_unanswered fetched) old new → new < 2 ^ 64 - 1 → old + silent_check (checked expect fetched) ≤ new
check_silent expect (fetches.Share bytes) old new given counts small = let none = share_checked (bytes_eq (sha256 bytes) expect) in omega (arith, none, counts)
check_silent expect fetches.Missing old new given counts small = omega (arith, counts)
check_silent expect fetches.NoAnswer old new given counts small = omega (arith, counts.1, small)
check_silent expect fetches.NoMemory old new given counts small = absurd (cc)

left_out_unmended : (secret : List ℕ) (plan : RepairPlan) (missing : List ℕ) (outcome : RepairOutcome) → IsUnmended plan missing outcome → left_out_of outcome ≡ 0
left_out_unmended secret plan missing (repairs.Mended mended) is = absurd is
left_out_unmended secret plan missing (repairs.Unmended unmended) is = refl

module _ (secret : List ℕ) (scheme : Scheme) where
  left_out_spread : (plan : RepairPlan) (targets : List Place) (heeded : Heeded) (remade : Remade) (old : NodesView) (outcome : RepairOutcome) (new : NodesView) → pieces_of targets ≡ plan.targets
      → IsSpreadOut secret scheme plan targets heeded remade old outcome new → new.faults < 2 ^ 64 - 1 → old.faults + left_out_of outcome ≤ new.faults
  left_out_spread plan targets heeded remade old (repairs.Mended mended) new are is small =
      let count = is.left_out small in
      let placed : length mended.placed ≡ length is.placed = ap length is.concluded.3 in
      let long : length mended.plan.targets ≡ length targets = ap (λ (p : RepairPlan). length p.targets) is.concluded.2 ∙ sym (ap length are) ∙ length-map targets at_of in
      omega (arith, count, placed, long)
  left_out_spread plan targets heeded remade old (repairs.Unmended unmended) new are is small = let count = is.left_out small in omega (arith, count)

  left_out_ended : (plan : RepairPlan) (targets : List Place) (heeded : Heeded) (made : Option Remade) (old : NodesView) (outcome : RepairOutcome) (new : NodesView) → pieces_of targets ≡ plan.targets
      → IsEnded secret scheme plan targets heeded made old outcome new → new.faults < 2 ^ 64 - 1 → old.faults + left_out_of outcome ≤ new.faults
  left_out_ended plan targets heeded None old outcome new are is small =
      let none = left_out_unmended secret plan heeded.missing outcome is.1 in let same = ap (λ (v : NodesView). v.faults) is.0 in omega (arith, none, same)
  left_out_ended plan targets heeded (Some remade) old outcome new are is small = left_out_spread plan targets heeded remade old outcome new are is small

  left_out_repair : (plan : RepairPlan) (sources targets : List Place) (old : NodesView) (outcome : RepairOutcome) (new : NodesView) → IsRepaired secret scheme plan sources targets old outcome new → new.faults < 2 ^ 64 - 1
      → old.faults + left_out_of outcome ≤ new.faults
  left_out_repair plan sources targets old outcome new is small =
      let count = left_out_ended plan targets is.heeded is.heeded.made is.between outcome new is.can.targets_are is.ended small in
      omega (arith, count, is.gathered.never.counts)

  found_counted : (reply : Reply) (old : NodesView) (found : Found) (new : NodesView) (now : ℕ) → Finds secret scheme reply old (Ok found) new → new.faults < 2 ^ 64 - 1 → old.faults + unanswered_in (end_call found now) ≤ new.faults
  found_counted (replies.AuditPlanned plan places) old (founds.Audit judged) new now is small =
      let count = is.silent small in
      let long : length judged.silent ≡ count_by is_unanswered (fetched_in is.heard)
      = sym (length-map judged.silent (λ (one : Silent). one.index)) ∙ ap length is.silent_are ∙ silent_counted is.heard in
      omega (arith, count, long)
  found_counted (replies.RecheckPlanned plan place) old (founds.Recheck asked found) new now is small =
      let r = is.1 in
      subst (λ (c : Checked). old.faults + silent_check c ≤ new.faults) (sym r.found_is) (check_silent plan.expect r.fetched old.faults new.faults r.given r.counted small)
  found_counted (replies.RepairPlanned plan sources targets) old (founds.Repair outcome) new now is small = left_out_repair plan sources targets old outcome new is small
  found_counted (replies.ExitPlanned exit sources target) old (founds.Exit outcome) new now is small = left_out_repair exit.plan sources (target ∷ []) old outcome new is small
  found_counted _ old _ new now is small = absurd is

  -- ---- by a part and by a round

  plan_quiet : (kind : Upkeep) (now : ℕ) (words : List ℕ) → unanswered_in (plan_call kind now words) ≡ 0
  plan_quiet kinds.Recheck now words = refl
  plan_quiet kinds.Audit now words = refl
  plan_quiet kinds.Repair now words = refl
  plan_quiet kinds.Exit now words = refl

  abbrev Counted : S → List E → S → Type 0
  Counted s new s' = (s.nodes.faults ≤ s'.nodes.faults) × CountsUnanswered new s.nodes.faults s'.nodes.faults

  counted_same : (s s' : S) → s'.nodes ≡ s.nodes → Counted s [] s'
  counted_same s s' same = let e = ap (λ (v : NodesView). v.faults) same in (omega (arith, e), λ small. omega (arith, e))

  total-both : (xs ys : List E) → total (λ e. unanswered_in e.call) (xs ++ ys) ≡ total (λ e. unanswered_in e.call) xs + total (λ e. unanswered_in e.call) ys
  total-both [] ys = omega arith
  total-both (x ∷ xs) ys = let rest = total-both xs ys in omega (arith, rest)

  counted_then : (s m s' : S) (xs ys : List E) → Counted s xs m → Counted m ys s' → Counted s (xs ++ ys) s'
  counted_then s m s' xs ys a b = (omega (arith, a.0, b.0), λ small. let second = b.1 small in let up = b.0 in let first = a.1 (omega (arith, up, small)) in let all = total-both xs ys in omega (arith, first, second, all))

  counted_asks : (reply : Reply) (s : S) (found : Result Found NoRoom) (s' : S) → Asks secret scheme reply s found s' → Counted s [] s'
  counted_asks reply s found s' a = (a.never.counts, λ small. let up = a.never.counts in omega (arith, up))

  timed_same : (s : S) (moment : ℕ) (s' : S) → Timed s moment s' → s'.nodes ≡ s.nodes
  timed_same s moment s' t = ap (λ (z : S). z.nodes) t.rest

  readied_same : (kind : Upkeep) (s : S) (drawn : List ℕ) (moment : ℕ) (s' : S) → Readied kind s drawn moment s' → s'.nodes ≡ s.nodes
  readied_same kind s drawn moment s' r = timed_same r.between moment s' r.timed ∙ ap (λ (z : S). z.nodes) r.drew.rest

  counted_end : (reply : Reply) (s m : S) (found : Found) (moment : ℕ) (s' : S) (e : E) → Asks secret scheme reply s (Ok found) m → Timed m moment s' → e.call ≡ end_call found (as_moment moment) → Counted s (e ∷ []) s'
  counted_end reply s m found moment s' e a timed call =
      let same = ap (λ (v : NodesView). v.faults) (timed_same m moment s' timed) in
      let up = a.never.counts in (
        omega (arith, up, same),
        λ small.
            let count = found_counted reply s.nodes found m.nodes (as_moment moment) a.finds (omega (arith, small, same)) in
            let own = ap unanswered_in call in
            omega (arith, count, own, same),
      )

  counted_follows : (b : Bool) (reply : Reply) (s : S) (rest : List E) (went : Option RoundEnd) (s' : S) → Follows secret scheme b reply s rest went s' → Counted s rest s'
  counted_follows true reply s [] None s' f = absurd f
  counted_follows true reply s [] (Some ends.Through) s' f = absurd f
  counted_follows true reply s [] (Some ends.WordsFault) s' f = absurd f
  counted_follows true reply s [] (Some (ends.TermFull ticket)) s' f = counted_then s f.1 s' [] [] (counted_asks reply s (Ok f.0) f.1 f.3) (counted_same f.1 s' (timed_same f.1 f.2 s' f.4))
  counted_follows true reply s [] (Some ends.Stopped) s' f = absurd f
  counted_follows true reply s [] (Some ends.NoMemory) s' f = counted_asks reply s (Err f.0) s' f.1
  counted_follows true reply s (e ∷ []) went s' f = counted_end reply s f.between f.found f.moment s' e f.asks f.timed f.call
  counted_follows true reply s (e ∷ g ∷ more) went s' f = absurd f
  counted_follows false reply s rest went s' f = subst (λ (l : List E). Counted s l s') (sym f.0) (counted_same s s' (ap (λ (z : S). z.nodes) f.2))

  counted_plan : (kind : Upkeep) (s : S) (drawn : List ℕ) (moment : ℕ) (s' : S) (p : E) → Readied kind s drawn moment s' → p.call ≡ plan_call kind (as_moment moment) drawn → Counted s (p ∷ []) s'
  counted_plan kind s drawn moment s' p r call =
      let same = ap (λ (v : NodesView). v.faults) (readied_same kind s drawn moment s' r) in
      let none = ap unanswered_in call ∙ plan_quiet kind (as_moment moment) drawn in
      (omega (arith, same), λ small. omega (arith, same, none))

  counted_part : (kind : Upkeep) (s : S) (new : List E) (went : Option RoundEnd) (s' : S) → Part secret scheme kind s new went s' → Counted s new s'
  counted_part kind s [] None s' p = absurd p
  counted_part kind s [] (Some ends.Through) s' p = absurd p
  counted_part kind s [] (Some ends.WordsFault) s' p = counted_same s s' (ap (λ (z : S). z.nodes) p.rest)
  counted_part kind s [] (Some (ends.TermFull ticket)) s' p = counted_same s s' (readied_same kind s p.0 p.1 s' p.2)
  counted_part kind s [] (Some ends.Stopped) s' p = absurd p
  counted_part kind s [] (Some ends.NoMemory) s' p = counted_same s s' (ap (λ (z : S). z.nodes) p)
  counted_part kind s (e ∷ rest) went s' p =
      counted_then s p.ready s' (e ∷ []) rest (counted_plan kind s p.drawn p.moment p.ready e p.readied p.call) (counted_follows (is_plan_of kind e.reply) e.reply p.ready rest went s' p.follows)

  counted_goes : (second : Upkeep) (went : Option RoundEnd) (s : S) (others : List E) (end : RoundEnd) (s' : S) → Goes secret scheme second went s others end s' → Counted s others s'
  counted_goes second (Some why) s others end s' g = subst (λ (l : List E). Counted s l s') (sym g.0) (counted_same s s' (ap (λ (z : S). z.nodes) g.2))
  counted_goes second None s others end s' g = counted_part second s others g.0 s' g.1

  pub counted_works : (first second : Upkeep) (s : S) (new : List E) (end : RoundEnd) (s' : S) → Works secret scheme first second s new end s' → CountsUnanswered new s.nodes.faults s'.nodes.faults
  counted_works first second s new end s' w =
      subst (λ (l : List E). CountsUnanswered l s.nodes.faults s'.nodes.faults) (sym w.new_is)
      (counted_then s w.between s' w.ones w.others (counted_part first s w.ones w.went w.between w.begins) (counted_goes second w.went w.between w.others end s' w.goes)).1
