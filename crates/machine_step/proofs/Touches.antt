-- Which tables a call may touch, by the kinds of the records that it changes; a table of another kind stays.
use Rattle.std.proofs.Common.{◌≡◌, ℕ, ◌/◌, Bool, true, false, List, [], ◌∷◌, ◌++◌, None, refl, ap, ◌∙◌, arith}
use Rattle.std.specs.Prelude.{◌==◌, if◌then◌else◌, map}
use Rattle.std.specs.List.{list_all}
use Rattle.std.proofs.lemmas.Bool.Decides.{nat_tests}
use Rattle.std.proofs.lemmas.Bool.{and_parts, and_from}
use Rattle.sat_base.specs.declared.records.Key.TheVariants as keys
use Rattle.segment_core.specs.Commit.{is_among}
use Rattle.machine_calls.specs.declared.call.Call.{Call}
use Rattle.machine_calls.specs.declared.call.Call.TheVariants as calls
use Rattle.machine_calls.specs.declared.task.Task.TheVariants as tasks
use Rattle.machine_calls.specs.declared.wish.Wish.TheVariants as wishes
use Rattle.machine_calls.specs.Changes.{kind_changed}
use Rattle.machine_calls.specs.declared.change.RecChange.{RecChange}
use Rattle.machine_calls.specs.declared.change.RecChange.TheVariants as changes
use Rattle.tally_payout.specs.declared.amounts.Tally.{Tally}
use Rattle.tally_payout.specs.declared.amounts.Statement.{Statement}
use Rattle.month_pay.specs.Ledger.{month_rows}
use Rattle.machine_step.specs.Tables.{Tables, ledger_of, changed, all_changed}
use Rattle.machine_step.specs.Calls.TallyHour.{hour_rows}
use Rattle.machine_step.specs.Step.{risen, case_of}
use Rattle.sat_base.specs.declared.records.Containment.{Containment}
use Rattle.node_registry.specs.declared.node.Node.{Node}
use Rattle.machine_step.specs.Calls.EndAudit.{nodes_after, containments_after}

-- each change is of one of these kinds
abbrev pub are_of : List ℕ → List RecChange → Bool
are_of kinds cs = list_all (λ c. is_among kinds (kind_changed c)) cs

-- the kinds that a call may touch, beside the releases behind it
abbrev pub kinds_of : Call → List ℕ
kinds_of (calls.Asked now words (wishes.AddNode request addr port free)) = 2 ∷ 3 ∷ 13 ∷ []
kinds_of (calls.Asked now words (wishes.AddCustomer request)) = 2 ∷ 4 ∷ 13 ∷ []
kinds_of (calls.Asked now words (wishes.Begin customer request len)) = 2 ∷ 5 ∷ 13 ∷ []
kinds_of (calls.Asked now words (wishes.Commit customer request segment indexes)) = 2 ∷ 5 ∷ 13 ∷ []
kinds_of (calls.Asked now words (wishes.Get customer request segment)) = 2 ∷ 13 ∷ []
kinds_of (calls.Asked now words (wishes.Delete customer request segment)) = 2 ∷ 5 ∷ 13 ∷ []
kinds_of (calls.Asked now words (wishes.Settle node bytes)) = 2 ∷ 6 ∷ []
kinds_of (calls.Asked now words (wishes.SetFree node free)) = 2 ∷ 3 ∷ []
kinds_of (calls.Asked now words (wishes.Statement node month)) = []
kinds_of (calls.Own now (tasks.PlanAudit words)) = 2 ∷ 9 ∷ []
kinds_of (calls.Own now (tasks.EndAudit judged)) = 2 ∷ 3 ∷ 9 ∷ 12 ∷ []
kinds_of (calls.Own now tasks.PlanRecheck) = 2 ∷ 10 ∷ []
kinds_of (calls.Own now (tasks.EndRecheck plan checked)) = 2 ∷ 3 ∷ 10 ∷ 12 ∷ []
kinds_of (calls.Own now (tasks.PlanRepair words)) = 2 ∷ 11 ∷ []
kinds_of (calls.Own now (tasks.EndRepair outcome)) = 2 ∷ 3 ∷ 5 ∷ 11 ∷ []
kinds_of (calls.Own now tasks.TallyHour) = 2 ∷ 7 ∷ []
kinds_of (calls.Asked now words (wishes.CloseMonth month)) = 2 ∷ 8 ∷ []
kinds_of (calls.Asked now words (wishes.Exit node)) = 2 ∷ 3 ∷ []
kinds_of (calls.Own now (tasks.PlanExit words)) = 2 ∷ 3 ∷ 14 ∷ 15 ∷ []
kinds_of (calls.Own now (tasks.EndExit outcome)) = 2 ∷ 3 ∷ 5 ∷ 14 ∷ []
kinds_of (calls.Asked now words (wishes.SetRates month rates)) = 2 ∷ 16 ∷ []
kinds_of (calls.Asked now words wishes.Stop) = []

-- ---- what each call touches

pub of-nodes : (kinds : List ℕ) (nodes : List Node) → is_among kinds 3 ≡ true → are_of kinds (map changes.Node nodes) ≡ true
of-nodes kinds [] has = refl
of-nodes kinds (node ∷ nodes) has = and_from _ _ has (of-nodes kinds nodes has)

pub of-containments : (kinds : List ℕ) (rows : List Containment) → is_among kinds 12 ≡ true → are_of kinds (map changes.Containment rows) ≡ true
of-containments kinds [] has = refl
of-containments kinds (row ∷ rows) has = and_from _ _ has (of-containments kinds rows has)

of-tallies : (kinds : List ℕ) (rows : List Tally) → is_among kinds 7 ≡ true → are_of kinds (map changes.Tally rows) ≡ true
of-tallies kinds [] has = refl
of-tallies kinds (row ∷ rows) has = and_from _ _ has (of-tallies kinds rows has)

of-statements : (kinds : List ℕ) (rows : List Statement) → is_among kinds 8 ≡ true → are_of kinds (map changes.Statement rows) ≡ true
of-statements kinds [] has = refl
of-statements kinds (row ∷ rows) has = and_from _ _ has (of-statements kinds rows has)

pub of-append : (kinds : List ℕ) (xs ys : List RecChange) → are_of kinds xs ≡ true → are_of kinds ys ≡ true → are_of kinds (xs ++ ys) ≡ true
of-append kinds [] ys h k = k
of-append kinds (x ∷ xs) ys h k = let parts = and_parts (is_among kinds (kind_changed x)) (are_of kinds xs) h in and_from _ _ parts.0 (of-append kinds xs ys parts.1 k)

pub touched : (t : Tables) (call : Call) → are_of (kinds_of call) (case_of t call).changes ≡ true
touched t (calls.Asked now words (wishes.AddNode request addr port free)) = grind (arith, nat_tests)
touched t (calls.Asked now words (wishes.AddCustomer request)) = grind (arith, nat_tests)
touched t (calls.Asked now words (wishes.Begin customer request len)) = grind (arith, nat_tests)
touched t (calls.Asked now words (wishes.Commit customer request segment indexes)) = grind (arith, nat_tests)
touched t (calls.Asked now words (wishes.Get customer request segment)) = grind (arith, nat_tests)
touched t (calls.Asked now words (wishes.Delete customer request segment)) = grind (arith, nat_tests)
touched t (calls.Asked now words (wishes.Settle node bytes)) = grind (arith, nat_tests)
touched t (calls.Asked now words (wishes.SetFree node free)) = grind (arith, nat_tests)
touched t (calls.Asked now words (wishes.Statement node month)) = grind (arith, nat_tests)
touched t (calls.Own now (tasks.PlanAudit words)) = grind (arith, nat_tests)
touched t (calls.Own now (tasks.EndAudit judged)) =
    let kinds = kinds_of (calls.Own now (tasks.EndAudit judged)) in
    let some = of-append kinds (map changes.Node (nodes_after t judged)) (map changes.Containment (containments_after t judged)) (of-nodes kinds (nodes_after t judged) refl) (of-containments kinds (containments_after t judged) refl) in
    grind (arith, nat_tests, some)
touched t (calls.Own now tasks.PlanRecheck) = grind (arith, nat_tests)
touched t (calls.Own now (tasks.EndRecheck plan checked)) = grind (arith, nat_tests)
touched t (calls.Own now (tasks.PlanRepair words)) = grind (arith, nat_tests)
touched t (calls.Own now (tasks.EndRepair outcome)) =
    let some : (nodes : List Node) → are_of (kinds_of (calls.Own now (tasks.EndRepair outcome))) (map changes.Node nodes) ≡ true = λ nodes. of-nodes (kinds_of (calls.Own now (tasks.EndRepair outcome))) nodes refl in grind (arith, nat_tests, some)
touched t (calls.Own now tasks.TallyHour) = let some = of-tallies (kinds_of (calls.Own now tasks.TallyHour)) (hour_rows t (risen t now / 3600)) refl in grind (arith, nat_tests, some)
touched t (calls.Asked now words (wishes.CloseMonth month)) = let some = of-statements (kinds_of (calls.Asked now words (wishes.CloseMonth month))) (month_rows (ledger_of t) t.marks.month.0) refl in grind (arith, nat_tests, some)
touched t (calls.Asked now words (wishes.Exit node)) = grind (arith, nat_tests)
touched t (calls.Own now (tasks.PlanExit words)) = grind (arith, nat_tests)
touched t (calls.Own now (tasks.EndExit outcome)) =
    let some : (nodes : List Node) → are_of (kinds_of (calls.Own now (tasks.EndExit outcome))) (map changes.Node nodes) ≡ true = λ nodes. of-nodes (kinds_of (calls.Own now (tasks.EndExit outcome))) nodes refl in grind (arith, nat_tests, some)
touched t (calls.Asked now words (wishes.SetRates month rates)) = grind (arith, nat_tests)
touched t (calls.Asked now words wishes.Stop) = refl

other-kind : (kinds : List ℕ) (kind own : ℕ) → is_among kinds kind ≡ true → is_among kinds own ≡ false → (kind == own) ≡ false
other-kind kinds kind own has lacks = go (kind == own) refl
  where
    go : (b : Bool) → (kind == own) ≡ b → b ≡ false
    go true is = grind (arith, nat_tests, is, has, lacks)
    go false is = refl

-- a part of the tables that only changes of its own kind touch
module _ {X : Type 0} (part : Tables → X) (own : ℕ) (leaves : (c : RecChange) (t : Tables) → (kind_changed c == own) ≡ false → part (changed t c) ≡ part t) where
  pub frame : (kinds : List ℕ) (cs : List RecChange) (t : Tables) → are_of kinds cs ≡ true → is_among kinds own ≡ false → part (all_changed t cs) ≡ part t
  frame kinds [] t all lacks = refl
  frame kinds (c ∷ cs) t all lacks =
      let parts = and_parts (is_among kinds (kind_changed c)) (are_of kinds cs) all in
      frame kinds cs (changed t c) parts.1 lacks ∙ leaves c t (other-kind kinds (kind_changed c) own parts.0 lacks)

leaves-nodes : (c : RecChange) (t : Tables) → (kind_changed c == 3) ≡ false → (changed t c).nodes ≡ t.nodes
leaves-nodes (changes.Node r) t other = cc
leaves-nodes (changes.Remove (keys.Segment id)) t other = refl
leaves-nodes (changes.Remove (keys.Plan kind)) t other = refl
leaves-nodes (changes.Remove (keys.Containment node)) t other = refl
leaves-nodes _ t other = refl

-- changes of other kinds leave the nodes
pub nodes-frame : (kinds : List ℕ) (cs : List RecChange) (t : Tables) → are_of kinds cs ≡ true → is_among kinds 3 ≡ false → (all_changed t cs).nodes ≡ t.nodes
nodes-frame = frame (λ t. t.nodes) 3 leaves-nodes

leaves-customers : (c : RecChange) (t : Tables) → (kind_changed c == 4) ≡ false → (changed t c).customers ≡ t.customers
leaves-customers (changes.Customer r) t other = cc
leaves-customers (changes.Remove (keys.Segment id)) t other = refl
leaves-customers (changes.Remove (keys.Plan kind)) t other = refl
leaves-customers (changes.Remove (keys.Containment node)) t other = refl
leaves-customers _ t other = refl

-- the customers
pub customers-frame : (kinds : List ℕ) (cs : List RecChange) (t : Tables) → are_of kinds cs ≡ true → is_among kinds 4 ≡ false → (all_changed t cs).customers ≡ t.customers
customers-frame = frame (λ t. t.customers) 4 leaves-customers

leaves-segments : (c : RecChange) (t : Tables) → (kind_changed c == 5) ≡ false → (changed t c).segments ≡ t.segments
leaves-segments (changes.Segment r) t other = cc
leaves-segments (changes.Remove (keys.Segment id)) t other = cc
leaves-segments (changes.Remove (keys.Plan kind)) t other = refl
leaves-segments (changes.Remove (keys.Containment node)) t other = refl
leaves-segments _ t other = refl

-- the segments
pub segments-frame : (kinds : List ℕ) (cs : List RecChange) (t : Tables) → are_of kinds cs ≡ true → is_among kinds 5 ≡ false → (all_changed t cs).segments ≡ t.segments
segments-frame = frame (λ t. t.segments) 5 leaves-segments

leaves-audit : (c : RecChange) (t : Tables) → (kind_changed c == 9) ≡ false → (changed t c).audit ≡ t.audit
leaves-audit (changes.AuditPlan r) t other = cc
leaves-audit (changes.Remove (keys.Segment id)) t other = refl
leaves-audit (changes.Remove (keys.Plan kind)) t other = ap (λ (b : Bool). if b then None else t.audit) other
leaves-audit (changes.Remove (keys.Containment node)) t other = refl
leaves-audit _ t other = refl

-- the open plans
pub audit-frame : (kinds : List ℕ) (cs : List RecChange) (t : Tables) → are_of kinds cs ≡ true → is_among kinds 9 ≡ false → (all_changed t cs).audit ≡ t.audit
audit-frame = frame (λ t. t.audit) 9 leaves-audit

leaves-recheck : (c : RecChange) (t : Tables) → (kind_changed c == 10) ≡ false → (changed t c).recheck ≡ t.recheck
leaves-recheck (changes.RecheckPlan r) t other = cc
leaves-recheck (changes.Remove (keys.Segment id)) t other = refl
leaves-recheck (changes.Remove (keys.Plan kind)) t other = ap (λ (b : Bool). if b then None else t.recheck) other
leaves-recheck (changes.Remove (keys.Containment node)) t other = refl
leaves-recheck _ t other = refl

pub recheck-frame : (kinds : List ℕ) (cs : List RecChange) (t : Tables) → are_of kinds cs ≡ true → is_among kinds 10 ≡ false → (all_changed t cs).recheck ≡ t.recheck
recheck-frame = frame (λ t. t.recheck) 10 leaves-recheck

leaves-repair : (c : RecChange) (t : Tables) → (kind_changed c == 11) ≡ false → (changed t c).repair ≡ t.repair
leaves-repair (changes.RepairPlan r) t other = cc
leaves-repair (changes.Remove (keys.Segment id)) t other = refl
leaves-repair (changes.Remove (keys.Plan kind)) t other = ap (λ (b : Bool). if b then None else t.repair) other
leaves-repair (changes.Remove (keys.Containment node)) t other = refl
leaves-repair _ t other = refl

pub repair-frame : (kinds : List ℕ) (cs : List RecChange) (t : Tables) → are_of kinds cs ≡ true → is_among kinds 11 ≡ false → (all_changed t cs).repair ≡ t.repair
repair-frame = frame (λ t. t.repair) 11 leaves-repair

leaves-exit : (c : RecChange) (t : Tables) → (kind_changed c == 14) ≡ false → (changed t c).exit ≡ t.exit
leaves-exit (changes.ExitPlan r) t other = cc
leaves-exit (changes.Remove (keys.Segment id)) t other = refl
leaves-exit (changes.Remove (keys.Plan kind)) t other = ap (λ (b : Bool). if b then None else t.exit) other
leaves-exit (changes.Remove (keys.Containment node)) t other = refl
leaves-exit _ t other = refl

pub exit-frame : (kinds : List ℕ) (cs : List RecChange) (t : Tables) → are_of kinds cs ≡ true → is_among kinds 14 ≡ false → (all_changed t cs).exit ≡ t.exit
exit-frame = frame (λ t. t.exit) 14 leaves-exit

leaves-containments : (c : RecChange) (t : Tables) → (kind_changed c == 12) ≡ false → (changed t c).containments ≡ t.containments
leaves-containments (changes.Containment r) t other = cc
leaves-containments (changes.Remove (keys.Containment node)) t other = cc
leaves-containments (changes.Remove (keys.Segment id)) t other = refl
leaves-containments (changes.Remove (keys.Plan kind)) t other = refl
leaves-containments _ t other = refl

-- the containments
pub containments-frame : (kinds : List ℕ) (cs : List RecChange) (t : Tables) → are_of kinds cs ≡ true → is_among kinds 12 ≡ false → (all_changed t cs).containments ≡ t.containments
containments-frame = frame (λ t. t.containments) 12 leaves-containments

leaves-kept : (c : RecChange) (t : Tables) → (kind_changed c == 13) ≡ false → (changed t c).kept ≡ t.kept
leaves-kept (changes.Kept r) t other = cc
leaves-kept (changes.Remove (keys.Segment id)) t other = refl
leaves-kept (changes.Remove (keys.Plan kind)) t other = refl
leaves-kept (changes.Remove (keys.Containment node)) t other = refl
leaves-kept _ t other = refl

-- and the kept requests
pub kept-frame : (kinds : List ℕ) (cs : List RecChange) (t : Tables) → are_of kinds cs ≡ true → is_among kinds 13 ≡ false → (all_changed t cs).kept ≡ t.kept
kept-frame = frame (λ t. t.kept) 13 leaves-kept
