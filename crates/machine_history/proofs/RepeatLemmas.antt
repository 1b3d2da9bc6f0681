-- What is kept of a request stays until another number of its caller is accepted.
use Rattle.std.proofs.Common.{◌≡◌, ℕ, Bool, true, false, List, [], ◌∷◌, Some, None, Option, IfSome, IsSomeAnd, is_none, refl, sym, ap, subst, ◌∙◌, arith}
use Rattle.std.specs.Prelude.{if◌then◌else◌}
use Rattle.std.proofs.lemmas.Bool.Decides.{nat_tests}
use Rattle.sat_base.specs.declared.requests.Kept.{Kept}
use Rattle.sat_base.specs.declared.requests.Asked.{Asked}
use Rattle.sat_base.specs.declared.requests.Asked.TheVariants as asks
use Rattle.sat_base.specs.declared.requests.Done.{Done}
use Rattle.sat_base.specs.Requests.{same_asked}
use Rattle.std.specs.Prelude.{nat_eq}
use Rattle.std.specs.Cmp.Lexicographic.{pointwise}
use Rattle.sat_base.specs.Ranks.{customer_rank, kept_rank}
use Rattle.machine_calls.specs.declared.call.Call.{Call}
use Rattle.machine_calls.specs.declared.call.Call.TheVariants as calls
use Rattle.machine_calls.specs.declared.task.Task.TheVariants as tasks
use Rattle.machine_calls.specs.declared.wish.Wish.TheVariants as wishes
use Rattle.machine_calls.specs.declared.change.RecChange.{RecChange}
use Rattle.machine_calls.specs.declared.change.RecChange.TheVariants as changes
use Rattle.sat_base.specs.declared.records.Key.TheVariants as keys
use Rattle.machine_calls.specs.declared.refusal.Refusal.TheVariants as refusals
use Rattle.machine_calls.specs.declared.reply.Reply.TheVariants as replies
use Rattle.machine_step.specs.Tables.{Tables, kept_at, customer_at, changed, all_changed}
use Rattle.machine_step.specs.Outcome.{Outcome, unchanged, refused}
use Rattle.machine_step.specs.Step.{step, case_of, after, is_stopping}
use Rattle.machine_history.specs.Repeats.{Request, request_of, after_all, is_done, IsQuietCall, AreQuiet}
use Rattle.machine_step.proofs.RowLemmas.{row_at-with_row}
use Rattle.machine_step.proofs.ReleaseLemmas.{releases_are}
use Rattle.machine_step.specs.Containment.{swept}
use Rattle.sat_base.specs.declared.settings.Customer.{Customer}
use Rattle.segment_core.specs.Commit.{is_among}
use Rattle.machine_step.proofs.Touches.{kinds_of, touched, customers-frame, kept-frame}
use Rattle.machine_step.proofs.StepLemmas.{step-running}

same_list : (xs : List ℕ) → pointwise nat_eq xs xs ≡ true
same_list [] = refl
same_list (x ∷ xs) = grind (arith, nat_tests, same_list xs)

-- each request asks what it asks
same_self : (asked : Asked) → same_asked asked asked ≡ true
same_self (asks.Node addr port free) = grind (arith, nat_tests)
same_self asks.Customer = refl
same_self (asks.Begin len) = grind (arith, nat_tests)
same_self (asks.Commit segment indexes) = grind (arith, nat_tests, same_list indexes)
same_self (asks.Get segment) = grind (arith, nat_tests)
same_self (asks.Delete segment) = grind (arith, nat_tests)

-- whether the request is one of a customer
abbrev is_customers : Asked → Bool
is_customers (asks.Node addr port free) = false
is_customers asks.Customer = false
is_customers _ = true

-- the request is kept as accepted, with this answer
record Remembers (t : Tables) (r : Request) (done : Done) : Type 0 where
  kept : Kept
  is_kept : kept_at t.kept r.caller ≡ Some kept
  number : kept.number ≡ r.number
  same : same_asked kept.asked r.asked ≡ true
  answer : kept.done ≡ done
  running : t.stopped ≡ false
  known : is_customers r.asked ≡ true → is_none (customer_at t.customers r.caller) ≡ false

-- then it repeats
repeats : (t : Tables) (r : Request) (done : Done) (call : Call) → Remembers t r done → request_of call ≡ Some r → step t call ≡ unchanged (replies.Done done)
repeats t r done (calls.Asked now words (wishes.AddNode request addr port free)) m e = grind (arith, nat_tests)
repeats t r done (calls.Asked now words (wishes.AddCustomer request)) m e = grind (arith, nat_tests)
repeats t r done (calls.Asked now words (wishes.Begin customer request len)) m e = grind (arith, nat_tests)
repeats t r done (calls.Asked now words (wishes.Commit customer request segment indexes)) m e = grind (arith, nat_tests)
repeats t r done (calls.Asked now words (wishes.Get customer request segment)) m e = grind (arith, nat_tests)
repeats t r done (calls.Asked now words (wishes.Delete customer request segment)) m e = grind (arith, nat_tests)
repeats t r done _ m e = cc

-- what is kept for a caller, after an outcome
abbrev kept_after : Tables → Outcome → ℕ → Option Kept
kept_after t o caller = kept_at (all_changed t o.changes).kept caller

-- a call that touches no kept request leaves them
kept_unseen : (t : Tables) (call : Call) (caller : ℕ) (kept : Kept) → is_among (kinds_of call) 13 ≡ false → kept_at t.kept caller ≡ Some kept → kept_after t (case_of t call) caller ≡ Some kept
kept_unseen t call caller kept other at = ap (λ (rows : List Kept). kept_at rows caller) (kept-frame (kinds_of call) (case_of t call).changes t (touched t call) other) ∙ at

-- a call that touches no customer leaves them
customers_unseen : (t : Tables) (call : Call) (k : ℕ) → is_among (kinds_of call) 4 ≡ false → is_none (customer_at t.customers k) ≡ false → is_none (customer_at (all_changed t (case_of t call).changes).customers k) ≡ false
customers_unseen t call k other known = ap (λ (rows : List Customer). is_none (customer_at rows k)) (customers-frame (kinds_of call) (case_of t call).changes t (touched t call) other) ∙ known

-- a quiet step leaves what is kept
kept_stays : (t : Tables) (r : Request) (kept : Kept) (call : Call) → kept_at t.kept r.caller ≡ Some kept → kept.number ≡ r.number
    → IfSome (request_of call) (λ q. q.caller ≡ r.caller → (q.number ≡ r.number → ⊥) → is_done (case_of t call).reply ≡ false)
    → kept_after t (case_of t call) r.caller ≡ Some kept
kept_stays t r kept (calls.Asked now words (wishes.AddNode request addr port free)) at number quiet = grind (arith, nat_tests, quiet, row_at-with_row kept_rank t.kept)
kept_stays t r kept (calls.Asked now words (wishes.AddCustomer request)) at number quiet = grind (arith, nat_tests, quiet, row_at-with_row kept_rank t.kept)
kept_stays t r kept (calls.Asked now words (wishes.Begin customer request len)) at number quiet = grind (arith, nat_tests, quiet, row_at-with_row kept_rank t.kept)
kept_stays t r kept (calls.Asked now words (wishes.Commit customer request segment indexes)) at number quiet = grind (arith, nat_tests, quiet, row_at-with_row kept_rank t.kept)
kept_stays t r kept (calls.Asked now words (wishes.Get customer request segment)) at number quiet = grind (arith, nat_tests, quiet, row_at-with_row kept_rank t.kept)
kept_stays t r kept (calls.Asked now words (wishes.Delete customer request segment)) at number quiet = grind (arith, nat_tests, quiet, row_at-with_row kept_rank t.kept)
kept_stays t r kept (calls.Asked now words wishes.Stop) at number quiet = at
kept_stays t r kept (calls.Own now tasks.TallyHour) at number quiet = kept_unseen t (calls.Own now tasks.TallyHour) r.caller kept refl at
kept_stays t r kept call at number quiet = kept_unseen t call r.caller kept refl at

-- no step takes a customer away
customers_stay : (t : Tables) (call : Call) (k : ℕ) → is_none (customer_at t.customers k) ≡ false → is_none (customer_at (all_changed t (case_of t call).changes).customers k) ≡ false
customers_stay t (calls.Asked now words (wishes.AddCustomer request)) k known = grind (arith, nat_tests, row_at-with_row customer_rank t.customers)
customers_stay t (calls.Own now tasks.TallyHour) k known = customers_unseen t (calls.Own now tasks.TallyHour) k refl known
customers_stay t call k known = customers_unseen t call k refl known

-- the row keeps the request and its answer
abbrev Keeps : Request → Done → Kept → Type 0
Keeps r done kept = (kept.number ≡ r.number) × (same_asked kept.asked r.asked ≡ true) × (kept.done ≡ done)

-- an accepted request is kept
kept_first : (t : Tables) (r : Request) (done : Done) (call : Call) → request_of call ≡ Some r → (case_of t call).reply ≡ replies.Done done
    → IsSomeAnd (kept_after t (case_of t call) r.caller) (Keeps r done)
kept_first t r done (calls.Asked now words (wishes.AddNode request addr port free)) e h = grind (arith, nat_tests, row_at-with_row kept_rank t.kept, same_self r.asked)
kept_first t r done (calls.Asked now words (wishes.AddCustomer request)) e h = grind (arith, nat_tests, row_at-with_row kept_rank t.kept, same_self r.asked)
kept_first t r done (calls.Asked now words (wishes.Begin customer request len)) e h = grind (arith, nat_tests, row_at-with_row kept_rank t.kept, same_self r.asked)
kept_first t r done (calls.Asked now words (wishes.Commit customer request segment indexes)) e h = grind (arith, nat_tests, row_at-with_row kept_rank t.kept, same_self r.asked)
kept_first t r done (calls.Asked now words (wishes.Get customer request segment)) e h = grind (arith, nat_tests, row_at-with_row kept_rank t.kept, same_self r.asked)
kept_first t r done (calls.Asked now words (wishes.Delete customer request segment)) e h = grind (arith, nat_tests, row_at-with_row kept_rank t.kept, same_self r.asked)
kept_first t r done _ e h = cc

-- and its customer, where it has one, is known
known_first : (t : Tables) (r : Request) (done : Done) (call : Call) → request_of call ≡ Some r → (case_of t call).reply ≡ replies.Done done
    → is_customers r.asked ≡ true → is_none (customer_at t.customers r.caller) ≡ false
known_first t r done (calls.Asked now words (wishes.AddNode request addr port free)) e h o = grind (arith, nat_tests)
known_first t r done (calls.Asked now words (wishes.AddCustomer request)) e h o = grind (arith, nat_tests)
known_first t r done (calls.Asked now words (wishes.Begin customer request len)) e h o = grind (arith, nat_tests)
known_first t r done (calls.Asked now words (wishes.Commit customer request segment indexes)) e h o = grind (arith, nat_tests)
known_first t r done (calls.Asked now words (wishes.Get customer request segment)) e h o = grind (arith, nat_tests)
known_first t r done (calls.Asked now words (wishes.Delete customer request segment)) e h o = grind (arith, nat_tests)
known_first t r done _ e h o = cc

-- the mark that stops is no record
pub stopped_by : (t : Tables) (change : RecChange) → (changed t change).stopped ≡ t.stopped
stopped_by t (changes.Remove (keys.Segment id)) = refl
stopped_by t (changes.Remove (keys.Plan kind)) = refl
stopped_by t (changes.Remove (keys.Containment node)) = refl
stopped_by t _ = refl

pub stopped_stays : (cs : List RecChange) (t : Tables) → (all_changed t cs).stopped ≡ t.stopped
stopped_stays [] t = refl
stopped_stays (change ∷ cs) t = stopped_stays cs (changed t change) ∙ stopped_by t change

-- a kept row of the case is remembered
remember : (t : Tables) (r : Request) (done : Done) (call : Call) → t.stopped ≡ false → is_stopping (case_of t call).reply ≡ false
    → IsSomeAnd (kept_after t (case_of t call) r.caller) (Keeps r done) → (is_customers r.asked ≡ true → is_none (customer_at t.customers r.caller) ≡ false) → Remembers (after t call) r done
remember t r done call running goes keeps known =
    let e = step-running t call running in
    let same = releases_are t (case_of t call).changes in
    let going : is_stopping (step t call).reply ≡ false = ap (λ (o : Outcome). is_stopping o.reply) e ∙ goes in
    let still : (all_changed t (step t call).changes).stopped ≡ false = stopped_stays (step t call).changes t ∙ running in
    let found : (o : Option Kept) → o ≡ kept_after t (case_of t call) r.caller → IsSomeAnd o (Keeps r done) → Remembers (after t call) r done = λ o at. elim o as (λ v. v ≡ kept_after t (case_of t call) r.caller → IsSomeAnd v (Keeps r done) → Remembers (after t call) r done) [
      | None ↦ λ at none. absurd none
      | Some kept ↦ λ at k. record {
        kept = kept;
        is_kept = ap (λ (o : Outcome). kept_after t o r.caller) e ∙ ap (λ (x : Tables). kept_at x.kept r.caller) same ∙ sym at;
        number = k.0;
        same = k.1;
        answer = k.2;
        running = grind (arith, going, still);
        known = λ of. ap (λ (o : Outcome). is_none (customer_at (all_changed t o.changes).customers r.caller)) e ∙ ap (λ (x : Tables). is_none (customer_at x.customers r.caller)) same ∙ customers_stay t call r.caller (known of);
      }
    ] at in
    found _ refl keeps

-- an accepted request is remembered
remembered : (t : Tables) (r : Request) (done : Done) (call : Call) → request_of call ≡ Some r → (step t call).reply ≡ replies.Done done → Remembers (after t call) r done
remembered t r done call e h =
    let running : t.stopped ≡ false = goes t.stopped refl h in
    let said : (case_of t call).reply ≡ replies.Done done = ap (λ (o : Outcome). o.reply) (sym (step-running t call running)) ∙ h in
    remember t r done call running (ap is_stopping said) (kept_first t r done call e said) (known_first t r done call e said)
  where
    goes : (b : Bool) → b ≡ t.stopped → (if b then refused refusals.Stopped else swept t (case_of t call)).reply ≡ replies.Done done → b ≡ false
    goes true is h = cc
    goes false is h = refl

-- through a quiet step
stays : (t : Tables) (r : Request) (done : Done) (call : Call) → Remembers t r done → IsQuietCall r t call → Remembers (after t call) r done
stays t r done call m quiet =
    let e = step-running t call m.running in
    let kept = kept_stays t r m.kept call m.is_kept m.number (subst (λ (o : Outcome). IfSome (request_of call) (λ q. q.caller ≡ r.caller → (q.number ≡ r.number → ⊥) → is_done o.reply ≡ false)) e quiet.no_other) in
    remember t r done call m.running (ap (λ (o : Outcome). is_stopping o.reply) (sym e) ∙ quiet.goes_on)
    (subst (λ o. IsSomeAnd o (Keeps r done)) (sym kept) (m.number, m.same, m.answer)) m.known

-- and through any number of them
stays_all : (t : Tables) (r : Request) (done : Done) (cs : List Call) → Remembers t r done → AreQuiet r t cs → Remembers (after_all t cs) r done
stays_all t r done [] m quiet = m
stays_all t r done (call ∷ cs) m quiet = stays_all (after t call) r done cs (stays t r done call m quiet.0) quiet.1

pub equal_repeats : (t : Tables) (r : Request) (first again : Call) (done : Done) (between : List Call)
    → request_of first ≡ Some r → request_of again ≡ Some r → (step t first).reply ≡ replies.Done done → AreQuiet r (after t first) between
    → step (after_all (after t first) between) again ≡ unchanged (replies.Done done)
equal_repeats t r first again done between is_first is_again said quiet =
    repeats (after_all (after t first) between) r done again (stays_all (after t first) r done between (remembered t r done first is_first said) quiet) is_again
