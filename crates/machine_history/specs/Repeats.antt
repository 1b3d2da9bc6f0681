-- Requests that come again.
use Rattle.std.specs.Prelude.{◌≡◌, ℕ, Bool, true, false, List, [], ◌∷◌, Option, Some, None, IfSome}
use Rattle.sat_base.specs.declared.requests.Asked.{Asked}
use Rattle.sat_base.specs.declared.requests.Asked.TheVariants as asks
use Rattle.machine_calls.specs.declared.call.Call.{Call}
use Rattle.machine_calls.specs.declared.call.Call.TheVariants as calls
use Rattle.machine_calls.specs.declared.wish.Wish.TheVariants as wishes
use Rattle.machine_calls.specs.declared.reply.Reply.{Reply}
use Rattle.machine_calls.specs.declared.reply.Reply.TheVariants as replies
use Rattle.machine_step.specs.Tables.{Tables}
use Rattle.machine_step.specs.Step.{step, after, is_stopping}

-- what a caller asks under a number; the operator is caller 0
pub record Request : Type 0 where
  pub caller : ℕ
  pub number : ℕ
  pub asked : Asked

abbrev pub request : ℕ → ℕ → Asked → Option Request
request caller number asked = Some (record { caller = caller; number = number; asked = asked })

-- the numbered request that a call is
abbrev pub request_of : Call → Option Request
request_of (calls.Asked now words (wishes.AddNode number addr port free)) = request 0 number (asks.Node addr port free)
request_of (calls.Asked now words (wishes.AddCustomer number)) = request 0 number asks.Customer
request_of (calls.Asked now words (wishes.Begin customer number len)) = request customer.0 number (asks.Begin len)
request_of (calls.Asked now words (wishes.Commit customer number segment indexes)) = request customer.0 number (asks.Commit segment indexes)
request_of (calls.Asked now words (wishes.Get customer number segment)) = request customer.0 number (asks.Get segment)
request_of (calls.Asked now words (wishes.Delete customer number segment)) = request customer.0 number (asks.Delete segment)
request_of _ = None

-- whether a numbered request is accepted, now or at an earlier time
abbrev pub is_done : Reply → Bool
is_done (replies.Done done) = true
is_done _ = false

-- the tables after calls, one after another
abbrev pub after_all : Tables → List Call → Tables
after_all t [] = t
after_all t (call ∷ rest) = after_all (after t call) rest

-- a call stops nothing, and isn't accepted under another number of the request's caller
pub record IsQuietCall (r : Request) (t : Tables) (call : Call) : Type 0 where
  pub goes_on : is_stopping (step t call).reply ≡ false
  pub no_other : IfSome (request_of call) (λ q. q.caller ≡ r.caller → (q.number ≡ r.number → ⊥) → is_done (step t call).reply ≡ false)

-- so are these calls, one after another
abbrev pub AreQuiet : Request → Tables → List Call → Type 0
AreQuiet r t [] = Unit {0}
AreQuiet r t (call ∷ rest) = IsQuietCall r t call × AreQuiet r (after t call) rest
