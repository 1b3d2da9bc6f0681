-- Entries of a book's history.
use Rattle.std.proofs.Common.{◌≡◌, ℕ, suc, zero, List, [], ◌∷◌, map, Bool, true, false, Option, Some, None, refl, ap, ◌∙◌, subst}
use Rattle.std.specs.Prelude.{IsSome}
use Rattle.std.proofs.lemmas.Bool.{or_right}
use Rattle.turnstile.specs.Known.{Enters}
use Rattle.desk_runs.specs.Entered.{At}
use Rattle.desk_runs.proofs.Entering.{stands}
use Rattle.machine_calls.specs.declared.call.Call.{Call}
use Rattle.machine_calls.specs.declared.reply.Reply.{Reply}
use Rattle.machine_calls.specs.Replies.{is_request, is_told, is_lost, is_sayable}
use Rattle.machine_step.specs.Tables.{Tables}
use Rattle.machine_step.specs.Step.{IsAsked}
use Rattle.machine_step.proofs.Asked.{asked_well_formed}
use Rattle.machine_step.proofs.Replies.{step_sayable}
use Rattle.machine_history.specs.History.{Said, IsLegal, IsRight, taken}
use Rattle.sat_book.specs.Book.{AreOf, MayEnter, start_of}
use Rattle.sat_book.specs.Legal.{E, IsHistory, said_of}
use Rattle.sat_book.specs.declared.opening.Origin.{Origin}
use Rattle.sat_sessions.specs.Good.{tables_at}
use Rattle.sat_sessions.specs.Sessions.{V}

right_in : (t : Tables) (h : List E) (i : ℕ) (e : E) → IsLegal t (map said_of h) → At h i e → IsRight (tables_at t h i) (said_of e)
right_in t [] i e l a = absurd (cc)
right_in t (x ∷ h) zero e l a = let same : x ≡ e = cc in subst (λ (y : E). IsRight t (said_of y)) same l.0
right_in t (x ∷ h) (suc i) e l a = right_in (taken t (said_of x)) h i e l.1 a

pub right_at : (start : Tables) (count : ℕ) (h : List E) (place : ℕ) (e : E) → IsHistory start count h → At h place e → IsRight (tables_at start h place) (said_of e)
right_at start count h place e lawful at = right_in start h place e lawful.legal at

sayable_right : (t : Tables) (said : Said) → is_request said.call ≡ true → IsRight t said → is_sayable said.reply ≡ true
sayable_right t said asked r = go (is_lost said.reply) refl
  where
    go : (b : Bool) → is_lost said.reply ≡ b → is_sayable said.reply ≡ true
    go true h = or_right (is_told said.reply) (is_lost said.reply) h
    go false h = ap is_sayable (r.answer h) ∙ step_sayable t said.call asked

sayable_in : {K : Type 0} (base : Option (Origin K)) (h : List E) (place : ℕ) (e : E) → is_request e.call ≡ true → AreOf base h → At h place e → is_sayable e.reply ≡ true
sayable_in None h place e asked lawful at = absurd lawful
sayable_in (Some origin) h place e asked lawful at = sayable_right (tables_at (start_of origin.opening) h place) (said_of e) asked (right_at (start_of origin.opening) origin.opening.faults h place e lawful at)

-- the reply of a request that was entered can be said
pub sayable_entered : {K : Type 0} (k : V K) (call : Call) (reply : Reply) (place : ℕ) (k' : V K) → is_request call ≡ true → Enters AreOf k call reply place k' → is_sayable reply ≡ true
sayable_entered k call reply place k' asked d = sayable_in k.base k'.seen place (record { place = place; pass = k.number; call = call; reply = reply }) asked d.just (stands AreOf k call reply place k' d)

-- a request that is formed may be entered
pub may_enter : {K : Type 0} (base : Option (Origin K)) (call : Call) → IsSome base → IsAsked call → MayEnter base call
may_enter None call some asked = absurd (cc)
may_enter (Some origin) call some asked = asked_well_formed (start_of origin.opening) call asked
