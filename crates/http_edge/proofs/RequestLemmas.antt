-- What all bytes of a connection say, from what was read of them.
use Rattle.std.proofs.Common.{◌≡◌, ℕ, ◌≤◌, List, length, take, refl, sym, ◌∙◌, ap, Bool, Result, Ok, Err, subst}
use Rattle.httparse.specs.Grammar.{RequestHead}
use Rattle.http_parts.specs.Bodies.{IsBody, failed_fetch}
use Rattle.http_parts.specs.Heads.{HasHead, MayReadHead}
use Rattle.http_parts.specs.declared.bodies.BodyErr.{BodyErr}
use Rattle.http_parts.specs.declared.bodies.BodyErr.TheVariants as bodies
use Rattle.http_edge.specs.Fields.{body_of}
use Rattle.http_edge.specs.Requests.{MayRead, a_head, unread_as, short_body, failed_request, bodied, Outcome, BehindHead, IsBodyOutcome, SaysBody, whole, Says, headed, SaysBehind, AnswersOf}
use Rattle.http_edge.specs.declared.routes.Route.{Route}
use Rattle.sat_base.specs.Outside.{About}
use Rattle.sat_base.specs.Streams.{Took}
use Rattle.sat_base.proofs.Transfers.{took_as, took_within}
use Rattle.http_edge.specs.Demands.{Demands}
use Rattle.http_edge.specs.declared.demand.Demand.TheVariants.{Body}
use Rattle.http_edge.specs.declared.errors.EdgeErr.{EdgeErr}
use Rattle.machine_calls.specs.declared.wish.Wish.{Wish}
use Rattle.http_edge.specs.declared.errors.ReadErr.{ReadErr}
use Rattle.http_edge.specs.declared.errors.ReadErr.TheVariants.{Fault, Edge}

pub whole_is : (r : Route) (n : ℕ) (rest items : List ℕ) (said : Result Wish EdgeErr) → items ≡ take n rest → n ≤ length rest → body_of r items ≡ said → SaysBody r n rest said
whole_is r n rest items said p q e = subst (SaysBody r n rest) (ap (body_of r) (sym p) ∙ e) (whole q)

pub answers_weaker : (P Q : Result Wish EdgeErr → Type 0) → ((s : Result Wish EdgeErr) → P s → Q s) → (r : Result Wish ReadErr) → AnswersOf P r → AnswersOf Q r
answers_weaker P Q f (Ok w) h = f _ h
answers_weaker P Q f (Err Fault) h = tt
answers_weaker P Q f (Err (Edge e)) h = λ n. f _ (h n)

pub bodied_as : (keys : List ℕ) (h : RequestHead) (rest : List ℕ) (r : Route) (n : ℕ) → Demands keys h (Body r n) → (a : Result Wish ReadErr) → IsBodyOutcome r n rest a → BehindHead keys h rest a
bodied_as keys h rest r n d = answers_weaker (SaysBody r n rest) (SaysBehind keys h rest) (λ s b. bodied r n s d b)

pub headed_as : (keys : List ℕ) (all : List ℕ) (h : RequestHead) (rest : List ℕ) → HasHead all h rest → (a : Result Wish ReadErr) → BehindHead keys h rest a → Outcome keys all a
headed_as keys all h rest hd = answers_weaker (SaysBehind keys h rest) (Says keys all) (λ s b. headed h rest s hd b)

pub unread_says : (r : Route) (n : ℕ) (rest : List ℕ) (e : BodyErr) → IsBody n rest (Err e) → IsBodyOutcome r n rest (Err (unread_as e))
unread_says r n rest bodies.Short h = λ k. short_body h
unread_says r n rest bodies.Fault h = tt
unread_says r n rest bodies.NoMemory h = λ k. absurd (k refl)

pub unread_fails : (e : BodyErr) → failed_request (Err (unread_as e)) ≡ failed_fetch (Err e)
unread_fails bodies.Short = refl
unread_fails bodies.Fault = refl
unread_fails bodies.NoMemory = refl

-- what was read for a head, as a part of a request
pub head_took : (secret bytes : List ℕ) (idle : ℕ) (failed : Bool) (old new : About) → idle ≤ 1 → Took MayReadHead bytes idle failed old new → Took (MayRead secret) bytes 1 failed old new
head_took secret bytes idle failed old new le t =
    took_within (MayRead secret) bytes idle 1 failed old new le (took_as (MayRead secret) MayReadHead bytes idle failed old new t (λ before asked may some. a_head may))
