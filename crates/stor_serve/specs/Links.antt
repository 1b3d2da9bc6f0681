-- What comes of one link: a request is read, performed and answered.
use Rattle.std.specs.Prelude.{◌≡◌, ◌⊎◌, ℕ, ◌≤◌, [], ◌∷◌, List, length, Bool, false, Option, Some, None, Result, Ok, Err, is_ok}
use Rattle.sat_base.specs.Clock.{or_zero}
use Rattle.sat_base.specs.Keeper.{KeeperView}
use Rattle.sat_base.specs.Outside.{About, with_front}
use Rattle.sat_base.specs.Streams.{Took, Wrote}
use Rattle.order_uses.specs.declared.take.TakeErr.{TakeErr}
use Rattle.stor_wire.specs.Answers.{answer_status, answer_text}
use Rattle.stor_wire.specs.Requests.{IsRead, MayRead, Outcome, failed_request, max_request}
use Rattle.stor_wire.specs.declared.answers.Answer.{Answer}
use Rattle.stor_wire.specs.declared.answers.Answer.TheVariants as answers
use Rattle.stor_wire.specs.declared.request.ReadErr.{ReadErr}
use Rattle.stor_wire.specs.declared.request.ReadErr.TheVariants as unread
use Rattle.stor_wire.specs.declared.request.Request.{Request}
use Rattle.stor_serve.specs.Performing.{Follows, TakesFor, wanted_of}
use Rattle.stor_serve.specs.Views.{NodeView}
use Rattle.stor_serve.specs.declared.served.Served.{Served}

-- a request was read of the link, or why there is none
pub record Listens (old new : About) (read : Result Request ReadErr) : Type 0 where
  pub bytes : List ℕ
  pub took : Took MayRead bytes 1 (failed_request read) old new
  pub few : length bytes ≤ max_request
  pub says : IsRead bytes new.left read
  pub outcome : (all : List ℕ) → old.left ≡ Some all → Outcome all read

-- the bytes of an answer were written from their front; or, where there was no memory for them, those that say so
pub record Answers (meant : Answer) (old new : About) (status : ℕ) (sent : Bool) : Type 0 where
  pub said : Answer
  pub is_said : (said ≡ meant) ⊎ (said ≡ answers.NoMemory)
  pub status_is : status ≡ answer_status said
  pub wrote : Wrote (answer_text said) sent old new

-- why nothing was asked is answered, unless the link broke
abbrev pub SaysWhy : ReadErr → About → About → ℕ → Bool → Type 0
SaysWhy unread.Head old new status sent = Answers answers.Head old new status sent
SaysWhy unread.NoMemory old new status sent = Answers answers.NoMemory old new status sent
SaysWhy unread.Fault old new status sent = (new ≡ old) × (status ≡ 0) × (sent ≡ false)

-- one moment was told by the clock
abbrev pub Ticked : ℕ → Option (List ℕ) → Option (List ℕ) → Type 0
Ticked now old new = or_zero old ≡ with_front (now ∷ []) new

module _ {K : Type 0} (about : K → KeeperView) where
  -- a request was taken or refused, performed and answered
  pub record Performs (request : Request) (old new : NodeView K) (link link' : About) (served : Served) : Type 0 where
    pub took : Result (Unit {0}) TakeErr
    pub answer : Answer
    pub takes : TakesFor about served.now request old.uses took new.uses
    pub follows : Follows request took old.pieces new.pieces answer
    pub answers : Answers answer link link' served.status served.sent
    pub wanted_is : served.wanted ≡ Some (wanted_of request)
    pub taken_is : served.taken ≡ is_ok took

  -- nothing was asked, and nothing is done
  pub record Declines (why : ReadErr) (old new : NodeView K) (link link' : About) (served : Served) : Type 0 where
    pub uses_are : new.uses ≡ old.uses
    pub pieces_are : new.pieces ≡ old.pieces
    pub says : SaysWhy why link link' served.status served.sent
    pub wanted_is : served.wanted ≡ None
    pub taken_is : served.taken ≡ false

  abbrev pub Does : Result Request ReadErr → NodeView K → NodeView K → About → About → Served → Type 0
  Does (Ok request) = Performs request
  Does (Err why) = Declines why

  -- a link, from its bytes to its answer
  pub record Serves (old new : NodeView K) (link link' : About) (served : Served) : Type 0 where
    pub read : Result Request ReadErr
    pub between : About
    pub listens : Listens link between read
    pub does : Does read old new between link' served
    pub ticked : Ticked served.now old.coming new.coming
