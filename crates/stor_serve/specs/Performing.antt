-- What is done for a request: its bytes are counted first, and then given or kept.
use Rattle.std.specs.Prelude.{◌≡◌, ℕ, List, Result, Ok, Err}
use Rattle.sat_base.specs.Keeper.{KeeperView}
use Rattle.sat_base.specs.Nodes.{is_unanswered, is_unstored}
use Rattle.sat_base.specs.Outside.{CountsExactly}
use Rattle.sat_base.specs.declared.nodes.Fetched.{Fetched}
use Rattle.sat_base.specs.declared.nodes.Fetched.TheVariants as fetches
use Rattle.sat_base.specs.declared.nodes.Stored.{Stored}
use Rattle.sat_base.specs.declared.nodes.Stored.TheVariants as stores
use Rattle.order_uses.specs.Take.{take_case}
use Rattle.order_uses.specs.View.{Takes, UsesView}
use Rattle.order_uses.specs.declared.take.TakeErr.{TakeErr}
use Rattle.order_uses.specs.declared.take.Wanted.{Wanted}
use Rattle.stor_base.specs.Pieces.{IsWithin, Reads, Writes}
use Rattle.stor_wire.specs.declared.answers.Answer.{Answer}
use Rattle.stor_wire.specs.declared.answers.Answer.TheVariants as answers
use Rattle.stor_wire.specs.declared.request.Request.{Request}
use Rattle.stor_wire.specs.declared.request.Request.TheVariants.{Fetch, Put}
use Rattle.stor_serve.specs.Views.{PiecesView}

abbrev pub wanted_of : Request → Wanted
wanted_of (Fetch wanted offset) = wanted
wanted_of (Put wanted piece) = wanted

-- the answer to a fetch, and to a put
abbrev pub given_as : Fetched → Answer
given_as (fetches.Share bytes) = answers.Share bytes
given_as fetches.Missing = answers.Missing
given_as fetches.NoAnswer = answers.Store
given_as fetches.NoMemory = answers.NoMemory

abbrev pub kept_as : Stored → Answer
kept_as stores.Kept = answers.Kept
kept_as stores.NoAnswer = answers.Store
kept_as stores.NoMemory = answers.NoMemory

-- the bytes of a range are given, of what is held
pub record Gives (wanted : Wanted) (offset : ℕ) (old new : PiecesView) (answer : Answer) : Type 0 where
  pub fetched : Fetched
  pub reads : Reads old.held wanted.segment wanted.index offset wanted.len fetched
  pub within : IsWithin wanted.len fetched
  pub held : new.held ≡ old.held
  pub faults : CountsExactly (is_unanswered fetched) old.faults new.faults
  pub answer_is : answer ≡ given_as fetched

-- a piece is kept
pub record Keeps (wanted : Wanted) (piece : List ℕ) (old new : PiecesView) (answer : Answer) : Type 0 where
  pub stored : Stored
  pub writes : Writes old.held wanted.segment wanted.index piece stored new.held
  pub faults : CountsExactly (is_unstored stored) old.faults new.faults
  pub answer_is : answer ≡ kept_as stored

-- what follows the answer of the take: nothing is given or kept where it refused
abbrev pub Follows : Request → Result (Unit {0}) TakeErr → PiecesView → PiecesView → Answer → Type 0
Follows request (Err err) old new answer = (new ≡ old) × (answer ≡ answers.Refused err)
Follows (Fetch wanted offset) (Ok _) old new answer = Gives wanted offset old new answer
Follows (Put wanted piece) (Ok _) old new answer = Keeps wanted piece old new answer

-- the take of a request's bytes
abbrev pub TakesFor : {K : Type 0} → (K → KeeperView) → ℕ → Request → UsesView K → Result (Unit {0}) TakeErr → UsesView K → Type 0
TakesFor about now request old took new = Takes about (take_case old.node old.key old.cap old.rows now (wanted_of request)) old took new
