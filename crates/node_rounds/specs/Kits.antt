-- What is told of each round of a worker.
use Rattle.std.specs.Prelude.{◌≡◌, ℕ, List, Bool, Option, IsSomeAnd}
use Rattle.sat_base.specs.declared.scheme.Scheme.{Scheme}
use Rattle.machine_step.specs.Step.{IsSchemeOf}
use Rattle.sat_book.specs.Book.{start_of}
use Rattle.sat_book.specs.Legal.{E}
use Rattle.sat_book.specs.declared.opening.Opening.{Opening}
use Rattle.sat_sessions.specs.declared.rounds.Round.{Round}
use Rattle.node_rounds.specs.declared.upkeep.Upkeep.{Upkeep}
use Rattle.node_rounds.specs.Parts.{S}
use Rattle.node_rounds.specs.Works.{Works}

-- what a round did, under the keys and the scheme of the store, from where its tick left the kit
pub record Did (first second : Upkeep) (opening : Opening) (s : S) (x : Round) (new : List E) (s' : S) : Type 0 where
  pub scheme : Scheme
  pub scheme_is : IsSchemeOf (start_of opening).setup scheme
  pub works : Works (start_of opening).setup.secret scheme first second (record s { ticks = s'.ticks }) new x.end s'

-- over each history in which its entries stand
abbrev pub Tells : Upkeep → Upkeep → Option Opening → S → Round → List E → List E → S → Type 0
Tells first second opening s x new history s' = IsSomeAnd opening (λ o. Did first second o s x new s')
