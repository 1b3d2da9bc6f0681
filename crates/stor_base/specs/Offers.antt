-- What a settler tells of the orders that it was offered.
use Rattle.std.specs.Prelude.{Bool, true, false, ℕ, List, [], ◌∷◌, Contains}
use Rattle.sat_base.specs.Outside.{raised}
use Rattle.stor_base.specs.declared.settler.OfferMade.{OfferMade}
use Rattle.stor_base.specs.declared.settler.Offered.{Offered}
use Rattle.stor_base.specs.declared.settler.Offered.TheVariants as offered

-- an offer that was made; for lack of memory none was
abbrev pub offers_made : List ℕ → Offered → List OfferMade
offers_made order offered.Done = record { order = order; answer = offered.Done } ∷ []
offers_made order offered.Later = record { order = order; answer = offered.Later } ∷ []
offers_made order offered.Failed = record { order = order; answer = offered.Failed } ∷ []
offers_made order offered.NoMemory = []

abbrev pub has_failed : Offered → Bool
has_failed offered.Failed = true
has_failed offered.Done = false
has_failed offered.Later = false
has_failed offered.NoMemory = false

-- what contracts see of a settler in memory
pub record Settling : Type 0 where
  pub offers : List OfferMade
  -- the numbers of the calls that are to be answered by Later, and of those that are to fail; the first call has number 1
  pub later : List ℕ
  pub failing : List ℕ
  -- how many calls were made
  pub calls : ℕ
  pub faults : ℕ

-- the next call is one of those that are to fail
abbrev pub FailsNext : Settling → Type 0
FailsNext settler = Contains settler.failing (raised settler.calls)

-- the next call is one of those that are to be answered by Later
abbrev pub WaitsNext : Settling → Type 0
WaitsNext settler = Contains settler.later (raised settler.calls)

-- failing goes before waiting
abbrev pub answer_by : Bool → Bool → Offered
answer_by true waits = offered.Failed
answer_by false true = offered.Later
answer_by false false = offered.Done

-- each answer to the next call comes just where it is chosen
abbrev pub IsChosen : Settling → Offered → Type 0
IsChosen settler offered.Done = ¬ FailsNext settler × ¬ WaitsNext settler
IsChosen settler offered.Later = ¬ FailsNext settler × WaitsNext settler
IsChosen settler offered.Failed = FailsNext settler
IsChosen settler offered.NoMemory = Unit {0}
