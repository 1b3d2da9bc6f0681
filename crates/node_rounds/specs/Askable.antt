-- Which plans can be asked, and that what is found goes by the store's scheme.
use Rattle.std.specs.Prelude.{◌≡◌, ℕ, List, [], ◌∷◌}
use Rattle.sat_base.specs.declared.scheme.Scheme.{Scheme}
use Rattle.repair_core.specs.declared.outcome.RepairOutcome.{RepairOutcome}
use Rattle.repair_core.specs.declared.outcome.RepairOutcome.TheVariants as repairs
use Rattle.machine_calls.specs.declared.reply.Reply.{Reply}
use Rattle.machine_calls.specs.declared.reply.Reply.TheVariants as replies
use Rattle.machine_step.specs.Bounds.{IsValid}
use Rattle.machine_step.specs.Step.{IsSchemeOf}
use Rattle.sat_book.specs.Book.{start_of}
use Rattle.sat_book.specs.declared.opening.Opening.{Opening}
use Rattle.askable_plans.specs.Askable.{IsAuditable, IsRecheckable, IsRepairable}
use Rattle.node_rounds.specs.declared.upkeep.Found.{Found}
use Rattle.node_rounds.specs.declared.upkeep.Found.TheVariants as founds

-- the keys and the scheme are those of the store that a book was opened over, whose tables keep every rule
pub record IsStoreOf (opening : Opening) (secret : List ℕ) (scheme : Scheme) : Type 0 where
  pub valid : IsValid (start_of opening)
  pub secret_is : secret ≡ (start_of opening).setup.secret
  pub scheme_is : IsSchemeOf (start_of opening).setup scheme

-- the reply holds a plan that can be asked
abbrev pub IsAskable : Scheme → Reply → Type 0
IsAskable scheme (replies.AuditPlanned plan places) = IsAuditable scheme plan places
IsAskable scheme (replies.RecheckPlanned plan place) = IsRecheckable plan place
IsAskable scheme (replies.RepairPlanned plan sources targets) = IsRepairable scheme plan sources targets
IsAskable scheme (replies.ExitPlanned exit sources target) = IsRepairable scheme exit.plan sources (target ∷ [])
IsAskable scheme _ = ⊥

-- what was mended was so by the scheme
abbrev pub IsMendedAs : Scheme → RepairOutcome → Type 0
IsMendedAs scheme (repairs.Mended mended) = mended.scheme ≡ scheme
IsMendedAs scheme (repairs.Unmended unmended) = Unit {0}

-- what was found was so by the scheme
abbrev pub IsFoundAs : Scheme → Found → Type 0
IsFoundAs scheme (founds.Recheck plan checked) = Unit {0}
IsFoundAs scheme (founds.Audit judged) = judged.scheme ≡ scheme
IsFoundAs scheme (founds.Repair outcome) = IsMendedAs scheme outcome
IsFoundAs scheme (founds.Exit outcome) = IsMendedAs scheme outcome
