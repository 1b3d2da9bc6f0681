-- What a prepared step holds.
use Rattle.std.specs.Prelude.{◌≡◌, Option, None, Some}
use Rattle.machine_step.specs.Outcome.{Outcome}
use Rattle.machine_store.specs.declared.prepared.Prepared.{Prepared}

-- it holds the outcome's reply and changes
pub record Holds (p : Prepared) (o : Outcome) : Type 0 where
  pub reply : p.reply ≡ o.reply
  pub changes : p.changes.items ≡ o.changes

-- what stands before an outcome answers already, or lets it through where there is no answer
abbrev pub Answers : (Outcome → Outcome) → Option Prepared → Type 0
Answers before None = (o : Outcome) → before o ≡ o
Answers before (Some p) = (o : Outcome) → Holds p (before o)
