-- The calls of a round are well formed.
use Rattle.std.proofs.Common.{◌≡◌, ℕ, ◌<◌, ◌^◌, List, length, Option, Some, None, sym, subst}
use Rattle.std.specs.Prelude.{IsSome, IsSomeAnd}
use Rattle.sat_base.specs.declared.scheme.Scheme.{Scheme}
use Rattle.repair_core.specs.declared.outcome.RepairOutcome.TheVariants as repairs
use Rattle.machine_calls.specs.declared.call.Call.TheVariants as calls
use Rattle.machine_calls.specs.declared.task.Task.TheVariants as tasks
use Rattle.machine_step.specs.Step.{IsSchemeOf, IsWellFormed}
use Rattle.machine_step.specs.Tables.{Tables}
use Rattle.sat_book.specs.Book.{MayEnter, start_of}
use Rattle.sat_book.specs.declared.opening.Origin.{Origin}
use Rattle.node_rounds.specs.Askable.{IsFoundAs}
use Rattle.node_rounds.specs.Upkeep.{end_call, plan_call, words_of}
use Rattle.node_rounds.specs.declared.upkeep.Found.{Found}
use Rattle.node_rounds.specs.declared.upkeep.Found.TheVariants as founds
use Rattle.node_rounds.specs.declared.upkeep.Upkeep.{Upkeep}
use Rattle.node_rounds.specs.declared.upkeep.Upkeep.TheVariants as kinds
use Rattle.node_rounds.proofs.Answering.{OfStore}

plan_formed : (t : Tables) (kind : Upkeep) (now : ℕ) (words : List ℕ) → now < 2 ^ 36 → length words ≡ words_of kind → IsWellFormed t (plan_call kind now words)
plan_formed t kinds.Recheck now words timely number = record { formed = record { timely = timely; words = tt; bytes = tt; tariff = tt }; scheme = tt }
plan_formed t kinds.Audit now words timely number = record { formed = record { timely = timely; words = number; bytes = tt; tariff = tt }; scheme = tt }
plan_formed t kinds.Repair now words timely number = record { formed = record { timely = timely; words = number; bytes = tt; tariff = tt }; scheme = tt }
plan_formed t kinds.Exit now words timely number = record { formed = record { timely = timely; words = number; bytes = tt; tariff = tt }; scheme = tt }

pub may_plan : {K : Type 0} (base : Option (Origin K)) (kind : Upkeep) (now : ℕ) (words : List ℕ) → IsSome base → now < 2 ^ 36 → length words ≡ words_of kind → MayEnter base (plan_call kind now words)
may_plan None kind now words some timely number = absurd (cc)
may_plan (Some origin) kind now words some timely number = plan_formed (start_of origin.opening) kind now words timely number

end_formed : (t : Tables) (scheme : Scheme) (found : Found) (now : ℕ) → IsSchemeOf t.setup scheme → IsFoundAs scheme found → now < 2 ^ 36 → IsWellFormed t (end_call found now)
end_formed t scheme (founds.Recheck plan checked) now own is timely = record { formed = record { timely = timely; words = tt; bytes = tt; tariff = tt }; scheme = tt }
end_formed t scheme (founds.Audit judged) now own is timely =
    record { formed = record { timely = timely; words = tt; bytes = tt; tariff = tt }; scheme = subst (IsSchemeOf t.setup) (sym is) own }
end_formed t scheme (founds.Repair (repairs.Mended mended)) now own is timely =
    record { formed = record { timely = timely; words = tt; bytes = tt; tariff = tt }; scheme = subst (IsSchemeOf t.setup) (sym is) own }
end_formed t scheme (founds.Repair (repairs.Unmended unmended)) now own is timely = record { formed = record { timely = timely; words = tt; bytes = tt; tariff = tt }; scheme = tt }
end_formed t scheme (founds.Exit (repairs.Mended mended)) now own is timely =
    record { formed = record { timely = timely; words = tt; bytes = tt; tariff = tt }; scheme = subst (IsSchemeOf t.setup) (sym is) own }
end_formed t scheme (founds.Exit (repairs.Unmended unmended)) now own is timely = record { formed = record { timely = timely; words = tt; bytes = tt; tariff = tt }; scheme = tt }

pub may_end : {K : Type 0} (base : Option (Origin K)) (secret : List ℕ) (scheme : Scheme) (found : Found) (now : ℕ) → OfStore base secret scheme → IsFoundAs scheme found → now < 2 ^ 36 → MayEnter base (end_call found now)
may_end None secret scheme found now own is timely = absurd own
may_end (Some origin) secret scheme found now own is timely = end_formed (start_of origin.opening) scheme found now own.scheme_is is timely

pub may_tally : {K : Type 0} (base : Option (Origin K)) (now : ℕ) → IsSome base → now < 2 ^ 36 → MayEnter base (calls.Own now tasks.TallyHour)
may_tally None now some timely = absurd (cc)
may_tally (Some origin) now some timely = record { formed = record { timely = timely; words = tt; bytes = tt; tariff = tt }; scheme = tt }
