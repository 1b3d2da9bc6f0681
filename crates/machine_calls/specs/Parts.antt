-- The records of a store, by kind.
use Rattle.std.specs.Prelude.{◌≡◌, []}
use Rattle.machine_calls.specs.declared.parts.Parts0.{Parts0}

-- there is no record of any kind
pub record HasNoRecord (parts : Parts0) : Type 0 where
  pub settings : parts.settings.items ≡ []
  pub marks : parts.marks.items ≡ []
  pub nodes : parts.nodes.items ≡ []
  pub customers : parts.customers.items ≡ []
  pub segments : parts.segments.items ≡ []
  pub settled : parts.settled.items ≡ []
  pub tallies : parts.tallies.items ≡ []
  pub statements : parts.statements.items ≡ []
  pub audit_plans : parts.audit_plans.items ≡ []
  pub recheck_plans : parts.recheck_plans.items ≡ []
  pub repair_plans : parts.repair_plans.items ≡ []
  pub containments : parts.containments.items ≡ []
  pub kept : parts.kept.items ≡ []
  pub exit_plans : parts.exit_plans.items ≡ []
  pub left : parts.left.items ≡ []
  pub tariffs : parts.tariffs.items ≡ []
