use Rattle.std.proofs.Common.{IfOk, subst, sym}
use Rattle.machine_upkeep.specs.Mended.{CanEnd}
use Rattle.machine_store.specs.Prepared.{Holds}
use Rattle.machine_store.specs.Store.{tables_of}
use Rattle.machine_step.specs.Mending.{end_mending}
use Rattle.sat_base.specs.declared.kinds.TheConstants as kinds
use Rattle.machine_upkeep.proofs.MendLemmas.{can_end_exit}
use Rattle.machine_upkeep.proofs.RatedLemmas.{all-rated}
use Rattle.machine_upkeep.proofs.end_exit.end_exit.Goals as goal

pub end_mending-requires-clause-rated : goal.end_mending-requires-clause-rated
end_mending-requires-clause-rated c = all-rated (tables_of c.args.store.now) c.requires

pub end_mending-requires-clause-can : goal.end_mending-requires-clause-can
end_mending-requires-clause-can c = subst (λ opened. CanEnd (tables_of c.args.store.now) opened c.args.outcome.now) (sym c.open_move-opened.ensures) (can_end_exit (tables_of c.args.store.now) c.requires c.args.outcome.now)

pub returns : goal.returns
returns c = subst (λ opened. IfOk c.end_mending.result (λ p. Holds p (end_mending (tables_of c.args.store.now) c.args.time kinds.EXIT_PLAN opened c.args.outcome.now))) c.open_move-opened.ensures c.end_mending.ensures
