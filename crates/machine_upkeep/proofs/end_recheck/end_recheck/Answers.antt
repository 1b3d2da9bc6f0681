use Rattle.std.proofs.Common.{◌≡◌, Some}
use Rattle.machine_step.specs.Calls.EndRecheck.{still_owed}
use Rattle.machine_store.specs.Store.{tables_of}
use Rattle.machine_upkeep.proofs.RatedLemmas.{all-rated}
use Rattle.machine_upkeep.proofs.RecheckLemmas.{few-tries}
use Rattle.machine_upkeep.proofs.end_recheck.end_recheck.Goals as goal

pub recheck_ended-requires-clause-rated : goal.recheck_ended-requires-clause-rated
recheck_ended-requires-clause-rated c = all-rated (tables_of c.args.store.now) c.requires

pub recheck_ended-requires-clause-tries : goal.recheck_ended-requires-clause-tries
recheck_ended-requires-clause-tries c =
    let there : still_owed (tables_of c.args.store.now) c.args.plan.now ≡ Some c.in-Some.row = cc (c.still_owed.ensures, c.in-Some.is) in
    few-tries (tables_of c.args.store.now) c.requires c.args.plan.now c.in-Some.row there
