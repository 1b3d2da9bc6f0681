use Rattle.std.proofs.Common.{arith}
use Rattle.machine_store.specs.Store.{tables_of}
use Rattle.machine_upkeep.proofs.AnswerLemmas.{few-answers}
use Rattle.machine_upkeep.proofs.RatedLemmas.{all-rated}
use Rattle.machine_upkeep.proofs.end_audit.end_audit.Goals as goal

pub audit_ended-requires-clause-rated : goal.audit_ended-requires-clause-rated
audit_ended-requires-clause-rated c = all-rated (tables_of c.args.store.now) c.requires.valid

pub audit_ended-requires-clause-few : goal.audit_ended-requires-clause-few
audit_ended-requires-clause-few c =
    let judged = c.args.judged.now in
    few-answers judged (omega (arith, c.requires.scheme.n, c.requires.valid.bounds.setup.scheme.few_pieces)) judged.answers_rise judged.each_once judged.below
