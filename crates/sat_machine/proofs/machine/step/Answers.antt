use Rattle.std.proofs.Common.{IfOk, subst, sym, rules}
use Rattle.machine_step.specs.Step.{case_of}
use Rattle.machine_store.specs.Prepared.{Holds}
use Rattle.machine_store.specs.Store.{tables_of}
use Rattle.machine_step.proofs.StepLemmas.{step-running}
use Rattle.sat_machine.proofs.machine.step.Goals as goal

pub returns : goal.returns
returns c =
    let t = tables_of c.args.store.now in
    subst (λ o. IfOk c.sweep.result (λ p. Holds p o)) (sym (step-running t c.args.call.now (search rules))) (c.sweep.ensures (case_of t c.args.call.now) c.in_ok-prepared.ensures)
