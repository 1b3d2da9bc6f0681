use Rattle.std.proofs.Common.{IsSomeAnd, sym, subst}
use Rattle.machine_step.specs.Step.{step}
use Rattle.machine_store.specs.Prepared.{Holds}
use Rattle.sat_machine.proofs.StepLemmas.{orderly_held, room_held, ready_finished}
use Rattle.sat_machine.proofs.machine.Core.finish.Goals as goal

pub take_step-reply-requires-clause-orderly : goal.take_step-reply-requires-clause-orderly
take_step-reply-requires-clause-orderly c =
    orderly_held c.self.inside.store _ c.args.prepared c.self.invariant (subst (λ m. IsSomeAnd m.pending (λ call. Holds c.args.prepared (step m.tables call))) (sym c.self.view_is) c.requires)

pub take_step-reply-requires-clause-room : goal.take_step-reply-requires-clause-room
take_step-reply-requires-clause-room c =
    room_held c.self.inside.store _ c.args.prepared c.self.invariant (subst (λ m. IsSomeAnd m.pending (λ call. Holds c.args.prepared (step m.tables call))) (sym c.self.view_is) c.requires)

pub invariant_of-self : goal.invariant_of-self
invariant_of-self c =
    ready_finished c.self.inside.store c.take_step-reply.new.store _ c.args.prepared c.self.invariant (subst (λ m. IsSomeAnd m.pending (λ call. Holds c.args.prepared (step m.tables call))) (sym c.self.view_is) c.requires) c.take_step-reply.ensures.tables c.take_step-reply.ensures.own
