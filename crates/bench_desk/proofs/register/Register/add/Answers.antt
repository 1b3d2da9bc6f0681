use Rattle.std.proofs.Common.{arith}
use Rattle.std.proofs.lemmas.Grind.{common_steps}
use Rattle.bench_desk.proofs.RegisterLemmas.{after-snoc, replays-snoc}
use Rattle.bench_desk.proofs.register.Register.add.Goals as goal

pub invariant_of-self : goal.invariant_of-self
invariant_of-self c = record {
  counted = grind (arith, common_steps, after-snoc);
  fair = grind (arith, common_steps, replays-snoc);
}
