use Rattle.std.proofs.Common.{◌≡◌, length, vec_len}
use Rattle.gather.proofs.patience.Patience.spend.Given as goal

abbrev pub invariant-loop-ask : goal.invariant-loop-ask
invariant-loop-ask l = vec_len l.spent ≡ length l.yielded
