use Rattle.std.proofs.Common.{ℕ, ◌≡◌, ◌<◌, slice_index}
use Rattle.bw_decode.specs.Answers.{bytes_of}
use Rattle.bw_decode.proofs.answers.read_bytes.Given as goal

abbrev pub invariant-loop-i : goal.invariant-loop-i
invariant-loop-i l = (k : ℕ) → k < l.i → slice_index l.values k ≡ slice_index (bytes_of l.size l.c l.answers) k
