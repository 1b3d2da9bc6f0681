use Rattle.std.proofs.Common.{◌≡◌, ◌≤◌, ◌+◌, ◌-◌, length}
use Rattle.bw_decode.specs.Answers.{marked, AreKnown}
use Rattle.bw_decode.proofs.stripe.decode_rounds.Given as goal

abbrev pub invariant-rounds : goal.invariant-rounds
invariant-rounds l = record {
  points : l.scratch.points ≡ l.initial.scratch.points;
  solves : l.initial.scratch.solves ≤ l.scratch.solves;
  each : l.scratch.solves ≤ l.initial.scratch.solves + marked l.blamed;
  most : l.scratch.solves ≤ l.initial.scratch.solves + (l.radius + 1);
  known : AreKnown l.scheme.k l.scheme.share l.answers l.blamed;
}

abbrev pub decreases-rounds : goal.decreases-rounds
decreases-rounds l = length l.blamed - marked l.blamed
