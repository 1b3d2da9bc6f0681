use Rattle.std.proofs.Common.{◌≡◌, ◌+◌, ◌≤◌, length}
use Rattle.sat_console.specs.Lines.{lines_of}
use Rattle.sat_console.specs.Judge.{shares_from, shares_of}
use Rattle.sat_console.proofs.Shares.{after}
use Rattle.sat_console.proofs.judging.read_shares.Given as goal

-- the shares so far, and behind them what the rest gives, are the whole; each line has a byte of its own
abbrev pub invariant-loop-rest : goal.invariant-loop-rest
invariant-loop-rest l = record {
  so_far : after l.shares.items (shares_from l.least l.number (lines_of l.rest)) ≡ shares_of l.input;
  lines : l.number + length l.rest ≤ length l.input + 1;
  least : l.least ≤ 128;
}

abbrev pub decreases-loop-rest : goal.decreases-loop-rest
decreases-loop-rest l = length l.rest
