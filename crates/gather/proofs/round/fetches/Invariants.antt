use Rattle.std.proofs.Common.{◌≡◌, take, length, vec_len, vec_capacity}
use Rattle.std.specs.List.{AllZip}
use Rattle.gather.specs.Rounds.{FetchesFor}
use Rattle.gather.proofs.round.fetches.Given as goal

abbrev pub invariant-loop-ask : goal.invariant-loop-ask
invariant-loop-ask g l = record {
  made : vec_len l.parts ≡ l.ask-index;
  room : vec_capacity l.parts ≡ length l.asked;
  each : AllZip FetchesFor (take l.ask-index l.asked) l.parts.items;
}
