use Rattle.std.proofs.Common.{◌≡◌, length, take}
use Rattle.std.specs.Prelude.{All}
use Rattle.bw_decode.specs.Altered.{indexes_of}
use Rattle.repair_core.specs.Indexes.{place_indexes}
use Rattle.repair_core.proofs.making.blank_pieces.Given as goal

abbrev pub invariant-loop-target : goal.invariant-loop-target
invariant-loop-target l = record {
  indexes : indexes_of l.fresh.items ≡ place_indexes (take l.target-index l.targets);
  long : All (λ piece. length piece.bytes ≡ l.len) l.fresh.items;
}
