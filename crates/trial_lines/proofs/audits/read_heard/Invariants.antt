use Rattle.std.proofs.Common.{◌≡◌, false, take}
use Rattle.std.specs.Prelude.{All}
use Rattle.audit_core.specs.Heard.{heard_indexes, is_out_of_memory, place_indexes}
use Rattle.trial_lines.proofs.audits.read_heard.Given as goal

abbrev pub invariant-loop-piece : goal.invariant-loop-piece
invariant-loop-piece l = record {
  indexes : heard_indexes l.heard.items ≡ place_indexes (take l.piece-index l.pieces);
  told : All (λ one. is_out_of_memory one.what ≡ false) l.heard.items;
}
