use Rattle.std.proofs.Common.{◌≡◌, ◌++◌, drop, option_map}
use Rattle.serde_json.specs.View.{items_view}
use Rattle.http_edge.specs.Fields.{bytes_of}
use Rattle.http_edge.proofs.pieces.bytes.Given as goal

abbrev pub invariant-loop-item : goal.invariant-loop-item
invariant-loop-item l = bytes_of (items_view l.items) ≡ option_map (λ bs. l.indexes.items ++ bs) (bytes_of (items_view (drop l.item-index l.items)))
