use Rattle.std.proofs.Common.{ap}
use Rattle.http_edge.specs.Fields.{needed}
use Rattle.http_edge.proofs.FieldLemmas.{pieces_many, pieces_few}
use Rattle.http_edge.proofs.pieces.indexes_of.Goals as goal

pub returns-then-items-gt256 : goal.returns-then-items-gt256
returns-then-items-gt256 c = λ n. ap (needed 3) (pieces_many c.args.items.now c.if-items-gt256.true)

pub returns : goal.returns
returns c = rw (pieces_few c.args.items.now c.if-items-gt256.false) c.bytes.ensures
