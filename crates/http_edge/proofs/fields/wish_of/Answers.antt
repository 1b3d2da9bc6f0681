use Rattle.std.proofs.Common.{ap, ◌≡◌, true, false}
use Rattle.http_edge.specs.Fields.{of_reading}
use Rattle.http_edge.proofs.ReadingLemmas.{reading_some, reading_none}
use Rattle.http_edge.proofs.fields.wish_of.Goals as goal

pub returns-in-Ok-clause-wish : goal.returns-in-Ok-clause-wish
returns-in-Ok-clause-wish c = rw (reading_some c.args.body.now _ c.in-Ok.ensures.ok.0 c.in-Ok.ensures.ok.1) c.wish_from.ensures.wish

pub returns-else-is_memory-clause-wish : goal.returns-else-is_memory-clause-wish
returns-else-is_memory-clause-wish c = λ n. ap (of_reading c.args.route) (reading_none c.args.body.now (c.in-Err.ensures.err (λ m. let no : false ≡ true = c.if-is_memory.ensures.1 m in cc)))
