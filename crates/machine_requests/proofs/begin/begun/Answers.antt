use Rattle.machine_store.specs.Store.{tables_of}
use Rattle.machine_requests.proofs.CaseLemmas.{len-within}
use Rattle.machine_requests.proofs.begin.begun.Goals as goal

pub piece_len-requires : goal.piece_len-requires
piece_len-requires c = len-within (tables_of c.args.store.now) c.args.len c.requires.valid c.requires.size
