use Rattle.std.proofs.Common.{◌≤◌, ◌^◌, ap, subst, sym}
use Rattle.machine_store.specs.Store.{tables_of}
use Rattle.machine_requests.proofs.CaseLemmas.{owned-len}
use Rattle.machine_requests.proofs.get.offered.Goals as goal

pub piece_len-requires : goal.piece_len-requires
piece_len-requires c =
    subst (λ n. n ≤ 2 ^ 40) (sym (ap (λ s. s.len) c.found.view_is)) (owned-len (tables_of c.args.store.now) c.args.asking.now c.args.segment c.args.found.now c.requires.valid c.requires.found)
