use Rattle.std.proofs.Common.{rules, tests, ◌≡◌, fold, zip, arith}
use Rattle.std.proofs.lemmas.Iterator.{YieldsList-from_slice, YieldsList-from_zip}
use Rattle.std.proofs.lemmas.Iterator.Consumers.{fold_from_yields_List}
use Rattle.order_limits.proofs.SameBytes.{bits_with, no_bits}
use Rattle.order_limits.proofs.same.is_same.Goals as goal

pub returns : goal.returns
returns c =
    let given = c.args.given.now in
    let secret = c.args.secret.now in
    let pairs : c.fold-differing.result ≡ fold bits_with 0 (zip given secret) =
    fold_from_yields_List _ bits_with 0 _ c.fold-differing.ensures.ran
    (YieldsList-from_zip (YieldsList-from_slice given cc) (YieldsList-from_slice secret cc))
    (λ a x b q k. search (rules, tests)) in
    rw pairs (no_bits given secret 0 (omega arith))
