use Rattle.std.proofs.Common.{◌≡◌, ◌≤◌, ℕ, ◌+◌, ◌*◌, refl, length, arith}
use Rattle.std.proofs.Math.Nat.{mul-le-mul_left}
use Rattle.std.proofs.lemmas.List.{length-take, length-drop}
use Rattle.rs_stripe.proofs.ManyShares.{matrix_more}
use Rattle.rs_stripe.proofs.weights.find_share_matrix.Goals as goal

pub loop-t-preserved : goal.loop-t-preserved
loop-t-preserved c =
    let k = length c.args.divisors.now in
    let t = c.loop-t.t in
    let matrix = c.loop-t.matrix in
    let row = c.find_share_weights.new.weights in
    let room : k * (t + 1) ≤ k * length c.args.indexes.now = mul-le-mul_left k (omega arith) in
    let len : length row ≡ k = omega (arith, c.find_share_weights.auto.weights, length-take {A = ℕ}, length-drop {A = ℕ}) in
    matrix_more k c.args.indexes.now t _ matrix row _ (omega arith) len c.loop-t.invariant refl c.find_share_weights.ensures
