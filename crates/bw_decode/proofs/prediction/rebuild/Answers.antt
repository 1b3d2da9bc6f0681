use Rattle.std.proofs.Common.{ℕ, ◌≡◌, ◌≤◌, ◌+◌, ◌*◌, ◌∙◌, subst, length, arith, slice_index}
use Rattle.std.proofs.Math.Nat.{mul-le-mul_left}
use Rattle.std.proofs.lemmas.List.{length-take, length-drop}
use Rattle.std.proofs.lemmas.Slice.{take-put_mid}
use Rattle.gf256.specs.Field.{◌⊗◌}
use Rattle.gf256.specs.Sums.{total}
use Rattle.gf_linear.specs.Lagrange.{interpolated}
use Rattle.rs_stripe.specs.Weights.{weight}
use Rattle.bw_decode.specs.Altered.{indexes_of}
use Rattle.bw_decode.specs.Answers.{bytes_of}
use Rattle.bw_decode.proofs.Rounds.{weights_sum, rows_more}
use Rattle.bw_decode.proofs.prediction.rebuild.Goals as goal

pub loop-l-preserved : goal.loop-l-preserved
loop-l-preserved c =
    let k = length c.args.places.now in
    let size = c.args.size in
    let l = c.loop-l.l in
    let answers = c.args.answers.now in
    let places = slice_index c.args.places.now in
    let weights = slice_index c.find_weights.new.weights in
    let row = c.combine.new.row in
    let X = λ (j : ℕ). slice_index (indexes_of answers) (places j) in
    let room : size * (l + 1) ≤ size * k = mul-le-mul_left size (omega arith) in
    let len : length row ≡ size = omega (arith, c.combine.auto.row, length-take {A = ℕ}, length-drop {A = ℕ}) in
    let full : length c.find_weights.new.weights ≡ k = omega (arith, c.find_weights.auto.weights, c.loop-l.auto.weights, length-take {A = ℕ}) in
    rows_more size l c.loop-l.stripe row _ (λ i col. interpolated k X (λ j. slice_index (bytes_of size col answers) (places j)) i)
    (take-put_mid (l * size) _ c.loop-l.stripe row (l * size + length row) (omega arith) (omega arith)) len (omega arith)
    c.loop-l.invariant
    (λ col h.
    subst (λ n. slice_index row col ≡ total k (λ j. weights j ⊗ slice_index (bytes_of n col answers) (places j))) len (c.combine.ensures col (omega arith))
    ∙ weights_sum k (slice_index c.args.points.now) X (λ j. slice_index (bytes_of size col answers) (places j)) weights l c.requires.points
    (λ j h. subst (λ n. weights j ≡ weight (slice_index c.args.points.now) n j l) c.requires.lengths (c.find_weights.ensures j (omega arith))))
