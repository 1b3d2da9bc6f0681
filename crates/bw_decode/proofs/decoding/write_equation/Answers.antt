use Rattle.std.proofs.Common.{ℕ, ap, ◌∙◌, arith, length, slice_index}
use Rattle.std.proofs.lemmas.List.{length-take}
use Rattle.gf256.specs.Field.{◌⊕◌, ◌⊗◌, power}
use Rattle.bw_decode.proofs.Equations.{terms_interpolated}
use Rattle.bw_decode.proofs.decoding.write_equation.Goals as goal

pub returns-clause-row : goal.returns-clause-row
returns-clause-row c col h =
    let n = length c.args.points.now in
    let X = slice_index c.args.points.now in
    let Y = slice_index c.args.values.now in
    c.write_row.ensures.row col h
    ∙ ap (λ z. z ⊕ c.args.y ⊗ power c.args.x col)
    (terms_interpolated n X Y (slice_index c.find_weights.new.weights) (slice_index c.multiply_each.new.bytes) c.args.x col
    (λ j l. c.find_weights.ensures j (omega (arith, c.find_weights.auto.weights, length-take {A = ℕ})))
    (λ j l. c.multiply_each.ensures j (omega (arith, c.requires.lengths))))
