use Rattle.std.proofs.Common.{ℕ, ◌≡◌, ◌≤◌, ◌+◌, ◌-◌, ◌/◌, refl, sym, ap, ◌∙◌, subst, List, arith, length, slice_index, take, drop, length-drop}
use Rattle.std.proofs.lemmas.List.{length-take, length-take-le, take_rest, get_or-take, get_or-drop}
use Rattle.gf_linear.specs.System.{IsSolution}
use Rattle.gf_linear.specs.Table.{at}
use Rattle.bw_decode.specs.Equations.{system, coefficient}
use Rattle.bw_decode.proofs.Equations.{coefficient_agree}
use Rattle.bw_decode.proofs.Locator.{has_solution, IsSolved, locator, rising_apart}
use Rattle.bw_decode.proofs.decoding.decode.Goals as goal

-- the equations of the points that are cut off are those of the whole system
cut_off : (w c i : ℕ) (xs ys : List ℕ) → w ≤ length xs
    → coefficient (length (take w xs)) (slice_index (take w xs)) (slice_index (take w ys)) (slice_index (take (length xs - w) (drop w xs)) i) (slice_index (take (length ys - w) (drop w ys)) i) c
    ≡ system w (slice_index xs) (slice_index ys) i c
cut_off w c i xs ys room =
    let x = slice_index (take (length xs - w) (drop w xs)) i in
    let y = slice_index (take (length ys - w) (drop w ys)) i in
    ap (λ n. coefficient n (slice_index (take w xs)) (slice_index (take w ys)) x y c) (length-take-le w xs room)
    ∙ coefficient_agree w (slice_index (take w xs)) (slice_index xs) (slice_index (take w ys)) (slice_index ys) x (slice_index xs (w + i)) y (slice_index ys (w + i)) c
    (λ j h. get_or-take w xs j 0 h) (λ j h. get_or-take w ys j 0 h)
    (ap (λ zs. slice_index zs i) (take_rest xs w) ∙ get_or-drop w xs i 0)
    (ap (λ zs. slice_index zs i) (take_rest ys w) ∙ get_or-drop w ys i 0)

pub read_codeword-requires-clause-locator : goal.read_codeword-requires-clause-locator
read_codeword-requires-clause-locator c =
    let r = length c.args.points.now in
    let k = length c.args.out.now in
    let X = slice_index c.args.points.now in
    let Y = slice_index c.args.values.now in
    let M = at c.write_system.new.matrix in
    let zs = c.solve.new.out in
    let w = k + c.args.radius in
    let e : c.args.radius ≡ (r - k) / 2 = c.requires.radius in
    let rows : c.write_system.new.matrix.rows ≡ r - (k + (r - k) / 2) =
    omega (arith, c.write_system.ensures.rows, length-take {A = ℕ}, length-drop {A = ℕ}) in
    let solved : IsSolved r k X Y M zs = record {
      size = omega (arith, c.solve.auto.out, length-take {A = ℕ});
      entries = λ i col hi hc.
          c.write_system.ensures.entries i col (omega (arith, length-take {A = ℕ}, length-drop {A = ℕ})) (omega (arith, c.solve.auto.out, length-take {A = ℕ}))
          ∙ cut_off w col i c.args.points.now c.args.values.now (omega (arith, c.requires.size))
          ∙ ap (λ n. system (k + n) X Y i col) e;
      bytes = c.in-One.ensures.bytes;
      solved = subst (λ n. IsSolution n (length zs) M (slice_index zs)) rows (c.in-One.ensures.one refl);
    } in
    locator r k X Y M zs solved (rising_apart c.args.points.now c.requires.rising)
    (λ i h. omega (arith, c.type_inv.points i)) (λ i h. omega (arith, c.type_inv.values i)) c.requires.size.1

pub returns-in-NoSolution-clause-unclear : goal.returns-in-NoSolution-clause-unclear
returns-in-NoSolution-clause-unclear c same d near =
    let r = length c.args.points.now in
    let k = length c.args.out.now in
    let X = slice_index c.args.points.now in
    let Y = slice_index c.args.values.now in
    let M = at c.write_system.new.matrix in
    let u = length c.solve.new.out in
    let w = k + c.args.radius in
    let e : c.args.radius ≡ (r - k) / 2 = c.requires.radius in
    let rows : c.write_system.new.matrix.rows ≡ r - (k + (r - k) / 2) =
    omega (arith, c.write_system.ensures.rows, length-take {A = ℕ}, length-drop {A = ℕ}) in
    let size : u ≡ (r - k) / 2 = omega (arith, c.solve.auto.out, length-take {A = ℕ}) in
    let x = has_solution r k X Y M (rising_apart c.args.points.now c.requires.rising) (λ i h. omega (arith, c.type_inv.points i)) c.requires.size.1
    (λ i col hi hc.
    c.write_system.ensures.entries i col (omega (arith, length-take {A = ℕ}, length-drop {A = ℕ})) (omega arith)
    ∙ cut_off w col i c.args.points.now c.args.values.now (omega (arith, c.requires.size))
    ∙ ap (λ n. system (k + n) X Y i col) e)
    d near in
    c.in-NoSolution.ensures.none refl x.0
    (subst (λ n. IsSolution n u M x.0) (sym rows) (subst (λ n. IsSolution (r - (k + (r - k) / 2)) n M x.0) (sym size) x.1))
