use Rattle.std.proofs.Common.{ℕ, ap, ◌∙◌, arith}
use Rattle.std.proofs.lemmas.List.{length-take}
use Rattle.bw_decode.specs.Answers.{bytes_of}
use Rattle.bw_decode.proofs.Rounds.{combined_disagrees, column_disagrees}
use Rattle.bw_decode.proofs.combination.read_disagreement.Goals as goal

pub returns-then-is_off : goal.returns-then-is_off
returns-then-is_off c =
    combined_disagrees c.args.scheme.now.k c.args.scheme.now.share c.write_powers.new.factors c.args.stripe.now
    c.combine_answers.new.values c.combine_rows.new.column c.args.answers.now c.args.blamed.now
    (omega (arith, c.write_powers.auto.factors, c.loop-base.auto.factors, c.from-size.ensures, length-take {A = ℕ}))
    (omega (arith, c.combine_rows.auto.column, c.loop-base.auto.column, c.from.ensures, length-take {A = ℕ}))
    c.combine_answers.ensures c.combine_rows.ensures (c.is_off.ensures c.if-is_off.true)

pub returns : goal.returns
returns c =
    column_disagrees c.args.scheme.now.k c.args.scheme.now.share c.args.c c.args.stripe.now c.read_bytes.new.values
    c.args.answers.now c.args.blamed.now
    (c.read_bytes.ensures ∙ ap (λ n. bytes_of n c.args.c c.args.answers.now) c.from-size.ensures) c.requires.disagrees
