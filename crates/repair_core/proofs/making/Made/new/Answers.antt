use Rattle.std.proofs.Common.{◌∙◌, ◌*◌, sym, ap, arith}
use Rattle.repair_core.specs.Indexes.{place_indexes}
use Rattle.repair_core.proofs.Numbers.{few_stripes}
use Rattle.repair_core.proofs.Mending.{pieces_below}
use Rattle.repair_core.proofs.making.Made.new.Goals as goal

pub returns-clause-made : goal.returns-clause-made
returns-clause-made c =
    let scheme = c.args.scheme.now in
    let len = c.args.plan.now.len in
    record {
      indexes = omega (arith, c.in_ok-marks.ensures.len, c.in_ok-marks.marks.ok);
      below = pieces_below scheme.n c.in_ok-fresh.fresh.items _ (c.in_ok-fresh.ensures.indexes ∙ ap place_indexes c.as_slice-targets.ensures) c.requires.targets;
      long = λ i d h. c.in_ok-fresh.ensures.long i d h ∙ c.piece_len-len.ensures ∙ ap (λ n. n * scheme.share) (sym c.stripes-whole.ensures);
      within = omega arith;
      few = omega (arith, few_stripes scheme.k scheme.share len scheme.rebuilds scheme.some_bytes, c.requires.len, c.stripes-whole.ensures);
    }
