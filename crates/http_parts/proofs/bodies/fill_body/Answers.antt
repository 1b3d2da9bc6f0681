use Rattle.std.proofs.Common.{rules, ◌≡◌, ◌++◌, length, take, drop, slice_range, ◌∙◌, sym, ap, arith}
use Rattle.std.proofs.lemmas.List.{take_at, length-take-le}
use Rattle.sat_base.specs.Streams.{idle_reads, failed_filling}
use Rattle.sat_base.proofs.Transfers.{took_as}
use Rattle.http_parts.specs.Bodies.{MayReadBody}
use Rattle.http_parts.proofs.BodyLemmas.{body_filled, few_came, fills_body}
use Rattle.http_parts.proofs.bodies.fill_body.Goals as goal

pub returns-clause-took : goal.returns-clause-took
returns-clause-took g c =
    let about = g.S.Outside.about in
    let f = c.fill.ensures in
    let have = c.min-have.result in
    let size = length c.args.body.now in
    let same : length c.fill.new.buf ≡ size = search rules in
    let t = rw (sym f.length ∙ same) at f.took in
    let most = rw (sym f.length ∙ same) at f.most in
    let end = rw (sym f.length ∙ same) at f.end in
    let kept = f.kept ∙ ap (λ l. take have (l ++ drop have c.args.body.now)) c.copy_from_slice.ensures.after ∙ take_at (take have c.args.read.now) _ _ (length-take-le _ _ (omega arith)) in (
      slice_range c.fill.new.buf have c.fill.result.len,
      took_as (MayReadBody size c.args.read.now) _ _ (idle_reads c.fill.result.end) (failed_filling c.fill.result.end) (about c.args.source.now) (about c.fill.new.source) t
          (fills_body c.args.read.now have size c.min-have.ensures),
      few_came c.args.read.now c.fill.new.buf have size c.fill.result.len c.min-have.ensures f.least most same,
      body_filled (about c.fill.new.source).left c.args.read.now c.fill.new.buf have size c.fill.result.len c.fill.result.end c.min-have.ensures f.least most same kept end,
    )
