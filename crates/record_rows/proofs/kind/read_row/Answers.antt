use Rattle.std.proofs.Common.{sym, ◌∙◌, arith}
use Rattle.record_rows.proofs.KindLemmas.{read_no_body}
use Rattle.record_rows.proofs.kind.read_row.Goals as goal

pub returns-in-Err-Form-read_whole : goal.returns-in-Err-Form-read_whole
returns-in-Err-Form-read_whole g c =
    read_no_body g.met.K.Kind.parts c.args.row.now c.requires c.in-Ok.id c.in-Ok.ensures.fits
    (sym c.as_slice.ensures ∙ c.in-Ok.ensures.found) g.met.K.Body.Coded.some
    (λ b fit same. let read = c.read_whole-2.ensures.only b fit (c.as_slice-2.ensures ∙ same) in grind (arith, read))
