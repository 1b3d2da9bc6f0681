use Rattle.std.proofs.Common.{◌≡◌, ap, sym, ◌∙◌, option_copied}
use Rattle.rows.specs.Rows.{row_at}
use Rattle.rows.proofs.Found.{ranked_found}
use Rattle.rows.proofs.Items.{copied_at}
use Rattle.rows.proofs.rows.Rows.get.Goals as goal

pub returns-in-Ok-clause-ranked : goal.returns-in-Ok-clause-ranked
returns-in-Ok-clause-ranked g c =
    let rank = g.R.Ranked.rank in
    let rows = c.args.self.now.rows in
    let items : c.deref.result.now ≡ rows = c.deref.ensures.value ∙ ap (λ v. v.rows) c.self.view_is in
    let copied : option_copied c.get.result ≡ row_at rank rows c.args.k =
    rw items at (copied_at c.deref.result.now c.in-Ok.i c.get.result c.get.ensures.lookup) ∙ sym c.in-Ok.ensures.found.has_rank in
    ranked_found rank rows c.args.k c.get.result copied
