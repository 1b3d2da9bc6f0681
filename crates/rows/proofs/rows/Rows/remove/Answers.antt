use Rattle.std.proofs.Common.{◌≡◌, sym, ap, ◌∙◌}
use Rattle.rows.specs.Rows.{without}
use Rattle.rows.specs.Place.{IsAt}
use Rattle.rows.proofs.Rising.{rising-without}
use Rattle.rows.proofs.Search.{is_there}
use Rattle.rows.proofs.rows.Rows.remove.Goals as goal

pub invariant_of-self : goal.invariant_of-self
invariant_of-self g c =
    let rank = g.R.Ranked.rank in
    let rows = c.args.self.now.rows in
    let rows_is : c.self.inside.rows.items ≡ rows = ap (λ v. v.rows) c.self.view_is in
    let at : IsAt rank rows c.args.k c.in-Ok.at = c.in-Ok.ensures.found in
    let items : c.remove.new.self.items ≡ without rank rows c.args.k = c.remove.ensures.items ∙ rw rows_is (sym at.left_out) in
    rw items (rising-without rank rows c.args.k (rw (← rows_is) c.self.invariant))

pub returns-in-Ok-clause-none : goal.returns-in-Ok-clause-none
returns-in-Ok-clause-none g c none =
    let at : IsAt g.R.Ranked.rank c.args.self.now.rows c.args.k c.in-Ok.at = c.in-Ok.ensures.found in
    absurd (is_there g.R.Ranked.rank c.args.self.now.rows c.in-Ok.at at.in_range (sym at.has_rank ∙ none))
