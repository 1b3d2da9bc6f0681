use Rattle.std.proofs.Common.{◌≡◌, sym, ap, ◌∙◌}
use Rattle.rows.specs.Rows.{added}
use Rattle.rows.specs.Place.{IsGapFor}
use Rattle.rows.proofs.Rising.{rising-added}
use Rattle.rows.proofs.rows.Rows.add.Goals as goal

pub invariant_of-self : goal.invariant_of-self
invariant_of-self g c =
    let rank = g.R.Ranked.rank in
    let rows = c.args.self.now.rows in
    let rows_is : c.self.inside.rows.items ≡ rows = ap (λ v. v.rows) c.self.view_is in
    let gap : IsGapFor rank rows c.rank.result c.unwrap_err-at.result = rw c.unwrap_err-at.ensures at c.search.ensures.absent in
    let inserted = rw c.unwrap.ensures at c.insert.ensures.items in
    let items : c.insert.new.self.items ≡ added rank c.args.row rows = inserted ∙ rw rows_is (sym (gap.in_order c.args.row (sym c.rank.ensures))) in
    rw items (rising-added rank c.args.row rows c.requires.absent (rw (← rows_is) c.self.invariant))
