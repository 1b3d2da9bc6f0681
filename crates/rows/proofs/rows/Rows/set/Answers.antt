use Rattle.std.proofs.Common.{◌≡◌, sym, ap, slice_set}
use Rattle.rows.specs.Rows.{replaced}
use Rattle.rows.specs.Place.{IsAt}
use Rattle.rows.proofs.Rising.{rising-replaced}
use Rattle.rows.proofs.rows.Rows.set.Goals as goal

pub invariant_of-self : goal.invariant_of-self
invariant_of-self g c =
    let rank = g.R.Ranked.rank in
    let rows = c.args.self.now.rows in
    let rows_is : c.self.inside.rows.items ≡ rows = ap (λ v. v.rows) c.self.view_is in
    let at : IsAt rank rows c.rank.result c.unwrap-at.result = rw c.unwrap-at.ensures at c.search.ensures.found in
    let items : slice_set c.self.inside.rows.items c.unwrap-at.result c.args.row ≡ replaced rank c.args.row rows = rw rows_is (sym (at.in_place c.args.row (sym c.rank.ensures))) in
    rw items (rising-replaced rank c.args.row rows (rw (← rows_is) c.self.invariant))
