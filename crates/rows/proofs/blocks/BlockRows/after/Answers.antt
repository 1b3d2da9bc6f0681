use Rattle.std.proofs.Common.{◌≡◌, Some, None, ap, sym, ◌∙◌}
use Rattle.std.specs.Option.{option_or}
use Rattle.std.specs.Prelude.{slice_get, ◌+◌, drop}
use Rattle.rows.specs.Rows.{first_above}
use Rattle.rows.specs.Blocks.{all_rows}
use Rattle.rows.proofs.BlockLemmas.{next_held}
use Rattle.rows.proofs.blocks.BlockRows.after.Goals as goal

pub returns-in-Some-clause-row : goal.returns-in-Some-clause-row
returns-in-Some-clause-row g c =
    let own : Some c.in-Some.row.now ≡ first_above g.R.Ranked.rank c.index.result.now.rows c.args.k = rw c.in-Some.is at c.after.ensures in
    rw (← c.self.view_is)
    (sym (next_held g.R.Ranked.rank c.args.k c.self.inside.blocks.items c.holder-at.result c.index.result.now
    (rw (← c.deref.ensures.value) c.holder-at.ensures.within) c.index.ensures (rw (← c.deref.ensures.value) c.holder-at.ensures.holds)
    ∙ ap (λ (o : _). option_or o (slice_get (all_rows (drop (c.holder-at.result + 1) c.self.inside.blocks.items)) 0)) (sym own)))

pub returns-in-None-clause-row : goal.returns-in-None-clause-row
returns-in-None-clause-row g c =
    let own : None ≡ first_above g.R.Ranked.rank c.index.result.now.rows c.args.k = rw c.in-None.is at c.after.ensures in
    rw (← c.self.view_is)
    (sym (next_held g.R.Ranked.rank c.args.k c.self.inside.blocks.items c.holder-at.result c.index.result.now
    (rw (← c.deref.ensures.value) c.holder-at.ensures.within) c.index.ensures (rw (← c.deref.ensures.value) c.holder-at.ensures.holds)
    ∙ ap (λ (o : _). option_or o (slice_get (all_rows (drop (c.holder-at.result + 1) c.self.inside.blocks.items)) 0)) (sym own)
    ∙ sym (rw c.deref-in-None.ensures.value at c.first_from.ensures)))
