use Rattle.std.proofs.Common.{sym, subst, rules, ◌∙◌}
use Rattle.rows.specs.Rows.{IsRising}
use Rattle.rows.proofs.EntryLemmas.{kept-values, rows_rise}
use Rattle.rows.proofs.slots.SlottedRows.copied.Goals as goal

pub returns-clause-rows : goal.returns-clause-rows
returns-clause-rows g c = let same = kept-values c.self.inside.map.entries in search (rules, same)

pub returns-clause-rising : goal.returns-clause-rising
returns-clause-rising g c = subst (λ rows. IsRising g.R.Ranked.rank rows) (sym (c.in_ok-rows.ensures ∙ kept-values c.self.inside.map.entries)) (rows_rise g.R.Ranked.rank _ c.self.invariant.is_kept)
