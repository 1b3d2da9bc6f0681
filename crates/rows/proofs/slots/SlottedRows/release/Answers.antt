use Rattle.std.proofs.Common.{◌≡◌, not, None, sym, ap, ◌∙◌, arith}
use Rattle.std.specs.Ordering.{nat_cmp}
use Rattle.std.specs.BTreeMap.{is_at}
use Rattle.std.specs.Map.{lookup}
use Rattle.rows.specs.Slots.{has_slot}
use Rattle.rows.specs.Rows.{row_at, without}
use Rattle.rows.specs.Entries.{flat}
use Rattle.rows.proofs.Lengths.{without_none}
use Rattle.rows.proofs.EntryLemmas.{looked_up, kept-remove, fits-remove, slot_left, slot_gone, slots_released, none_taken, no_copy}
use Rattle.rows.proofs.slots.SlottedRows.release.Goals as goal

pub invariant_of-self : goal.invariant_of-self
invariant_of-self g c =
    let none : flat (lookup (is_at (nat_cmp c.args.rank)) c.self.inside.map.entries) ≡ None =
    sym (looked_up g.R.Ranked.rank _ c.args.rank c.self.invariant.is_kept) ∙ ap (λ t. row_at g.R.Ranked.rank t.rows c.args.rank) c.self.view_is ∙ sym c.get.ensures ∙ no_copy c.get.result (c.is_none.ensures ∙ ap not c.if-is_none.true) in
    let zero = none_taken _ none in
    fits-remove g.R.Ranked.rank c.self.inside.map.entries _ c.self.inside.count c.args.rank c.self.invariant 0 c.self.inside.count c.drop_entry-none.ensures.entries (sym zero) (omega arith)

pub returns-then-is_none-clause-rows : goal.returns-then-is_none-clause-rows
returns-then-is_none-clause-rows g c =
    let none : row_at g.R.Ranked.rank c.args.self.now.rows c.args.rank ≡ None = sym c.get.ensures ∙ no_copy c.get.result (c.is_none.ensures ∙ ap not c.if-is_none.true) in
    rw c.drop_entry-none.ensures.entries (kept-remove g.R.Ranked.rank c.self.inside.map.entries c.args.rank c.self.invariant.is_kept ∙ ap (λ t. without g.R.Ranked.rank t.rows c.args.rank) c.self.view_is ∙ without_none g.R.Ranked.rank _ _ none)

pub returns-then-is_none-clause-gone : goal.returns-then-is_none-clause-gone
returns-then-is_none-clause-gone g c = λ _. rw c.drop_entry-none.ensures.entries (slot_gone g.R.Ranked.rank c.self.inside.map.entries c.args.rank c.self.invariant.is_kept)

pub returns-then-is_none-clause-others : goal.returns-then-is_none-clause-others
returns-then-is_none-clause-others g c k has other = rw c.drop_entry-none.ensures.entries (slot_left c.self.inside.map.entries c.args.rank k (ap (λ t. has_slot t k) c.self.view_is ∙ has) other)

pub returns-then-is_none-clause-released : goal.returns-then-is_none-clause-released
returns-then-is_none-clause-released g c none =
    rw (c.drop_entry-none.ensures.entries, ← c.self.view_is)
    (slots_released g.R.Ranked.rank c.self.inside.map.entries c.args.rank c.self.invariant.is_kept (rw (← c.self.view_is) at none))
