use Rattle.std.proofs.Common.{ap, ◌∙◌, arith}
use Rattle.rows.specs.Slots.{has_slot}
use Rattle.rows.proofs.EntryLemmas.{kept-remove, fits-remove, slot_left, slot_gone, keys-remove, count-remove}
use Rattle.rows.proofs.slots.SlottedRows.remove.Goals as goal

pub overflow_sub-self : goal.overflow_sub-self
overflow_sub-self g c = omega (arith, count-remove c.self.inside.map.entries c.args.rank, c.self.invariant.counted, c.drop_entry.ensures.taken)

pub invariant_of-self : goal.invariant_of-self
invariant_of-self g c =
    let less = count-remove c.self.inside.map.entries c.args.rank in
    fits-remove g.R.Ranked.rank c.self.inside.map.entries _ c.self.inside.count c.args.rank c.self.invariant c.drop_entry.result _ c.drop_entry.ensures.entries c.drop_entry.ensures.taken (omega (arith, c.drop_entry.ensures.taken, less, c.self.invariant.counted))

pub returns-clause-rows : goal.returns-clause-rows
returns-clause-rows g c = rw (c.drop_entry.ensures.entries, ← c.self.view_is) (kept-remove g.R.Ranked.rank c.self.inside.map.entries c.args.rank c.self.invariant.is_kept)

pub returns-clause-others : goal.returns-clause-others
returns-clause-others g c k has other = rw c.drop_entry.ensures.entries (slot_left c.self.inside.map.entries c.args.rank k (ap (λ t. has_slot t k) c.self.view_is ∙ has) other)

pub returns-clause-gone : goal.returns-clause-gone
returns-clause-gone g c = rw c.drop_entry.ensures.entries (slot_gone g.R.Ranked.rank c.self.inside.map.entries c.args.rank c.self.invariant.is_kept)

pub returns-clause-slots : goal.returns-clause-slots
returns-clause-slots g c = rw (c.drop_entry.ensures.entries, ← c.self.view_is) (keys-remove g.R.Ranked.rank c.self.inside.map.entries c.args.rank c.self.invariant.is_kept)
