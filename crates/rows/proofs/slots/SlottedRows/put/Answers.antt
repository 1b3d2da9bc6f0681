use Rattle.std.proofs.Common.{sym, ap, ◌∙◌, arith}
use Rattle.rows.specs.Slots.{has_slot}
use Rattle.rows.proofs.EntryLemmas.{kept-put, fits-put, slot_is, some_slot, count-le, count-put}
use Rattle.rows.proofs.slots.SlottedRows.put.Goals as goal

pub overflow_add-self : goal.overflow_add-self
overflow_add-self g c = omega (arith, count-le c.self.inside.map.entries, c.self.invariant.counted, c.len-slots.ensures.len, c.len-slots.ensures.small)

pub fill_slot-requires : goal.fill_slot-requires
fill_slot-requires g c =
    some_slot _ (sym (slot_is c.self.inside.map.entries c.rank-key.result) ∙ ap (λ t. has_slot t c.rank-key.result) c.self.view_is ∙ ap (λ k. has_slot c.args.self.now k) c.rank-key.ensures ∙ c.requires)

pub invariant_of-self : goal.invariant_of-self
invariant_of-self g c =
    let more = count-put g.R.Ranked.rank c.self.inside.map.entries c.args.row c.rank-key.result c.self.invariant.is_kept in
    fits-put g.R.Ranked.rank c.self.inside.map.entries _ c.self.inside.count c.rank-key.result c.self.invariant c.args.row c.fill_slot.result _ (sym c.rank-key.ensures) c.fill_slot.ensures.entries c.fill_slot.ensures.taken (omega (arith, c.fill_slot.ensures.taken, more))

pub returns-clause-rows : goal.returns-clause-rows
returns-clause-rows g c = rw (c.fill_slot.ensures.entries, ← c.self.view_is) (kept-put g.R.Ranked.rank c.self.inside.map.entries c.args.row _ (sym c.rank-key.ensures) c.self.invariant.is_kept)
