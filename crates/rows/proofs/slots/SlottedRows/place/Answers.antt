use Rattle.std.proofs.Common.{◌≡◌, true, false, is_ok, if◌then◌else◌, OnOk, Ok, Err, None, sym, ap, ◌∙◌, refl, rules, arith}
use Rattle.std.specs.Ordering.{nat_cmp}
use Rattle.std.specs.BTreeMap.{insert_entry}
use Rattle.std.proofs.lemmas.Grind.{common_steps}
use Rattle.rows.specs.Slots.{has_slot, released}
use Rattle.rows.specs.Entries.{kept, slots_of, Fits}
use Rattle.rows.proofs.EntryLemmas.{kept-place, fits-place, slot_is, slot_new, slot_stays, keys_there, keys-place, slots_undone}
use Rattle.rows.proofs.slots.SlottedRows.place.Goals as goal

pub returns-then-contains_key-clause-placed : goal.returns-then-contains_key-clause-placed
returns-then-contains_key-clause-placed g c = rw (← c.self.view_is) (slot_is c.self.inside.map.entries c.args.rank ∙ sym c.contains_key.ensures ∙ c.if-contains_key.true)

pub invariant_of-self : goal.invariant_of-self
invariant_of-self g c = rw c.add_slot.ensures.entries (elim c.add_slot.result as (λ r. Fits g.R.Ranked.rank (if is_ok r then insert_entry nat_cmp c.self.inside.map.entries c.args.rank None else c.self.inside.map.entries) c.self.inside.count) [ Ok u ↦ fits-place g.R.Ranked.rank c.self.inside.map.entries _ c.self.inside.count c.args.rank c.self.invariant (search rules) refl | Err e ↦ c.self.invariant ])

pub returns-clause-rows : goal.returns-clause-rows
returns-clause-rows g c =
    let stays : kept (insert_entry nat_cmp c.self.inside.map.entries c.args.rank None) ≡ kept c.self.inside.map.entries = kept-place g.R.Ranked.rank c.self.inside.map.entries c.args.rank (search rules) in
    rw (c.add_slot.ensures.entries, ← c.self.view_is) (grind (arith, common_steps, stays))

pub returns-clause-placed : goal.returns-clause-placed
returns-clause-placed g c =
    let new = slot_new c.self.inside.map.entries c.args.rank None in grind (arith, common_steps, new, c.add_slot.ensures.entries)

pub returns-clause-others : goal.returns-clause-others
returns-clause-others g c k has =
    let was : has_slot (slots_of c.self.inside.map.entries) k ≡ true = ap (λ t. has_slot t k) c.self.view_is ∙ has in
    let new = slot_stays c.self.inside.map.entries c.args.rank None k was in grind (arith, common_steps, new, was, c.add_slot.ensures.entries)

pub returns-then-contains_key-clause-slots : goal.returns-then-contains_key-clause-slots
returns-then-contains_key-clause-slots g c =
    rw (← c.self.view_is) (sym (keys_there g.R.Ranked.rank c.self.inside.map.entries c.args.rank c.self.invariant.is_kept (sym c.contains_key.ensures ∙ c.if-contains_key.true)))

pub returns-then-contains_key-clause-undone : goal.returns-then-contains_key-clause-undone
returns-then-contains_key-clause-undone g c none =
    let there : has_slot c.args.self.now c.args.rank ≡ true =
    rw (← c.self.view_is) (slot_is c.self.inside.map.entries c.args.rank ∙ sym c.contains_key.ensures ∙ c.if-contains_key.true) in
    absurd cc

pub returns-clause-slots : goal.returns-clause-slots
returns-clause-slots g c =
    let made = keys-place c.self.inside.map.entries c.args.rank in
    rw (c.add_slot.ensures.entries, ← c.self.view_is) (grind (arith, common_steps, made))

pub returns-clause-undone : goal.returns-clause-undone
returns-clause-undone g c =
    rw (c.add_slot.ensures.entries, ← c.self.view_is)
    (elim c.add_slot.result as (λ r. OnOk r (has_slot (slots_of c.self.inside.map.entries) c.args.rank ≡ false → released (slots_of (if is_ok r then insert_entry nat_cmp c.self.inside.map.entries c.args.rank None else c.self.inside.map.entries)) c.args.rank ≡ slots_of c.self.inside.map.entries)) [
      | Ok u ↦ λ none. slots_undone g.R.Ranked.rank c.self.inside.map.entries c.args.rank (search rules) none
      | Err e ↦ tt
    ])
