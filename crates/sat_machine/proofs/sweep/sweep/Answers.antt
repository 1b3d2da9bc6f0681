use Rattle.std.proofs.Common.{◌≡◌, true, false, ◌++◌, append-nil, refl, ap, sym, ◌∙◌}
use Rattle.std.proofs.lemmas.List.{take_all}
use Rattle.std.specs.List.{list_any}
use Rattle.std.specs.Prelude.{map}
use Rattle.machine_step.specs.Containment.{fallen, release}
use Rattle.machine_step.specs.Tables.{all_changed}
use Rattle.machine_store.specs.Store.{tables_of}
use Rattle.sat_machine.specs.Sweep.{unsettles}
use Rattle.sat_machine.proofs.SweptLemmas.{swept-calm}
use Rattle.sat_machine.proofs.SweepLemmas.{released-more, swept-some}
use Rattle.sat_machine.proofs.sweep.sweep.Goals as goal

pub returns-then-not-any_unsettles : goal.returns-then-not-any_unsettles
returns-then-not-any_unsettles c o holds =
    let t = tables_of c.args.store.now in
    let calm : list_any (unsettles t.segments) c.args.prepared.changes.items ≡ false = ap (list_any (unsettles t.segments)) (sym c.as_slice.ensures.value) ∙ sym c.any_unsettles.ensures ∙ c.if-not-any_unsettles.true in
    swept-calm t c.args.prepared o c.requires calm holds

pub loop-row-init : goal.loop-row-init
loop-row-init c = record { reply = refl; changes = sym (append-nil c.args.prepared.changes.items) }

pub loop-row-preserved : goal.loop-row-preserved
loop-row-preserved c = record {
  reply = c.loop-row.invariant.reply;
  changes = released-more c.args.prepared.changes.items c.loop-row.prepared.changes.items c.push.new.self.items c.as_slice-row-items.result.now c.loop-row.row-index _ c.release.result
      c.loop-row-test.true c.release.ensures c.loop-row.invariant.changes c.in_ok-push.ensures.items;
}

pub returns : goal.returns
returns c o holds =
    let t = tables_of c.args.store.now in
    let changes_are = c.as_slice.ensures.value in
    let any : list_any (unsettles t.segments) c.args.prepared.changes.items ≡ true = ap (list_any (unsettles t.segments)) (sym changes_are) ∙ sym c.any_unsettles.ensures ∙ c.if-not-any_unsettles.false in
    let all = take_all c.loop-row.row-index c.as_slice-row-items.result.now c.loop-row-test.false in
    let gone = all ∙ c.as_slice-row-items.ensures.value ∙ c.in_ok-gone.ensures ∙ ap (λ cs. fallen (all_changed t cs)) c.as_slice-2.ensures.value in
    swept-some t (unsettles t.segments) c.args.prepared c.loop-row.prepared o any c.loop-row.invariant.reply (c.loop-row.invariant.changes ∙ ap (λ rows. c.args.prepared.changes.items ++ map release rows) gone) holds
