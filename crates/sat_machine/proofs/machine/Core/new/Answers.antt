use Rattle.sat_base.specs.Limits.{AreMarksWithin}
use Rattle.machine_step.specs.Bounds.{IsSetupWithin}
use Rattle.machine_step.specs.Tables.{setup_of}
use Rattle.sat_base.specs.declared.settings.Settings.{Settings}
use Rattle.machine_store.proofs.OpeningLemmas.{within_last, rules_kept}
use Rattle.sat_machine.proofs.machine.Core.new.Goals as goal

pub invariant_of-result : goal.invariant_of-result
invariant_of-result c =
    let kept = rules_kept c.args.parts c.in-Some.settings c.in-Some-pop.marks c.in_ok-store.store c.requires
    (within_last (λ (s : Settings). IsSetupWithin (setup_of s)) _ _ c.in-Some.settings c.in-Some.ensures.items c.requires.setup_within)
    (within_last AreMarksWithin _ _ c.in-Some-pop.marks c.in-Some-pop.ensures.items c.requires.marks_within)
    c.in_ok-store.ensures.rules c.in_ok-store.ensures.tables c.in_ok-store.ensures.own in
    record { valid = kept.valid; own = kept.own; prepared = tt }
