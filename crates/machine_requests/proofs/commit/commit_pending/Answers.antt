use Rattle.std.proofs.Common.{ℕ, sym, subst, IfOk}
use Rattle.segment_core.specs.declared.committing.CommitErr.TheVariants as causes
use Rattle.machine_calls.specs.declared.refusal.Refusal.TheVariants as refusals
use Rattle.machine_step.specs.Outcome as outcomes
use Rattle.machine_store.specs.Prepared.{Holds}
use Rattle.machine_store.specs.Store.{tables_of}
use Rattle.machine_requests.proofs.CaseLemmas.{owned-offered, commit-ok, commit-refused, too-few-named}
use Rattle.machine_requests.proofs.commit.commit_pending.Goals as goal

pub commit-requires-clause-offered : goal.commit-requires-clause-offered
commit-requires-clause-offered c = owned-offered (tables_of c.args.store.now) c.args.asking.now c.args.segment c.args.found.now c.requires.valid c.requires.found c.requires.pending

pub returns-in-Ok : goal.returns-in-Ok
returns-in-Ok c =
    let e = c.in-Ok.ensures in
    subst (λ o. IfOk c.committed.result (λ p. Holds p o))
    (sym (commit-ok (tables_of c.args.store.now) c.args.asking.now c.args.segment c.args.found.now c.in-Ok.live c.args.indexes.now c.as_slice.result.now c.as_slice.ensures e.refused e.pieces e.version e.id e.customer e.len))
    c.committed.ensures

pub returns-in-Err-NotOffered : goal.returns-in-Err-NotOffered
returns-in-Err-NotOffered c =
    subst (λ o. Holds c.refused.result o)
    (sym (commit-refused (tables_of c.args.store.now) c.args.asking.now c.args.segment c.args.found.now c.args.indexes.now c.as_slice.result.now c.in-Err-NotOffered.field-0 (causes.NotOffered c.in-Err-NotOffered.index) c.as_slice.ensures c.in-Err-NotOffered.field-0-is (λ same. cc) c.in-Err-NotOffered.ensures.refused))
    (subst (λ (i : ℕ). Holds c.refused.result (outcomes.refused (refusals.NotOffered i))) c.in-Err-NotOffered.index-is c.refused.ensures)

pub returns-in-Err-Repeated : goal.returns-in-Err-Repeated
returns-in-Err-Repeated c =
    subst (λ o. Holds c.refused-in-Err-Repeated.result o)
    (sym (commit-refused (tables_of c.args.store.now) c.args.asking.now c.args.segment c.args.found.now c.args.indexes.now c.as_slice.result.now c.in-Err-Repeated.field-0 (causes.Repeated c.in-Err-Repeated.index) c.as_slice.ensures c.in-Err-Repeated.field-0-is (λ same. cc) c.in-Err-Repeated.ensures.refused))
    (subst (λ (i : ℕ). Holds c.refused-in-Err-Repeated.result (outcomes.refused (refusals.Repeated i))) c.in-Err-Repeated.index-is c.refused-in-Err-Repeated.ensures)

pub returns-in-Err-TooFew : goal.returns-in-Err-TooFew
returns-in-Err-TooFew c =
    subst (λ o. Holds c.refused-in-Err-TooFew.result o)
    (sym (commit-refused (tables_of c.args.store.now) c.args.asking.now c.args.segment c.args.found.now c.args.indexes.now c.as_slice.result.now c.in-Err-TooFew.field-0 (causes.TooFew c.in-Err-TooFew.have c.in-Err-TooFew.need) c.as_slice.ensures c.in-Err-TooFew.field-0-is (λ same. cc) c.in-Err-TooFew.ensures.refused))
    (too-few-named c.refused-in-Err-TooFew.result _ _ _ _ c.in-Err-TooFew.have-is c.in-Err-TooFew.need-is c.refused-in-Err-TooFew.ensures)
