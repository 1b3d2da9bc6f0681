-- An audit ends: its nodes get their outcomes, and the silent ones are contained.
use Rattle.std.specs.Prelude.{ℕ, ◌==◌, ◌&&◌, Bool, true, false, not, if◌then◌else◌, List, [], ◌∷◌, ◌++◌, length, map, find, filter_map, Option, Some, None, option_map, option_and_then, is_none}
use Rattle.sat_base.specs.declared.kinds.TheConstants as kinds
use Rattle.sat_base.specs.declared.records.At.{At}
use Rattle.sat_base.specs.declared.records.Containment.{Containment}
use Rattle.sat_base.specs.declared.records.Key.TheVariants as keys
use Rattle.sat_base.specs.declared.items.Share.{Share}
use Rattle.node_registry.specs.declared.node.Node.{Node}
use Rattle.node_registry.specs.declared.reputation.Outcome.{Outcome as Mark}
use Rattle.node_registry.specs.declared.reputation.Outcome.TheVariants.{Pass, Fail}
use Rattle.node_registry.specs.Registry.{node_at, contained_at}
use Rattle.segment_core.specs.Commit.{is_among}
use Rattle.audit_core.specs.declared.plan.AuditPlan.{AuditPlan}
use Rattle.audit_core.specs.declared.verdict.Judged.{Judged}
use Rattle.audit_core.specs.declared.verdict.Silent.{Silent}
use Rattle.audit_core.specs.declared.verdict.Verdict.{Verdict}
use Rattle.audit_core.specs.declared.verdict.Verdict.TheVariants.{Clear, Unclear}
use Rattle.machine_calls.specs.declared.change.RecChange.TheVariants as changes
use Rattle.machine_calls.specs.declared.reply.Reply.TheVariants as replies
use Rattle.machine_calls.specs.declared.refusal.Refusal.TheVariants as refusals
use Rattle.machine_step.specs.Tables.{Tables, segment_at}
use Rattle.machine_step.specs.Outcome.{Outcome, accepted, unless}
use Rattle.machine_step.specs.Containment.{serves}
use Rattle.machine_step.specs.Health.{after_outcome}
use Rattle.machine_step.specs.Plans.{timed, same_audit, is_open, open_number, version_of, superseded}

abbrev pub is_clear : Verdict → Bool
is_clear (Clear blamed) = true
is_clear Unclear = false

abbrev pub blamed_of : Verdict → List ℕ
blamed_of (Clear blamed) = blamed
blamed_of Unclear = []

abbrev pub answered_in : List Share → List ℕ
answered_in answers = map (λ answer. answer.index) answers

-- what an answer says of its node: under a clear verdict a blamed one is a fail, and any other a pass
abbrev pub mark_of_answer : Verdict → List ℕ → ℕ → Option Mark
mark_of_answer (Clear blamed) answered index = if is_among blamed index then Some Fail else if is_among answered index then Some Pass else None
mark_of_answer Unclear answered index = None

-- what the audit says of the node of an asked index: a missing piece is a fail, under both verdicts
abbrev pub mark_of : Judged → ℕ → Option Mark
mark_of judged index = if is_among judged.missing index then Some Fail else mark_of_answer judged.verdict (answered_in judged.answers) index

-- the node of an asked piece after the audit, where it serves and gets an outcome
abbrev pub node_after : List Node → Judged → At → Option Node
node_after nodes judged piece = option_and_then (after_outcome (node_at nodes piece.node)) (mark_of judged piece.index)

abbrev pub nodes_after : Tables → Judged → List Node
nodes_after t judged = filter_map (node_after t.nodes judged) judged.plan.asked

-- what a silent node owes, under a clear verdict
abbrev pub owed : Judged → ℕ → Option Silent
owed judged index = if is_clear judged.verdict then find (λ silent. silent.index == index) judged.silent else None

-- its containment
abbrev pub containment_for : AuditPlan → At → Silent → Containment
containment_for plan piece silent = record { node = piece.node; segment = plan.segment; index = piece.index; stripe = plan.stripe; expect = silent.expect; tries = 0 }

-- a node is contained where it serves and isn't contained yet
abbrev pub is_free : Tables → At → Bool
is_free t piece = serves (node_at t.nodes piece.node) && is_none (contained_at t.containments piece.node)

abbrev pub containment_after : Tables → Judged → At → Option Containment
containment_after t judged piece = if is_free t piece then option_map (containment_for judged.plan piece) (owed judged piece.index) else None

abbrev pub containments_after : Tables → Judged → List Containment
containments_after t judged = filter_map (containment_after t judged) judged.plan.asked

abbrev pub audit_ended : Tables → ℕ → Judged → Outcome
audit_ended t time judged =
    accepted (timed t.marks time)
    (changes.Remove (keys.Plan kinds.AUDIT_PLAN) ∷ map changes.Node (nodes_after t judged) ++ map changes.Containment (containments_after t judged))
    (replies.AuditEnded (is_clear judged.verdict) (blamed_of judged.verdict) judged.missing
    (map (λ containment. containment.index) (containments_after t judged)) (length judged.answers))

-- the open plan, beside the version of its segment
abbrev pub end_audit_of : Tables → ℕ → Judged → ℕ → Outcome
end_audit_of t time judged version =
    if version == judged.plan.version then audit_ended t time judged
    else superseded t time kinds.AUDIT_PLAN judged.plan.version version

abbrev pub end_audit : Tables → ℕ → Judged → Outcome
end_audit t time judged =
    unless (not (is_open same_audit t.audit judged.plan)) (refusals.NoPlan (open_number (λ plan. plan.plan) t.audit))
    (end_audit_of t time judged (version_of (segment_at t.segments judged.plan.segment.0)))
