-- What an audit says of a named segment.
use Rattle.std.specs.Prelude.{◌≡◌, ℕ, ◌+◌, ◌-◌, ◌/◌, ◌≤◌, true, List, length}
use Rattle.rs_stripe.specs.Segment.{stripe_of}
use Rattle.bw_decode.specs.Altered.{altered}
use Rattle.audit_core.specs.declared.verdict.Judged.{Judged}
use Rattle.audit_core.specs.Verdict.{altered_indexes}
use Rattle.machine_calls.specs.declared.reply.Reply.{Reply}
use Rattle.machine_calls.specs.declared.reply.Reply.TheVariants as replies

-- the segment's stripe that is audited
abbrev pub audited_stripe : Judged → List ℕ → List ℕ
audited_stripe judged named = stripe_of judged.scheme.k judged.scheme.share named judged.plan.stripe

-- at least k + 2 nodes answered, and of r answers at most (r - k) / 2 aren't the segment's shares
pub record IsAnsweredWell (judged : Judged) (named : List ℕ) : Type 0 where
  pub enough : judged.scheme.k + 2 ≤ length judged.answers
  pub few : altered judged.scheme.k judged.scheme.share (audited_stripe judged named) judged.answers ≤ (length judged.answers - judged.scheme.k) / 2

-- the audit is clear, and blames just the answers that aren't the segment's shares
abbrev pub BlamesJust : Judged → List ℕ → Reply → Type 0
BlamesJust judged named (replies.AuditEnded clear blamed missing contained answered) =
    (clear ≡ true) × (blamed ≡ altered_indexes judged.scheme.k judged.scheme.share (audited_stripe judged named) judged.answers)
BlamesJust judged named _ = ⊥
