-- The verdict on answers of which few are altered against a named segment.
use Rattle.std.proofs.Common.{◌≡◌, ℕ, ◌*◌, ◌<◌, ◌≤◌, ◌&&◌, true, List, length, ap, ◌∙◌, arith}
use Rattle.std.specs.Prelude.{All}
use Rattle.std.specs.Str.{bytes_eq}
use Rattle.std.proofs.Math.Bool.{Bool-set}
use Rattle.std.proofs.Math.Logic.{∥∥₁_elim}
use Rattle.std.proofs.lemmas.Slice.Eq.{bytes_eq-Decides}
use Rattle.std.proofs.lemmas.Bool.{and_parts}
use Rattle.sat_base.specs.Scheme.{stripe_count}
use Rattle.bw_decode.specs.Altered.{indexes_of}
use Rattle.bw_decode.specs.Near.{IsNear}
use Rattle.bw_decode.proofs.NearStripes.{one_near}
use Rattle.audit_core.specs.declared.verdict.Judged.{Judged}
use Rattle.audit_core.specs.declared.verdict.Verdict.{Verdict}
use Rattle.audit_core.specs.declared.verdict.Verdict.TheVariants.{Clear, Unclear}
use Rattle.audit_core.specs.Verdict.{IsVerdict, altered_indexes}
use Rattle.machine_step.specs.Calls.EndAudit.{blamed_of, is_clear}
use Rattle.named_segments.specs.Audits.{IsAnsweredWell, audited_stripe}
use Rattle.named_segments.proofs.Counted.{answers_below}
use Rattle.named_segments.proofs.Stripes.{stripe_bytes, stripe_long}

module _ (judged : Judged) (named : List ℕ) (bytes : All (λ byte. byte < 256) named) (within : judged.plan.stripe < stripe_count judged.scheme.k judged.scheme.share (length named))
    (well : IsAnsweredWell judged named) where
  abbrev own : List ℕ
  own = audited_stripe judged named

  abbrev expected : List ℕ
  expected = altered_indexes judged.scheme.k judged.scheme.share own judged.answers

  near : IsNear judged.scheme.k judged.scheme.share own judged.answers
  near = record { enough = omega (arith, well.enough); few = well.few }

  below : All (λ j. j < 256) (indexes_of judged.answers)
  below = let few = judged.scheme.few_pieces in let all = answers_below judged in λ k d h. omega (arith, all k d h, few)

  -- whatever stripe is near the answers is the segment's own
  same_stripe : (stripe : List ℕ) → length stripe ≡ judged.scheme.k * judged.scheme.share → All (λ byte. byte < 256) stripe → IsNear judged.scheme.k judged.scheme.share stripe judged.answers → stripe ≡ own
  same_stripe stripe long are found =
      let scheme = judged.scheme in
      let some : 1 ≤ scheme.k = scheme.rebuilds in
      let few : scheme.k ≤ 256 = omega (arith, scheme.repairs_in_time, scheme.wants_more, scheme.tries_enough, scheme.few_pieces) in
      one_near scheme.k scheme.share stripe own judged.answers few judged.answers_rise below long are
      (stripe_long scheme.k scheme.share named judged.plan.stripe some scheme.some_bytes within) (stripe_bytes scheme.k scheme.share named judged.plan.stripe bytes) found near

  abbrev Finds : Verdict → Type 0
  Finds verdict = (is_clear verdict && bytes_eq (blamed_of verdict) expected) ≡ true

  finds : (verdict : Verdict) → IsVerdict judged.scheme.k judged.scheme.share judged.answers judged.silent verdict → Finds verdict
  finds (Clear blamed) is =
      let found = is.1 in
      let same = same_stripe is.0 found.long found.bytes found.near in
      (bytes_eq-Decides blamed expected).1 (found.blames ∙ ap (λ (s : List ℕ). altered_indexes judged.scheme.k judged.scheme.share s judged.answers) same)
  finds Unclear is = absurd (is.0 well.enough own near)

  pub blames_just : (is_clear judged.verdict ≡ true) × (blamed_of judged.verdict ≡ expected)
  blames_just =
      let both = and_parts (is_clear judged.verdict) (bytes_eq (blamed_of judged.verdict) expected)
      (∥∥₁_elim judged.exact (Bool-set (is_clear judged.verdict && bytes_eq (blamed_of judged.verdict) expected) true) (finds judged.verdict)) in
      (both.0, (bytes_eq-Decides (blamed_of judged.verdict) expected).0 both.1)
