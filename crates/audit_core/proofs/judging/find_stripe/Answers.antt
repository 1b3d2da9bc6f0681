use Rattle.std.proofs.Common.{◌≡◌, ℕ, ◌*◌, List, ◌++◌, length, take, drop, refl, subst, sym, ◌∙◌, arith}
use Rattle.std.proofs.Math.Seq.{take-append_seam}
use Rattle.std.specs.Prelude.{map}
use Rattle.bw_decode.specs.Altered.{is_altered}
use Rattle.audit_core.specs.Verdict.{IsFound}
use Rattle.audit_core.proofs.judging.find_stripe.Goals as goal

pub returns-in-Unclear-clause-none : goal.returns-in-Unclear-clause-none
returns-in-Unclear-clause-none c = c.decode.ensures.unclear c.in-Unclear.is

-- what was written over the whole of a vector
written : {A : Type 0} (new : List A) (len : ℕ) (rest : List A) → len ≡ length new → take len (new ++ rest) ≡ new
written new len rest e = rw e (take-append_seam new rest)

pub returns-in_ok-blamed-in-Near-clause-found : goal.returns-in_ok-blamed-in-Near-clause-found
returns-in_ok-blamed-in-Near-clause-found c =
    let scheme = c.args.scheme.now in
    let stripe = c.decode.new.stripe in
    let marks = c.decode.new.marks in
    let near = c.decode.ensures in
    let stripe_len : c.in_ok-stripe.stripe.len ≡ length stripe = omega (arith, c.in_ok-stripe.ensures.len, c.deref_mut.ensures.len, c.decode.auto.stripe) in
    let marks_len : c.in_ok-marks.marks.len ≡ length marks = omega (arith, c.in_ok-marks.ensures.len, c.deref_mut-2.ensures.len, c.decode.auto.marks) in
    let read : c.as_slice.result.now ≡ map (is_altered scheme.k scheme.share stripe) c.args.answers.now
    = c.as_slice.ensures.value ∙ written marks _ _ marks_len ∙ near.marks c.in-Near.is in
    let size : c.from-2.result * c.from-3.result ≡ scheme.k * scheme.share = rw (c.from-2.ensures, c.from-3.ensures) refl in
    let found : IsFound scheme.k scheme.share c.args.answers.now stripe c.in_ok-blamed-in-Near.blamed = record {
      enough = omega (arith, c.if-answers-from.false, c.from.ensures);
      long = omega (arith, stripe_len, c.in_ok-stripe.ensures.len, size);
      bytes = near.bytes;
      near = near.near c.in-Near.is;
      blames = c.in_ok-blamed-in-Near.ensures (is_altered scheme.k scheme.share stripe) read;
    } in
    subst (λ (bytes : List ℕ). IsFound scheme.k scheme.share c.args.answers.now bytes c.in_ok-blamed-in-Near.blamed) (sym (written stripe _ _ stripe_len)) found
