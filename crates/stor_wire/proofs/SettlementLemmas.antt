-- What an answer says, from what its body reads as.
use Rattle.std.proofs.Common.{◌≡◌, ℕ, List, refl, sym, ◌∙◌, ap, Bool, true, false, cond, Option, Some, None, option_and_then, Result, Ok, Err, ◌+◌, ◌≤◌, ◌⊎◌, inl, inr, length, slice_range, arith, subst, IsUtf8}
use Rattle.std.specs.Str.{is_utf8}
use Rattle.std.proofs.lemmas.Str.{IsUtf8-from_is_utf8, is_utf8-from_IsUtf8}
use Rattle.serde_json.specs.Data.{Data}
use Rattle.serde_json.specs.Read.{read}
use Rattle.sat_base.specs.Outside.{About}
use Rattle.sat_base.specs.Streams.{AtEnd, Took}
use Rattle.sat_base.proofs.Transfers.{took_within}
use Rattle.stor_wire.specs.Settlements.{IsAnswerEnd, IsHeard, IsSaid, IsWholeAnswer, LacksAnswer, MayReadAnswer, failed_answer, failed_settling, idle_answer, max_answer, number_in, reading, settlement_by, settlement_of, stays_refused}
use Rattle.stor_wire.specs.declared.response.AnswerEnd.{AnswerEnd}
use Rattle.stor_wire.specs.declared.response.AnswerEnd.TheVariants as ends
use Rattle.stor_wire.specs.declared.response.Whole.{Whole}
use Rattle.stor_wire.specs.declared.settled.SettleErr.{SettleErr}
use Rattle.stor_wire.specs.declared.settled.SettleErr.TheVariants.{Fault, NotWhole, NoMemory}
use Rattle.stor_wire.specs.declared.settled.Settlement.{Settlement}
use Rattle.stor_wire.specs.declared.settled.Settlement.TheVariants.{Later}

-- ---- the body

reading_some : (body : List ℕ) (d : Data) → IsUtf8 body → read body ≡ Some d → reading body ≡ Some d
reading_some body d u e = ap (λ b. cond b (read body) None) (is_utf8-from_IsUtf8 body u) ∙ e

none_by : (b : Bool) (o : Option Data) → (b ≡ true → o ≡ None) → cond b o None ≡ None
none_by true o h = h refl
none_by false o h = refl

reading_none : (body : List ℕ) → (IsUtf8 body → read body ≡ None) → reading body ≡ None
reading_none body h = none_by (is_utf8 body) (read body) (λ e. h (IsUtf8-from_is_utf8 body e))

refusal_says : (status : ℕ) (body : List ℕ) (o : Option Data) → status ≡ 409 → reading body ≡ o
    → settlement_of status body ≡ settlement_by (stays_refused (option_and_then number_in o))
refusal_says status body o is e =
    ap (λ (n : ℕ). settlement_of n body) is ∙ ap (λ (p : Option Data). settlement_by (stays_refused (option_and_then number_in p))) e

-- a refusal of status 409 whose body is a value
pub refused_says : (status : ℕ) (body : List ℕ) (d : Data) → status ≡ 409 → IsUtf8 body → read body ≡ Some d
    → settlement_by (stays_refused (number_in d)) ≡ settlement_of status body
refused_says status body d is u e = sym (refusal_says status body (Some d) is (reading_some body d u e))

-- and one whose body is none
pub garbled_says : (status : ℕ) (body : List ℕ) → status ≡ 409 → (IsUtf8 body → read body ≡ None) → Later ≡ settlement_of status body
garbled_says status body is h = sym (refusal_says status body None is (reading_none body h))

-- ---- what was read

said_never_fails : (status : ℕ) (body : List ℕ) (result : Result Settlement SettleErr) → IsSaid status body result → false ≡ failed_settling result
said_never_fails status body (Ok settlement) said = refl
said_never_fails status body (Err NoMemory) said = refl
said_never_fails status body (Err Fault) said = absurd said
said_never_fails status body (Err NotWhole) said = absurd said

heard_of : (bytes : List ℕ) (left : Option (List ℕ)) (at : Whole) (result : Result Settlement SettleErr) → IsWholeAnswer bytes (Some at)
    → IsSaid at.status (slice_range bytes at.start (at.start + at.size)) result → IsHeard bytes left result
heard_of bytes left at (Ok settlement) whole said = (at.status, slice_range bytes at.start (at.start + at.size), whole.1, said)
heard_of bytes left at (Err NoMemory) whole said = tt
heard_of bytes left at (Err Fault) whole said = absurd said
heard_of bytes left at (Err NotWhole) whole said = absurd said

-- a whole answer was read
pub heard_whole : (bytes : List ℕ) (at : Whole) (result : Result Settlement SettleErr) (old new : About) → length bytes ≤ max_answer → IsWholeAnswer bytes (Some at)
    → IsSaid at.status (slice_range bytes at.start (at.start + at.size)) result → Took MayReadAnswer bytes 0 false old new
    → (x : List ℕ) × Took MayReadAnswer x 1 (failed_settling result) old new × (length x ≤ max_answer) × IsHeard x new.left result
heard_whole bytes at result old new size whole said t =
    let never = said_never_fails at.status (slice_range bytes at.start (at.start + at.size)) result said in (
      bytes,
      subst (λ (b : Bool). Took MayReadAnswer bytes 1 b old new) never (took_within MayReadAnswer bytes 0 1 false old new (omega arith) t),
      size,
      heard_of bytes new.left at result whole said,
    )

-- the reading ended, and no answer is whole
pub heard_none : (bytes : List ℕ) (e : AnswerEnd) (old new : About) → length bytes ≤ max_answer → (e ≡ ends.Ended) ⊎ (e ≡ ends.Full) → IsAnswerEnd bytes new.left e
    → Took MayReadAnswer bytes (idle_answer e) (failed_answer e) old new
    → (x : List ℕ) × Took MayReadAnswer x 1 false old new × (length x ≤ max_answer) × (LacksAnswer x × (AtEnd new.left ⊎ (length x ≡ max_answer)))
heard_none bytes e old new size (inl is) end t =
    let none = subst (λ (f : AnswerEnd). IsAnswerEnd bytes new.left f) is end in
    let took = subst (λ (f : AnswerEnd). Took MayReadAnswer bytes (idle_answer f) (failed_answer f) old new) is t in
    (bytes, took, size, (none.0, inl none.1))
heard_none bytes e old new size (inr is) end t =
    let none = subst (λ (f : AnswerEnd). IsAnswerEnd bytes new.left f) is end in
    let took = subst (λ (f : AnswerEnd). Took MayReadAnswer bytes (idle_answer f) (failed_answer f) old new) is t in
    (bytes, took_within MayReadAnswer bytes 0 1 false old new (omega arith) took, size, (none.0, inr none.1))
