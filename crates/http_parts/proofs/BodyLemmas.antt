-- A body that is filled from what came with the head and what is left.
use Rattle.std.proofs.Common.{◌≡◌, ℕ, ◌+◌, ◌-◌, ◌<◌, ◌≤◌, ◌⊎◌, inl, inr, List, ◌++◌, length, take, drop, sym, ◌∙◌, ap, arith, Option, slice_range, min, max}
use Rattle.std.proofs.lemmas.List.{take-append-drop, take-append-le, length-append, length-drop, length-take-le}
use Rattle.std.proofs.lemmas.Slice.{between_is, between_to_end}
use Rattle.std.proofs.Math.Seq.{take-length}
use Rattle.sat_base.specs.Streams.{FillsUp, IsFilling}
use Rattle.sat_base.specs.declared.streams.Filling.{Filling}
use Rattle.sat_base.specs.declared.streams.Filling.TheVariants as ends
use Rattle.http_parts.specs.Bodies.{IsFilled, MayReadBody}

-- how many bytes came in all
came : (read body : List ℕ) (have len : ℕ) → len ≤ length body → length (read ++ slice_range body have len) ≡ length read + (len - have)
came read body have len fits = rw (between_is body have len) (omega (arith, length-append read (drop have (take len body)), length-drop have (take len body), length-take-le len body fits))

-- the body came with the head
with_head : (read body more : List ℕ) (size : ℕ) → length body ≡ size → size ≤ length read → take size body ≡ take size read → body ≡ take size (read ++ more)
with_head read body more size n s p =
    let all : take size body ≡ body = ap (λ k. take k body) (sym n) ∙ take-length body in
    sym all ∙ p ∙ sym (take-append-le size read more s)

-- some of the body came after the head
behind : (read body : List ℕ) (size : ℕ) → length body ≡ size → take (length read) body ≡ take (length read) read → body ≡ take size (read ++ slice_range body (length read) size)
behind read body size n p =
    let tail : slice_range body (length read) size ≡ drop (length read) body = between_to_end body (length read) size (omega arith) in
    let whole : read ++ slice_range body (length read) size ≡ body =
    ap (λ l. read ++ l) tail ∙ ap (λ l. l ++ drop (length read) body) (sym (take-length read) ∙ sym p) ∙ take-append-drop (length read) body in
    sym (ap (take size) whole ∙ ap (λ k. take k body) (sym n) ∙ take-length body)

min_is : (a b : ℕ) → (min a b ≡ a) ⊎ (min a b ≡ b)
min_is a b = grind arith

-- a full body is the first of the bytes that came
full_body : (read body : List ℕ) (have size : ℕ) → have ≡ min size (length read) → length body ≡ size → take have body ≡ take have read → body ≡ take size (read ++ slice_range body have size)
full_body read body have size is n p = elim (min_is size (length read)) [
  | inl e ↦
      let all : have ≡ size = is ∙ e in
      with_head read body (slice_range body have size) size n (omega (arith, is)) (rw all at p)
  | inr e ↦
      let all : have ≡ length read = is ∙ e in
      rw all (behind read body size n (rw all at p))
]

-- what stands in a body as its filling ended
pub body_filled : (left : Option (List ℕ)) (read body : List ℕ) (have size len : ℕ) (e : Filling) → have ≡ min size (length read) → have ≤ len → len ≤ size → length body ≡ size → take have body ≡ take have read
    → IsFilling size len left e → IsFilled body (read ++ slice_range body have len) left e
body_filled left read body have size len ends.Full is least most n p f =
    (rw (n, f) (full_body read body have size is n p), omega (arith, is, f, n, came read body have len (omega arith)))
body_filled left read body have size len ends.Ended is least most n p f = (omega (arith, is, f.0, n, came read body have len (omega arith)), f.1)
body_filled left read body have size len ends.Failed is least most n p f = omega (arith, is, f, n, came read body have len (omega arith))

-- what is missing of a body behind what came with the head
pub fills_body : (read : List ℕ) (have size : ℕ) → have ≡ min size (length read) → (before : List ℕ) (asked : ℕ) → FillsUp (size - have) before asked → 0 < asked → MayReadBody size read before asked
fills_body read have size is before asked fills some = omega arith

-- no more than the body came, where it didn't come with the head
pub few_came : (read body : List ℕ) (have size len : ℕ) → have ≡ min size (length read) → have ≤ len → len ≤ size → length body ≡ size → length read + length (slice_range body have len) ≤ max (length read) size
few_came read body have size len is least most n = omega (arith, length-append read (slice_range body have len), came read body have len (omega arith))
