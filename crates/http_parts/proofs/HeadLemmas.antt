-- Heads that are missing, and bytes that come read by read.
use Rattle.std.proofs.Common.{◌≡◌, ℕ, ◌+◌, ◌-◌, ◌<◌, List, [], ◌++◌, length, take, false, sym, ◌∙◌, ap, arith, append-nil, inl, inr}
use Rattle.std.proofs.lemmas.List.{length-take-le}
use Rattle.std.proofs.lemmas.Slice.{take-put_mid_below}
use borrow.Rule.Slice.PartMut.{put_mid}
use Rattle.sat_base.specs.declared.outside.Taken.{Taken}
use Rattle.sat_base.specs.declared.outside.Taken.TheVariants as takes
use Rattle.sat_base.specs.Outside.{About, failed_read, taken}
use Rattle.sat_base.specs.Streams.{Took}
use Rattle.sat_base.proofs.Transfers.{Reads, idle_read, take_read, took_more}
use Rattle.httparse.specs.Grammar.{HasNoRequest}
use Rattle.httparse.specs.Spans.{RequestOverflows}
use Rattle.http_parts.specs.Heads.{IsUndecided, LacksHead, MayReadHead, max_head, max_lines}

pub lacks_of_none : (bytes : List ℕ) → HasNoRequest bytes → LacksHead bytes
lacks_of_none bytes none = record { none = λ h rest x. none h rest x.reads }

pub lacks_of_many : (bytes : List ℕ) → RequestOverflows max_lines bytes → LacksHead bytes
lacks_of_many bytes many = record {
  none = λ h rest x.
      let over : 64 < length h.fields = many [] h rest (rw append-nil x.reads) in
      absurd (omega (arith, x.lines, over));
}

-- what doesn't decide has no head at its front
pub lacks_undecided : (bytes : List ℕ) → IsUndecided max_lines bytes → LacksHead bytes
lacks_undecided bytes (inl missing) = lacks_of_none bytes missing.0
lacks_undecided bytes (inr many) = lacks_of_many bytes many.1

-- a read more for a head, which took bytes
pub head_more : (xs ys : List ℕ) (got k asked count : ℕ) (old mid new : About) → got < length xs → length xs ≡ max_head → length ys ≡ asked → asked ≡ length xs - got → IsUndecided max_lines (take got xs)
    → Took MayReadHead (take got xs) 0 false old mid → Reads asked ys (takes.Count count) mid new → Took MayReadHead (take (got + count) (put_mid got k xs ys)) 0 false old new
head_more xs ys got k asked count old mid new p size len is undecided before r =
    let long : length (take got xs) ≡ got = length-take-le got xs (omega arith) in
    rw (take_read xs ys got k count (omega arith) (omega (arith, r.within, len)))
    (took_more MayReadHead (take got xs) asked ys (takes.Count count) old mid new before (undecided, omega (arith, long, is, size)) (omega arith) len r)

-- a read more for a head, which took nothing
pub head_idle : (xs ys : List ℕ) (got k asked : ℕ) (t : Taken) (old mid new : About) → got < length xs → length xs ≡ max_head → length ys ≡ asked → asked ≡ length xs - got → taken t ys ≡ [] → IsUndecided max_lines (take got xs)
    → Took MayReadHead (take got xs) 0 false old mid → Reads asked ys t mid new → Took MayReadHead (take got (put_mid got k xs ys)) (idle_read t) (failed_read t) old new
head_idle xs ys got k asked t old mid new p size len is empty undecided before r =
    let long : length (take got xs) ≡ got = length-take-le got xs (omega arith) in
    let nothing : take got (put_mid got k xs ys) ≡ take got xs ++ taken t ys =
    take-put_mid_below got k xs ys got (omega arith) (omega arith) ∙ sym (append-nil (take got xs)) ∙ ap (λ l. take got xs ++ l) (sym empty) in
    rw nothing (took_more MayReadHead (take got xs) asked ys t old mid new before (undecided, omega (arith, long, is, size)) (omega arith) len r)
