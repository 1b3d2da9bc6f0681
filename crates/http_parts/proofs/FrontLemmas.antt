-- What stands at the front of all bytes of a connection, from what was read of them.
use Rattle.std.proofs.Common.{◌≡◌, ℕ, ◌-◌, ◌+◌, ◌≤◌, List, [], ◌++◌, length, take, drop, map, refl, sym, ◌∙◌, ap, arith, append_assoc, append-nil, Option, Some, None}
use Rattle.std.proofs.lemmas.List.{take-append-le, take-append-drop, take_at, length-map, length-take-le}
use Rattle.std.proofs.lemmas.Option.{same_Some}
use Rattle.std.proofs.Math.Seq.{take-append-add}
use Rattle.httparse.specs.Grammar.{RequestHead, print_request, NeverHasRequest}
use Rattle.httparse.specs.Spans.{IsRequestAt, IsRequestWithin, header_bytes, name_and_value}
use Rattle.httparse.specs.declared.spans.HeaderSpan.{HeaderSpan}
use Rattle.httparse.specs.declared.spans.RequestSpans.{RequestSpans}
use Rattle.sat_base.specs.Outside.{with_front}
use Rattle.http_parts.specs.Heads.{HasHead, LacksHead, max_head, max_lines}

-- what was told as left is what was read and what is left now
pub all_is : (before after : Option (List ℕ)) (bytes all : List ℕ) → before ≡ with_front bytes after → before ≡ Some all → (left : List ℕ) × (after ≡ Some left) × (all ≡ bytes ++ left)
all_is before None bytes all t e = let no : Some all ≡ None = sym e ∙ t in cc
all_is before (Some left) bytes all t e = (left, refl, same_Some _ _ (sym e ∙ t))

-- what never becomes a head, however it goes on
pub never_more : (bytes left : List ℕ) → length bytes ≤ max_head → NeverHasRequest bytes → NeverHasRequest (take max_head (bytes ++ left))
never_more bytes left s never = λ more h rest x.
    let k = max_head - length bytes in
    let sum : max_head ≡ length bytes + k = omega arith in
    let cut : take max_head (bytes ++ left) ≡ bytes ++ take k left = ap (λ n. take n (bytes ++ left)) sum ∙ take-append-add bytes left k in
    never (take k left ++ more) h rest (x.0, sym (ap (λ l. l ++ more) cut ∙ append_assoc bytes (take k left) more) ∙ x.1)

-- a head at the front of what was read is one of all bytes
pub head_of_all : (bytes left : List ℕ) (headers : List HeaderSpan) (r : RequestSpans) (h : RequestHead) → length bytes ≤ max_head → length headers ≡ max_lines → IsRequestWithin bytes headers r → IsRequestAt bytes headers r h → HasHead (bytes ++ left) h (drop r.len bytes ++ left)
head_of_all bytes left headers r h s n w at = record {
  reads = (at.reads.0, ap (λ l. l ++ left) at.reads.1 ∙ append_assoc (print_request h) (drop r.len bytes) left);
  lines =
      let same : length (map (header_bytes bytes) (take r.headers headers)) ≡ length (map name_and_value h.fields) = ap length at.fields in
      let same = simp length-map at same in
      let few = length-take-le r.headers headers w.section.count_fits in
      omega (arith, same, few, n, w.section.count_fits);
  size = omega (arith, at.len, w.section.len_fits);
}

-- where the source ended, what was read is all
pub lacks_all : (bytes left : List ℕ) → left ≡ [] → LacksHead bytes → LacksHead (bytes ++ left)
lacks_all bytes left e k = rw (e, append-nil) k

-- no head of at most 8192 bytes stands at the front of more bytes
pub lacks_more : (bytes left : List ℕ) → length bytes ≡ max_head → LacksHead bytes → LacksHead (bytes ++ left)
lacks_more bytes left n k = record {
  none = λ h rest x.
      let fits : length (print_request h) ≤ length bytes = omega (arith, x.size) in
      let front : take (length (print_request h)) bytes ≡ print_request h =
      sym (take-append-le (length (print_request h)) bytes left fits) ∙ ap (take (length (print_request h))) x.reads.1 ∙ take_at (print_request h) rest _ refl in
      k.none h (drop (length (print_request h)) bytes) record {
        reads = (x.reads.0, sym (take-append-drop (length (print_request h)) bytes) ∙ ap (λ l. l ++ drop (length (print_request h)) bytes) front);
        lines = x.lines;
        size = x.size;
      };
}
