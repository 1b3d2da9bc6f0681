-- Heads, as bytes come.
use Rattle.std.proofs.Common.{◌≡◌, ℕ, ◌+◌, ◌<◌, ◌≤◌, ◌⊎◌, inl, inr, List, [], ◌∷◌, ◌++◌, length, take, drop, map, refl, sym, ◌∙◌, ap, subst, arith, append-nil, Bool, true, false, cond, nat_le, codes, ◌==◌}
use Rattle.std.proofs.lemmas.List.{take-append-le, take-append-drop, length-take-le}
use Rattle.std.proofs.Math.Seq.{take-append_seam}
use Rattle.std.proofs.lemmas.Grind.{common_steps}
use Rattle.std.specs.Str.Parse.{digits_value}
use Rattle.httparse.specs.Grammar.{ResponseHead, HasNoResponse, ReadsResponse, print_response, print_blank, status_code}
use Rattle.httparse.specs.Spans.{ResponseOverflows, IsResponseAt, name_and_value}
use Rattle.http_parts.specs.Headers.{values_named}
use Rattle.httparse.specs.declared.spans.HeaderSpan.{HeaderSpan}
use Rattle.httparse.specs.declared.spans.ResponseSpans.{ResponseSpans}
use Rattle.httparse.proofs.GrammarLemmas.{response_unique, ReadsResponse-append, print_response-append}
use Rattle.node_wire.specs.Heard.{HasHead, LacksHead, says_of, of_lengths, asked_len}
use Rattle.http_parts.specs.Heads.{max_head, max_lines}
use Rattle.node_wire.specs.declared.head.Question.{Question}
use Rattle.node_wire.specs.declared.head.Question.TheVariants.{Fetch, Put}
use Rattle.sat_base.specs.Text.{numeral}
use Rattle.node_wire.specs.declared.head.Says.{Says}
use Rattle.node_wire.specs.declared.head.Says.TheVariants.{NoAnswer, Missing, Kept, Long, Body}

pub lacks_of_none : (bytes : List ℕ) → HasNoResponse bytes → LacksHead bytes
lacks_of_none bytes none = record { none = λ h rest x. none h rest x.reads }

pub lacks_of_many : (bytes : List ℕ) → ResponseOverflows max_lines bytes → LacksHead bytes
lacks_of_many bytes many = record {
  none = λ h rest x.
      let over : 64 < length h.fields = many [] h rest (rw append-nil x.reads) in
      absurd (omega (arith, x.lines, over));
}

-- a head that is too long
pub lacks_of_long : (bytes : List ℕ) (h : ResponseHead) (rest : List ℕ) → ReadsResponse bytes h rest → max_head < length (print_response h) → LacksHead bytes
lacks_of_long bytes h rest reads long = record {
  none = λ k left x.
      let same = response_unique bytes h k rest left reads x.reads in
      let size : length (print_response h) ≤ max_head = subst (λ g. length (print_response g) ≤ max_head) (sym same.0) x.size in
      absurd (omega (arith, size, long));
}

pub has_more : (bytes more : List ℕ) (h : ResponseHead) (rest : List ℕ) → HasHead bytes h rest → HasHead (bytes ++ more) h (rest ++ more)
has_more bytes more h rest x = record { reads = ReadsResponse-append bytes h rest more x.reads; lines = x.lines; size = x.size }

front_of : (bytes more front rest : List ℕ) → bytes ++ more ≡ front ++ rest → length front ≤ length bytes → bytes ≡ front ++ drop (length front) bytes
front_of bytes more front rest e le =
    let n = length front in
    let kept : take n bytes ≡ front = sym (take-append-le n bytes more le) ∙ ap (take n) e ∙ take-append_seam front rest in
    subst (λ l. bytes ≡ l ++ drop n bytes) kept (sym (take-append-drop n bytes))

-- where there is no head, and no room for the rest of one, more bytes make none
pub lacks_more : (bytes more : List ℕ) → (more ≡ []) ⊎ (max_head ≤ length bytes) → LacksHead bytes → LacksHead (bytes ++ more)
lacks_more bytes more (inl e) lacks = rw e (rw append-nil lacks)
lacks_more bytes more (inr full) lacks = record {
  none = λ h rest x.
      let le : length (print_response h) ≤ length bytes = omega (arith, x.size, full) in
      lacks.none h (drop (length (print_response h)) bytes) (record {
        reads = (x.reads.0, front_of bytes more (print_response h) rest x.reads.1 le);
        lines = x.lines;
        size = x.size;
      });
}

small_case : (a b : Bool) (d len n : ℕ) → nat_le d len ≡ b → cond a (cond b (Body d) Long) NoAnswer ≡ Body n → n ≤ len
small_case true true d len n t e =
    let le : d ≤ len = grind (arith, common_steps, t) in
    let same : d ≡ n = cc in
    omega (arith, le, same)
small_case true false d len n t e = cc
small_case false b d len n t e = cc

lengths_small : (len : ℕ) (vs : List (List ℕ)) (n : ℕ) → of_lengths len vs ≡ Body n → n ≤ len
lengths_small len [] n e = cc
lengths_small len (v ∷ []) n e = small_case (numeral v) (nat_le (digits_value 10 v) len) (digits_value 10 v) len n refl e
lengths_small len (v ∷ w ∷ vs) n e = cc

status_case : (a b : Bool) (s : Says) (n : ℕ) → cond a s (cond b Missing NoAnswer) ≡ Body n → s ≡ Body n
status_case true b s n e = e
status_case false true s n e = cc
status_case false false s n e = cc

put_case : (a : Bool) (n len : ℕ) → cond a Kept NoAnswer ≡ Body n → n ≤ len
put_case true n len e = cc
put_case false n len e = cc

-- a body that is taken is at most as long as asked
pub body_small : (question : Question) (h : ResponseHead) (n : ℕ) → says_of question h ≡ Body n → n ≤ asked_len question
body_small (Fetch len) h n e =
    let values = values_named (codes "content-length") (map name_and_value h.fields) in
    lengths_small len values n (status_case (status_code h == 200) (status_code h == 404) (of_lengths len values) n e)
body_small Put h n e = put_case (status_code h == 200) n 0 e

behind_some : (xs ys : List ℕ) (y : ℕ) → [] ≡ xs ++ y ∷ ys → ⊥
behind_some [] ys y e = cc
behind_some (x ∷ xs) ys y e = cc

-- no bytes are no head
pub lacks_nothing : LacksHead []
lacks_nothing = record { none = λ h rest x. behind_some (print_blank h.blank) _ _ (x.reads.1 ∙ print_response-append h rest) }
