-- Answers of the satellite, as bytes come.
use Rattle.std.proofs.Common.{◌≡◌, ℕ, ◌+◌, ◌-◌, ◌<◌, ◌≤◌, List, [], ◌++◌, length, take, drop, slice_range, map, sym, ◌∙◌, ap, subst, arith, append-nil, codes, false, ◌⊎◌, Option, Some, None, Result, Ok, Err, inl, inr}
use Rattle.std.proofs.lemmas.List.{drop-append-le, drop-take, length-append, length-drop, length-map, length-take-le, take-append-drop, take-append-le}
use Rattle.std.proofs.lemmas.Option.{same_Some}
use Rattle.std.proofs.lemmas.Slice.{between_is, take-put_mid_below}
use Rattle.std.proofs.Math.Seq.{drop-append_seam, take-append_seam}
use borrow.Rule.Slice.PartMut.{put_mid}
use Rattle.httparse.specs.Grammar.{HasNoResponse, ReadsResponse, ResponseHead, print_response}
use Rattle.httparse.specs.Spans.{IsResponseAt, IsResponseWithin, ResponseOverflows, header_bytes, name_and_value}
use Rattle.httparse.specs.declared.spans.HeaderSpan.{HeaderSpan}
use Rattle.httparse.specs.declared.spans.ResponseSpans.{ResponseSpans}
use Rattle.httparse.proofs.GrammarLemmas.{ReadsResponse-append, response_unique}
use Rattle.sat_base.specs.Outside.{About, failed_read, taken}
use Rattle.sat_base.specs.Streams.{AtEnd, Took}
use Rattle.sat_base.specs.declared.outside.Taken.{Taken}
use Rattle.sat_base.specs.declared.outside.Taken.TheVariants as takes
use Rattle.sat_base.proofs.Transfers.{Reads, idle_read, take_read, took_more}
use Rattle.http_parts.specs.Headers.{values_named}
use Rattle.http_parts.specs.Heads.{max_head, max_lines}
use Rattle.stor_wire.specs.Values.{length_named}
use Rattle.stor_wire.proofs.ValueLemmas.{only_small}
use Rattle.stor_wire.specs.Settlements.{IsAnswer, IsHeard, LacksAnswer, MayReadAnswer, SettledBy, max_answer, max_body}
use Rattle.stor_wire.specs.declared.settled.SettleErr.TheVariants.{Fault, NotWhole, NoMemory}
use Rattle.stor_wire.specs.declared.settled.Settlement.{Settlement}
use Rattle.stor_wire.specs.declared.settled.SettleErr.{SettleErr}

some_none : (n : ℕ) → Some n ≡ None → ⊥
some_none n e = cc

-- ---- an answer that isn't whole

pub lacks_of_none : (bytes : List ℕ) → HasNoResponse bytes → LacksAnswer bytes
lacks_of_none bytes none status body x = none x.head x.rest x.reads

pub lacks_of_many : (bytes : List ℕ) → ResponseOverflows max_lines bytes → LacksAnswer bytes
lacks_of_many bytes many status body x =
    let over : 64 < length x.head.fields = many [] x.head x.rest (rw append-nil x.reads) in
    omega (arith, x.lines, over)

-- an answer at the front has the head that stands there
same_head : (bytes : List ℕ) (h : ResponseHead) (rest : List ℕ) (status : ℕ) (body : List ℕ) → ReadsResponse bytes h rest
    → (x : IsAnswer bytes status body) → (h ≡ x.head) × (rest ≡ x.rest)
same_head bytes h rest status body reads x = response_unique bytes h x.head rest x.rest reads x.reads

pub lacks_of_long : (bytes : List ℕ) (h : ResponseHead) (rest : List ℕ) → ReadsResponse bytes h rest → max_head < length (print_response h) → LacksAnswer bytes
lacks_of_long bytes h rest reads long status body x =
    let same = same_head bytes h rest status body reads x in
    let size : length (print_response h) ≤ max_head = subst (λ (g : ResponseHead). length (print_response g) ≤ max_head) (sym same.0) x.early in
    omega (arith, size, long)

sized_of : (bytes : List ℕ) (h : ResponseHead) (rest : List ℕ) (status : ℕ) (body : List ℕ) → ReadsResponse bytes h rest
    → (x : IsAnswer bytes status body) → length_named max_body (map name_and_value h.fields) ≡ Some x.size
sized_of bytes h rest status body reads x =
    let same = same_head bytes h rest status body reads x in
    subst (λ (g : ResponseHead). length_named max_body (map name_and_value g.fields) ≡ Some x.size) (sym same.0) x.sized

pub lacks_of_unsized : (bytes : List ℕ) (h : ResponseHead) (rest : List ℕ) → ReadsResponse bytes h rest
    → length_named max_body (map name_and_value h.fields) ≡ None → LacksAnswer bytes
lacks_of_unsized bytes h rest reads none status body x = some_none x.size (sym (sized_of bytes h rest status body reads x) ∙ none)

pub lacks_of_short : (bytes : List ℕ) (h : ResponseHead) (rest : List ℕ) (size : ℕ) → ReadsResponse bytes h rest
    → length_named max_body (map name_and_value h.fields) ≡ Some size → length rest < size → LacksAnswer bytes
lacks_of_short bytes h rest size reads sized short status body x =
    let same = same_head bytes h rest status body reads x in
    let size_is : size ≡ x.size = same_Some _ _ (sym sized ∙ sized_of bytes h rest status body reads x) in
    let len : length rest ≡ length x.rest = ap length same.1 in
    omega (arith, size_is, len, short, x.there)

-- ---- an answer that is whole

pub answer_at : (bytes : List ℕ) (headers : List HeaderSpan) (r : ResponseSpans) (h : ResponseHead) (size : ℕ) → length headers ≡ max_lines → IsResponseWithin bytes headers r → IsResponseAt bytes headers r h → r.len ≤ max_head
    → length_named max_body (map (header_bytes bytes) (take r.headers headers)) ≡ Some size → size ≤ length bytes - r.len
    → (r.len + size ≤ length bytes) × IsAnswer bytes r.code (slice_range bytes r.len (r.len + size))
answer_at bytes headers r h size room within at early sized there =
    let rest = drop r.len bytes in
    let enough : size ≤ length rest = omega (arith, length-drop r.len bytes, within.section.len_fits) in (
      omega (arith, there, within.section.len_fits),
      record {
        head = h;
        rest = rest;
        size = size;
        reads = at.reads;
        lines =
            let same : length (map (header_bytes bytes) (take r.headers headers)) ≡ length (map name_and_value h.fields) = ap length at.fields in
            let same = simp length-map at same in
            let few = length-take-le r.headers headers within.section.count_fits in
            omega (arith, same, few, room, within.section.count_fits);
        early = omega (arith, at.len, early);
        status_is = at.code;
        sized = ap (length_named max_body) (sym at.fields) ∙ sized;
        there = enough;
        body_is = between_is bytes r.len (r.len + size) ∙ drop-take r.len size bytes;
      },
    )

-- ---- more bytes

pub answer_more : (bytes more : List ℕ) (status : ℕ) (body : List ℕ) → IsAnswer bytes status body → IsAnswer (bytes ++ more) status body
answer_more bytes more status body x = record {
  head = x.head;
  rest = x.rest ++ more;
  size = x.size;
  reads = ReadsResponse-append bytes x.head x.rest more x.reads;
  lines = x.lines;
  early = x.early;
  status_is = x.status_is;
  sized = x.sized;
  there = omega (arith, x.there, length-append x.rest more);
  body_is = x.body_is ∙ sym (take-append-le x.size x.rest more x.there);
}

-- where no answer is whole in as many bytes as one may have, more bytes make none
lacks_full : (bytes more : List ℕ) → length bytes ≡ max_answer → LacksAnswer bytes → LacksAnswer (bytes ++ more)
lacks_full bytes more full lacks status body x =
    let front = print_response x.head in
    let n = length front in
    let le : n ≤ length bytes = omega (arith, x.early, full) in
    let rest = drop n bytes in
    let kept : take n bytes ≡ front = sym (take-append-le n bytes more le) ∙ ap (take n) x.reads.1 ∙ take-append_seam front x.rest in
    let split : bytes ≡ front ++ rest = sym (take-append-drop n bytes) ∙ ap (λ l. l ++ rest) kept in
    let behind : x.rest ≡ rest ++ more = sym (drop-append_seam front x.rest) ∙ ap (drop n) (sym x.reads.1) ∙ drop-append-le n bytes more le in
    let small : x.size ≤ max_body = only_small max_body (values_named (codes "content-length") (map name_and_value x.head.fields)) x.size x.sized in
    let room : x.size ≤ length rest = omega (arith, length-drop n bytes, x.early, full, small) in
    lacks status body (record {
      head = x.head;
      rest = rest;
      size = x.size;
      reads = (x.reads.0, split);
      lines = x.lines;
      early = x.early;
      status_is = x.status_is;
      sized = x.sized;
      there = room;
      body_is = x.body_is ∙ ap (take x.size) behind ∙ take-append-le x.size rest more room;
    })

-- ---- all bytes

lacks_all : (bytes rest : List ℕ) (left : Option (List ℕ)) → left ≡ Some rest → AtEnd left ⊎ (length bytes ≡ max_answer) → LacksAnswer bytes
    → LacksAnswer (bytes ++ rest)
lacks_all bytes rest left told (inl end) lacks =
    let whole : bytes ++ rest ≡ bytes = ap (λ l. bytes ++ l) (end rest told) ∙ append-nil bytes in
    rw whole lacks
lacks_all bytes rest left told (inr full) lacks = lacks_full bytes rest full lacks

pub settled_of : (bytes rest all : List ℕ) (left : Option (List ℕ)) (result : Result Settlement SettleErr) → left ≡ Some rest → all ≡ bytes ++ rest
    → IsHeard bytes left result → SettledBy all result
settled_of bytes rest all left (Ok settlement) told is heard = rw is (heard.0, heard.1, answer_more bytes rest heard.0 heard.1 heard.2, heard.3)
settled_of bytes rest all left (Err NotWhole) told is heard = rw is (lacks_all bytes rest left told heard.1 heard.0)
settled_of bytes rest all left (Err Fault) told is heard = tt
settled_of bytes rest all left (Err NoMemory) told is heard = tt

-- ---- bytes that come read by read

-- a read more, which took bytes
pub hear_more : (xs ys : List ℕ) (got k asked count : ℕ) (old mid new : About) → got < length xs → length xs ≡ max_answer → length ys ≡ asked → asked ≡ length xs - got → LacksAnswer (take got xs)
    → Took MayReadAnswer (take got xs) 0 false old mid → Reads asked ys (takes.Count count) mid new → Took MayReadAnswer (take (got + count) (put_mid got k xs ys)) 0 false old new
hear_more xs ys got k asked count old mid new p size len is lacks before r =
    let long : length (take got xs) ≡ got = length-take-le got xs (omega arith) in
    rw (take_read xs ys got k count (omega arith) (omega (arith, r.within, len)))
    (took_more MayReadAnswer (take got xs) asked ys (takes.Count count) old mid new before (lacks, omega (arith, long, is, size)) (omega arith) len r)

-- a read more, which took nothing
pub hear_idle : (xs ys : List ℕ) (got k asked : ℕ) (t : Taken) (old mid new : About) → got < length xs → length xs ≡ max_answer → length ys ≡ asked → asked ≡ length xs - got → taken t ys ≡ [] → LacksAnswer (take got xs)
    → Took MayReadAnswer (take got xs) 0 false old mid → Reads asked ys t mid new → Took MayReadAnswer (take got (put_mid got k xs ys)) (idle_read t) (failed_read t) old new
hear_idle xs ys got k asked t old mid new p size len is empty lacks before r =
    let long : length (take got xs) ≡ got = length-take-le got xs (omega arith) in
    let nothing : take got (put_mid got k xs ys) ≡ take got xs ++ taken t ys =
    take-put_mid_below got k xs ys got (omega arith) (omega arith) ∙ sym (append-nil (take got xs)) ∙ ap (λ l. take got xs ++ l) (sym empty) in
    rw nothing (took_more MayReadAnswer (take got xs) asked ys t old mid new before (lacks, omega (arith, long, is, size)) (omega arith) len r)
