-- Reads one after the other into a buffer, and bytes that are written from their front.
use Rattle.std.proofs.Common.{◌≡◌, ℕ, ◌+◌, ◌-◌, ◌<◌, ◌≤◌, List, [], ◌∷◌, ◌++◌, length, take, drop, slice_range, Bool, false, Option, refl, sym, ap, subst, ◌∙◌, arith, append_assoc}
use Rattle.std.proofs.Math.Seq.{take-add, take-append-add}
use Rattle.std.proofs.lemmas.List.{append-nil, drop-append-le, length-append, length-drop, length-take-le, take-append-le}
use Rattle.std.proofs.lemmas.Slice.{between_is, take-put_mid_below}
use borrow.Rule.Slice.PartMut.{put_mid, post_of}
use Rattle.sat_base.specs.declared.outside.ReadMade.{ReadMade}
use Rattle.sat_base.specs.declared.outside.Taken.{Taken}
use Rattle.sat_base.specs.declared.outside.Taken.TheVariants as takes
use Rattle.sat_base.specs.Outside.{About, AddsReads, CountsExactly, KeepsInput, KeepsOutput, TakesWithin, failed_read, read_made, taken, with_end, with_front}
use Rattle.sat_base.specs.Streams.{FillsUp, Made, none, more, Took}
use Rattle.sat_base.proofs.Told.{with_front-front, with_front-none, with_end-end}

-- ---- what is kept

pub keeps_output : (old mid new : About) → KeepsOutput old mid → KeepsOutput mid new → KeepsOutput old new
keeps_output old mid new p q = record { written = q.written ∙ p.written; write_faults = q.write_faults ∙ p.write_faults }

pub keeps_input : (old mid new : About) → KeepsInput old mid → KeepsInput mid new → KeepsInput old new
keeps_input old mid new p q = record { left = q.left ∙ p.left; reads = q.reads ∙ p.reads; read_faults = q.read_faults ∙ p.read_faults }

pub keeps_all_input : (o : About) → KeepsInput o o
keeps_all_input o = record { left = refl; reads = refl; read_faults = refl }

-- ---- reads

adds_none : (o : Option (List ReadMade)) → AddsReads o [] o
adds_none o = λ all e. (all, e, sym (append-nil all))

adds_more : (o m n : Option (List ReadMade)) (a b : List ReadMade) → AddsReads o a m → AddsReads m b n → AddsReads o (a ++ b) n
adds_more o m n a b p q = λ all e.
    let later = q all e in
    let first = p later.0 later.1 in
    (first.0, first.1, later.2 ∙ ap (λ l. l ++ b) first.2 ∙ append_assoc first.0 a b)

made_then : (P Q : List ℕ → ℕ → Type 0) (first : List ℕ) (made : List ReadMade) → Made P first made → (next : List ℕ) (reads : List ReadMade) → Made Q next reads
    → ((before : List ℕ) (asked : ℕ) → Q before asked → 0 < asked → P (first ++ before) asked) → Made P (first ++ next) (made ++ reads)
made_then P Q first made m next reads none f = rw (append-nil first, append-nil made) m
made_then P Q first made m next reads (more bytes last before asked b may some fits) f =
    let whole = more (first ++ bytes) last (made ++ before) asked (made_then P Q first made m bytes before b f) (f bytes asked may some) some fits in
    rw (← append_assoc first bytes last, ← append_assoc made before (record { asked = asked; took = length last } ∷ [])) whole

-- no read yet
pub took_none : (May : List ℕ → ℕ → Type 0) (o : About) → Took May [] 0 false o o
took_none May o = record {
  left = sym (with_front-none o.left);
  reads = [];
  made = none;
  few = omega arith;
  adds = adds_none o.reads;
  faults = refl;
  output = record { written = refl; write_faults = refl };
}

-- reads, and behind them others
pub took_then : (P Q : List ℕ → ℕ → Type 0) (first next : List ℕ) (idle : ℕ) (failed : Bool) (old mid new : About) → Took P first 0 false old mid → Took Q next idle failed mid new
    → ((before : List ℕ) (asked : ℕ) → Q before asked → 0 < asked → P (first ++ before) asked) → Took P (first ++ next) idle failed old new
took_then P Q first next idle failed old mid new p q f = record {
  left = p.left ∙ ap (with_front first) q.left ∙ with_front-front first next new.left;
  reads = p.reads ++ q.reads;
  made = made_then P Q first p.reads p.made next q.reads q.made f;
  few = omega (arith, p.few, q.few, length-append p.reads q.reads, length-append first next);
  adds = adds_more old.reads mid.reads new.reads p.reads q.reads p.adds q.adds;
  faults = subst (λ (n : ℕ). CountsExactly failed n new.read_faults) p.faults q.faults;
  output = keeps_output old mid new p.output q.output;
}

-- how many reads of one answer took nothing
abbrev pub idle_read : Taken → ℕ
idle_read (takes.Count n) = 0
idle_read takes.End = 1
idle_read takes.Failed = 1

-- what a source promises of a read
pub record Reads (asked : ℕ) (buf : List ℕ) (t : Taken) (old new : About) : Type 0 where
  pub within : TakesWithin asked t
  pub left : old.left ≡ with_front (taken t buf) new.left
  pub adds : AddsReads old.reads (read_made asked t ∷ []) new.reads
  pub faults : CountsExactly (failed_read t) old.read_faults new.read_faults
  pub output : KeepsOutput old new

took_read : (May : List ℕ → ℕ → Type 0) (asked : ℕ) (buf : List ℕ) (t : Taken) (old new : About) → May [] asked → 0 < asked → length buf ≡ asked → Reads asked buf t old new
    → Took May (taken t buf) (idle_read t) (failed_read t) old new
took_read May asked buf (takes.Count n) old new may some len r =
    let size : length (take n buf) ≡ n = length-take-le n buf (omega (arith, r.within, len)) in
    record {
      left = r.left;
      reads = record { asked = asked; took = length (take n buf) } ∷ [];
      made = more [] (take n buf) [] asked none may some (omega (arith, r.within, size));
      few = omega (arith, r.within, size);
      adds = rw size r.adds;
      faults = r.faults;
      output = r.output;
    }
took_read May asked buf takes.End old new may some len r = record {
  left = r.left;
  reads = record { asked = asked; took = 0 } ∷ [];
  made = more [] [] [] asked none may some (omega arith);
  few = omega arith;
  adds = r.adds;
  faults = r.faults;
  output = r.output;
}
took_read May asked buf takes.Failed old new may some len r = record {
  left = r.left;
  reads = record { asked = asked; took = 0 } ∷ [];
  made = more [] [] [] asked none may some (omega arith);
  few = omega arith;
  adds = r.adds;
  faults = r.faults;
  output = r.output;
}

-- one read more
pub took_more : (May : List ℕ → ℕ → Type 0) (first : List ℕ) (asked : ℕ) (buf : List ℕ) (t : Taken) (old mid new : About) → Took May first 0 false old mid
    → May first asked → 0 < asked → length buf ≡ asked → Reads asked buf t mid new → Took May (first ++ taken t buf) (idle_read t) (failed_read t) old new
took_more May first asked buf t old mid new before may some len r =
    let here : May (first ++ []) asked = rw (append-nil first) may in
    took_then May (λ (bytes : List ℕ) (n : ℕ). May (first ++ bytes) n) first (taken t buf) (idle_read t) (failed_read t) old mid new before
    (took_read (λ (bytes : List ℕ) (n : ℕ). May (first ++ bytes) n) asked buf t mid new here some len r) (λ bytes n may positive. may)

-- reads of another name
pub took_as : (P Q : List ℕ → ℕ → Type 0) (bytes : List ℕ) (idle : ℕ) (failed : Bool) (old new : About) → Took Q bytes idle failed old new
    → ((before : List ℕ) (asked : ℕ) → Q before asked → 0 < asked → P before asked) → Took P bytes idle failed old new
took_as P Q bytes idle failed old new q f = took_then P Q [] bytes idle failed old old new (took_none P old) q f

-- a bound that is less sharp
pub took_within : (May : List ℕ → ℕ → Type 0) (bytes : List ℕ) (idle most : ℕ) (failed : Bool) (old new : About) → idle ≤ most → Took May bytes idle failed old new → Took May bytes most failed old new
took_within May bytes idle most failed old new le t = record {
  left = t.left;
  reads = t.reads;
  made = t.made;
  few = omega (arith, t.few, le);
  adds = t.adds;
  faults = t.faults;
  output = t.output;
}

-- ---- a buffer that is filled from the left

-- the bytes that have come, after a read into the part behind them
pub take_read : (xs ys : List ℕ) (got k count : ℕ) → got ≤ length xs → count ≤ length ys → take (got + count) (put_mid got k xs ys) ≡ take got xs ++ take count ys
take_read xs ys got k count p q =
    ap (λ n. take (n + count) (put_mid got k xs ys)) (sym (length-take-le got xs p))
    ∙ take-append-add (take got xs) (ys ++ post_of got k xs) count
    ∙ ap (λ l. take got xs ++ l) (take-append-le count ys (post_of got k xs) q)

-- the same from a place on
pub part_read : (xs ys : List ℕ) (from got k count : ℕ) → from ≤ got → got ≤ length xs → count ≤ length ys → slice_range (put_mid got k xs ys) from (got + count) ≡ slice_range xs from got ++ take count ys
part_read xs ys from got k count p q r =
    between_is (put_mid got k xs ys) from (got + count)
    ∙ ap (drop from) (take_read xs ys got k count q r)
    ∙ drop-append-le from (take got xs) (take count ys) (rw (length-take-le got xs q) p)
    ∙ ap (λ l. l ++ take count ys) (sym (between_is xs from got))

-- a write behind the part leaves it
pub part_kept : (xs ys : List ℕ) (from got k : ℕ) → got ≤ length xs → slice_range (put_mid got k xs ys) from got ≡ slice_range xs from got
part_kept xs ys from got k q =
    between_is (put_mid got k xs ys) from got
    ∙ ap (drop from) (take-put_mid_below got k xs ys got (omega arith) q)
    ∙ sym (between_is xs from got)

-- what is missing of a room behind a part
room_left : (xs : List ℕ) (from got size asked : ℕ) → from ≤ got → got ≤ length xs → length xs ≡ size → asked ≡ length xs - got → FillsUp (size - from) (slice_range xs from got) asked
room_left xs from got size asked p q same is =
    let len : length (slice_range xs from got) ≡ got - from = rw (between_is xs from got) (omega (arith, length-drop from (take got xs), length-take-le got xs q)) in
    omega (arith, len)

-- a read more into a buffer, which took bytes
pub fill_more : (xs ys : List ℕ) (from got size asked count : ℕ) (old mid new : About) → from ≤ got → got < length xs → length xs ≡ size → length ys ≡ asked → asked ≡ length xs - got
    → Took (FillsUp (size - from)) (slice_range xs from got) 0 false old mid → Reads asked ys (takes.Count count) mid new
    → Took (FillsUp (size - from)) (slice_range (put_mid got (length xs - got) xs ys) from (got + count)) 0 false old new
fill_more xs ys from got size asked count old mid new p q same len is before r =
    rw (part_read xs ys from got (length xs - got) count p (omega arith) (omega (arith, r.within, len)))
    (took_more (FillsUp (size - from)) (slice_range xs from got) asked ys (takes.Count count) old mid new before
    (room_left xs from got size asked p (omega arith) same is) (omega arith) len r)

-- a read more into a buffer, which took nothing
pub fill_idle : (xs ys : List ℕ) (from got size asked : ℕ) (t : Taken) (old mid new : About) → from ≤ got → got < length xs → length xs ≡ size → length ys ≡ asked → asked ≡ length xs - got → taken t ys ≡ []
    → Took (FillsUp (size - from)) (slice_range xs from got) 0 false old mid → Reads asked ys t mid new
    → Took (FillsUp (size - from)) (slice_range (put_mid got (length xs - got) xs ys) from got) (idle_read t) (failed_read t) old new
fill_idle xs ys from got size asked t old mid new p q same len is empty before r =
    let nothing : slice_range (put_mid got (length xs - got) xs ys) from got ≡ slice_range xs from got ++ taken t ys =
    part_kept xs ys from got (length xs - got) (omega arith) ∙ sym (append-nil (slice_range xs from got)) ∙ ap (λ l. slice_range xs from got ++ l) (sym empty) in
    rw nothing
    (took_more (FillsUp (size - from)) (slice_range xs from got) asked ys t old mid new before
    (room_left xs from got size asked p (omega arith) same is) (omega arith) len r)

-- ---- bytes that are written from their front

pub write_more : (o a b : Option (List ℕ)) (text sub : List ℕ) (done n : ℕ) → sub ≡ drop done text → a ≡ with_end o (take done text) → b ≡ with_end a (take n sub) → b ≡ with_end o (take (done + n) text)
write_more o a b text sub done n is before now =
    now ∙ rw (before, is, take-add done n text) (with_end-end o (take done text) (take n (drop done text)))
