-- What the bytes come to, piece by piece.
use Rattle.std.proofs.lemmas.Bool.{cases_lt}
use Rattle.std.proofs.Common.{min, ◌≡◌, ℕ, ◌+◌, ◌-◌, ◌<◌, ◌≤◌, ◌⊎◌, inl, inr, List, [], ◌∷◌, ◌++◌, length, take, drop, slice_range, refl, sym, ◌∙◌, ap, subst, arith, append-nil, append_assoc, length-append, length-drop, Bool, true, false, cond, nat_le, ◌||◌, Option, Some, None}
use Rattle.std.proofs.lemmas.List.{take-append-le, take-append-drop, length-take-le, drop-append-le, drop_all}
use Rattle.std.proofs.lemmas.Grind.{common_steps}
use Rattle.httparse.specs.Grammar.{ResponseHead}
use Rattle.http_parts.specs.Heads.{max_head}
use Rattle.node_wire.specs.Heard.{HasHead, LacksHead, Heard, Said, headed, lacking, share, no_answer, behind, unless_whole, says_of, asked_len}
use Rattle.node_wire.specs.Readings.{HasBody, IsFront, At}
use Rattle.node_wire.specs.declared.head.Question.{Question}
use Rattle.node_wire.specs.declared.head.Says.{Says}
use Rattle.node_wire.specs.declared.head.Says.TheVariants.{NoAnswer, Body}
use Rattle.node_wire.specs.declared.reading.Stage.{Stage}
use Rattle.node_wire.specs.declared.reading.Stage.TheVariants as stages
use Rattle.node_wire.proofs.HeadLemmas.{has_more, lacks_more, body_small}

abbrev HeadAt : Question → List ℕ → List ℕ → Says → Type 0
HeadAt question bytes rest s = (h : ResponseHead) × HasHead bytes h rest × (says_of question h ≡ s)

said : (question : Question) (bytes rest : List ℕ) (ended : Bool) (s : Says) (o : Option Said) → HeadAt question bytes rest s → behind ended s rest ≡ o → Heard question bytes ended o
said question bytes rest ended s o h e = subst (Heard question bytes ended) (ap (λ t. behind ended t rest) h.2 ∙ e) (headed h.0 rest h.1)

-- a head that decides by itself
pub decided : (question : Question) (bytes rest all : List ℕ) (s : Says) (o : Said) → HeadAt question bytes rest s → IsFront question bytes all → ((l : List ℕ) → behind false s l ≡ Some o) → Heard question all false (Some o)
decided question bytes rest all s o h x e =
    rw x.split (said question (bytes ++ x.more) (rest ++ x.more) false s (Some o) (h.0, has_more bytes x.more h.0 rest h.1, h.2) (e (rest ++ x.more)))

-- where a body is whole
pub body_whole : (question : Question) (start size : ℕ) (bytes all : List ℕ) → HasBody question bytes start size → start + size ≤ length bytes → IsFront question bytes all → Heard question all false (Some (share (slice_range bytes start (start + size))))
body_whole question start size bytes all b le x =
    let rest = drop start bytes in
    let long : size ≤ length rest = omega (arith, length-drop start bytes, le) in
    let more : nat_le size (length (rest ++ x.more)) ≡ true = grind (arith, common_steps, long, length-append rest x.more) in
    let exact : start + size - start ≡ size = omega arith in
    let same : slice_range bytes start (start + size) ≡ take size rest = ap (λ n. take n rest) exact in
    rw x.split (said question (bytes ++ x.more) (rest ++ x.more) false (Body size) _ (b.head.0, has_more bytes x.more b.head.0 rest b.head.1, b.head.2) (rw more (rw (take-append-le size rest x.more long, same) refl)))

no_more : (question : Question) (n : ℕ) (bytes all : List ℕ) → IsFront question bytes all → length bytes < n → n ≤ max_head + asked_len question → all ≡ bytes
no_more question n bytes all x less le = elim x.full [
  | inl none ↦ x.split ∙ ap (λ l. bytes ++ l) none ∙ append-nil bytes
  | inr full ↦ absurd (omega (arith, full, less, le))
]

-- where a body isn't whole, all bytes are there, and they decide nothing before their end
pub body_short : (question : Question) (start size : ℕ) (bytes all : List ℕ) → HasBody question bytes start size → length bytes < start + size → IsFront question bytes all → bytes ≡ all
body_short question start size bytes all b less x =
    let small : size ≤ asked_len question = body_small question b.head.0 size b.head.2 in
    sym (no_more question (start + size) bytes all x less (omega (arith, small, b.early)))

pub body_unwhole : (question : Question) (start size : ℕ) (bytes : List ℕ) (ended : Bool) → HasBody question bytes start size → length bytes < start + size → Heard question bytes ended (unless_whole ended)
body_unwhole question start size bytes ended b less =
    let rest = drop start bytes in
    let short : nat_le size (length rest) ≡ false = grind (arith, common_steps, length-drop start bytes, less, b.within) in
    said question bytes rest ended (Body size) _ b.head (rw short refl)

pub lacking_full : (question : Question) (bytes all : List ℕ) → LacksHead bytes → max_head ≤ length bytes → IsFront question bytes all → Heard question all false (Some no_answer)
lacking_full question bytes all lacks full x =
    let long : nat_le max_head (length (bytes ++ x.more)) ≡ true = grind (arith, common_steps, full, length-append bytes x.more) in
    let P : Bool → Type 0 = λ b. Heard question (bytes ++ x.more) false (unless_whole b) in
    rw x.split (subst P long (lacking (lacks_more bytes x.more (inr full) lacks)))

pub lacking_short : (question : Question) (bytes all : List ℕ) → length bytes < max_head → IsFront question bytes all → bytes ≡ all
lacking_short question bytes all less x = sym (no_more question max_head bytes all x less (omega arith))

pub lacking_open : (question : Question) (bytes : List ℕ) → LacksHead bytes → length bytes < max_head → Heard question bytes false None
lacking_open question bytes lacks less =
    let short : nat_le max_head (length bytes) ≡ false = grind (arith, common_steps, less) in
    let P : Bool → Type 0 = λ b. Heard question bytes false (unless_whole b) in
    subst P short (lacking lacks)

-- the end before anything was decided
pub ended_open : (question : Question) (bytes : List ℕ) (s : Stage) → At question bytes s → Heard question bytes true (Some no_answer)
ended_open question bytes stages.Head at = lacking at.0
ended_open question bytes (stages.Body start size) at = body_unwhole question start size bytes true at.0 at.1
ended_open question bytes (stages.Over start size) at = absurd at

-- the front of a piece that there is room for
pub front_more : (question : Question) (n : ℕ) (bytes piece : List ℕ) → (length piece ≤ n) ⊎ (length bytes + n ≡ max_head + asked_len question) → n ≤ length piece → IsFront question (bytes ++ take n piece) (bytes ++ piece)
front_more question n bytes piece room le = record {
  more = drop n piece;
  split = ap (λ l. bytes ++ l) (sym (take-append-drop n piece)) ∙ sym (append_assoc bytes (take n piece) (drop n piece));
  full = elim room [
    | inl all ↦ inl (drop_all n piece all)
    | inr full ↦ inr (omega (arith, full, length-append bytes (take n piece), length-take-le n piece le))
  ];
}

pub body_more : (question : Question) (start size : ℕ) (bytes more : List ℕ) → HasBody question bytes start size → HasBody question (bytes ++ more) start size
body_more question start size bytes more b = record {
  head = (b.head.0, subst (λ l. HasHead (bytes ++ more) b.head.0 l) (sym (drop-append-le start bytes more b.within)) (has_more bytes more b.head.0 (drop start bytes) b.head.1), b.head.2);
  within = omega (arith, b.within, length-append bytes more);
  early = b.early;
}

pub front_min : (question : Question) (n : ℕ) (bytes piece now : List ℕ) → n ≡ min (length piece) (max_head + asked_len question - length bytes) → length bytes ≤ max_head + asked_len question → now ≡ bytes ++ take n piece → IsFront question now (bytes ++ piece)
front_min question n bytes piece now e fits is =
    let le : n ≤ length piece = grind (arith, common_steps, e) in
    let room : (length piece ≤ n) ⊎ (length bytes + n ≡ max_head + asked_len question) = elim (cases_lt (length piece) (max_head + asked_len question - length bytes)) [
      | inl less ↦ inl (grind (arith, common_steps, e, less))
      | inr more ↦ inr (grind (arith, common_steps, e, more, fits))
    ] in
    subst (λ l. IsFront question l (bytes ++ piece)) (sym is) (front_more question n bytes piece room le)
