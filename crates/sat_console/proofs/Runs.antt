-- The exits of a run of a command that answers its input.
use Rattle.std.proofs.Common.{length-take, ◌≡◌, ◌≤◌, ◌⊎◌, ℕ, List, Option, [], ◌++◌, length, take, refl, ap, sym, subst, ◌∙◌, arith, inl, inr, Some, None, Result, Ok, Err, Bool, slice_range}
use Rattle.std.specs.Prelude.{MatchResult}
use Rattle.std.proofs.lemmas.List.{length-append, append-nil, take_all}
use Rattle.sat_base.specs.Outside.{About, KeepsInput, with_front, with_end, Rose}
use Rattle.std.proofs.lemmas.Slice.{between_from_start}
use Rattle.std.proofs.lemmas.Option.{same_Some}
use Rattle.sat_base.specs.Streams.{Took}
use Rattle.sat_base.specs.declared.items.Share.{Share}
use Rattle.sat_console.specs.Judge.{Judges, RefusesLine, shares_of}
use Rattle.sat_console.specs.Answers.{IsSettleText}
use Rattle.sat_console.specs.Run.{NoRefusal, Ran, Says, Answers, IsLine, IsAnswer, fault_line, input_room, max_input}

-- what reading the input did
pub record Read (old mid : About) (input : List ℕ) : Type 0 where
  pub at_most : length input ≤ input_room
  pub took : old.left ≡ with_front input mid.left
  pub written : mid.written ≡ old.written
  pub write_faults : mid.write_faults ≡ old.write_faults

-- what filling a buffer did
pub read_front : (May : List ℕ → ℕ → Type 0) (buf : List ℕ) (len idle : ℕ) (failed : Bool) (old mid : About) → length buf ≡ input_room → Took May (slice_range buf 0 len) idle failed old mid → Read old mid (take len buf)
read_front May buf len idle failed old mid size t = record {
  at_most = omega (arith, length-take len buf);
  took = rw (← between_from_start buf len) t.left;
  written = t.output.written;
  write_faults = t.output.write_faults;
}

-- a fault that ends a run before its answers
abbrev pub IsEarly : ℕ → Type 0
IsEarly status = (status ≡ 9) ⊎ ((status ≡ 11) ⊎ (status ≡ 12))

early_bounds : (status : ℕ) → IsEarly status → (9 ≤ status) × (status ≤ 12)
early_bounds status which = elim which [
  | inl nine ↦ (omega arith, omega arith)
  | inr more ↦ elim more [ inl eleven ↦ (omega arith, omega arith) | inr twelve ↦ (omega arith, omega arith) ]
]

early_which : (status s : ℕ) → status ≡ s → IsEarly s → (status ≡ 0) ⊎ ((status ≡ 5) ⊎ ((status ≡ 8) ⊎ ((status ≡ 9) ⊎ ((status ≡ 11) ⊎ (status ≡ 12)))))
early_which status s is which = inr (inr (inr (elim which [
  | inl nine ↦ inl (is ∙ nine)
  | inr more ↦ inr (elim more [ inl eleven ↦ inl (is ∙ eleven) | inr twelve ↦ inr (is ∙ twelve) ])
])))

no_answer : (status : ℕ) → 9 ≤ status → IsAnswer status → ⊥
no_answer status late answer = elim answer [ inl z ↦ omega arith | inr eight ↦ omega arith ]

module _ (IsText IsRefusal : List ℕ → List ℕ → Type 0) where
  -- a status other than 8 has its own line
  own_line : (input : List ℕ) (status s : ℕ) → status ≡ s → (s ≡ 8 → ⊥) → IsLine IsRefusal input status (fault_line s)
  own_line input status s is other = (λ eight. absurd (other (sym is ∙ eight)), λ ne. ap fault_line (sym is))

  -- ---- answering

  pub answers_fault : (input : List ℕ) (old new : About) (status : ℕ) → status ≡ 9 → Says (fault_line 9) old new → Answers IsText IsRefusal input old new status
  answers_fault input old new status nine says =
      let of : IsLine IsRefusal input status (fault_line 9) = own_line input status 9 nine (λ e. cc) in
      record {
        whole = λ z. absurd (omega arith);
        front = record { text = []; line = fault_line 9; n = 0; m = says.front.0; of_text = inl refl; of_line = of; written = says.front.1 };
        said = λ z. record { line = fault_line 9; of_line = of; whole = says.whole };
        write_fault = λ five. absurd (omega arith);
        same = says.input;
        which = inr (inr (inr nine));
      }

  pub answers_refused : (input refusal line : List ℕ) (old new : About) → IsRefusal input refusal → line ≡ refusal → Says line old new → Answers IsText IsRefusal input old new 8
  answers_refused input refusal line old new refuses is says =
      let of : IsLine IsRefusal input 8 line = (λ e. subst (IsRefusal input) (sym is) refuses, λ ne. absurd (ne refl)) in
      record {
        whole = λ z. absurd (omega arith);
        front = record { text = []; line = line; n = 0; m = says.front.0; of_text = inl refl; of_line = of; written = says.front.1 };
        said = λ z. record { line = line; of_line = of; whole = says.whole };
        write_fault = λ five. absurd (omega arith);
        same = says.input;
        which = inr (inr (inl refl));
      }

  pub answers_whole : (input answers text : List ℕ) (old new : About) → IsText input answers → text ≡ answers → new.written ≡ with_end old.written text → KeepsInput old new → Answers IsText IsRefusal input old new 0
  answers_whole input answers text old new of same wrote input_kept = let is : IsText input text = subst (IsText input) (sym same) of in record {
    whole = λ z. (text, is, wrote);
    front = record {
      text = text;
      line = [];
      n = length text;
      m = 0;
      of_text = inr is;
      of_line = own_line input 0 0 refl (λ e. cc);
      written = wrote ∙ ap (with_end old.written) (sym (append-nil (take (length text) text) ∙ take_all (length text) text (omega arith)));
    };
    said = λ ne. absurd (ne refl);
    write_fault = λ five. absurd (omega arith);
    same = input_kept;
    which = inl refl;
  }

  pub answers_cut : (input answers text : List ℕ) (old new : About) (n : ℕ) → IsText input answers → text ≡ answers → new.written ≡ with_end old.written (take n text) → Rose old.write_faults new.write_faults → KeepsInput old new → Answers IsText IsRefusal input old new 5
  answers_cut input answers text old new n of_answers same wrote rose input_kept =
      let is : IsText input text = subst (IsText input) (sym same) of_answers in
      let of : IsLine IsRefusal input 5 [] = own_line input 5 5 refl (λ e. cc) in
      record {
        whole = λ z. absurd (omega arith);
        front = record { text = text; line = []; n = n; m = 0; of_text = inr is; of_line = of; written = wrote ∙ ap (with_end old.written) (sym (append-nil (take n text))) };
        said = λ z. record { line = []; of_line = of; whole = inr rose };
        write_fault = λ five. rose;
        same = input_kept;
        which = inr (inl refl);
      }

  -- ---- reading

  pub fault_ran : (old mid new : About) (input : List ℕ) (status s : ℕ) → Read old mid input → status ≡ s → IsEarly s → Says (fault_line s) mid new
      → (s ≡ 11 → Rose old.read_faults mid.read_faults) → (s ≡ 12 → length input ≡ input_room) → Ran IsText IsRefusal old new status
  fault_ran old mid new input status s read is which says failed long =
      let bounds = early_bounds s which in
      let late : 9 ≤ status = omega arith in
      let of : IsLine IsRefusal input status (fault_line s) = own_line input status s is (λ e. omega arith) in
      record {
        input = input;
        at_most = read.at_most;
        took = rw says.input.left read.took;
        nothing_left = λ answer. absurd (no_answer status late answer);
        short = λ answer. absurd (no_answer status late answer);
        answered = λ z. absurd (omega arith);
        front = record { text = []; line = fault_line s; n = 0; m = says.front.0; of_text = inl refl; of_line = of; written = rw (← read.written) says.front.1 };
        said = λ z. record { line = fault_line s; of_line = of; whole = rw (← read.written, ← read.write_faults) says.whole };
        write_fault = λ five. absurd (omega arith);
        read_fault = λ e. rw says.input.read_faults (failed (sym is ∙ e));
        long = λ e. long (sym is ∙ e);
        which = early_which status s is which;
      }

  pub whole_ran : (old mid new : About) (input : List ℕ) (status : ℕ) → Read old mid input → length input ≤ max_input → ((l : List ℕ) → mid.left ≡ Some l → l ≡ []) → Answers IsText IsRefusal input mid new status → Ran IsText IsRefusal old new status
  whole_ran old mid new input status read short none a =
      let bounds : (status ≤ 9) × (status ≡ 11 → ⊥) = elim a.which [
        | inl z ↦ (omega arith, λ e. omega arith)
        | inr b ↦ elim b [ inl f ↦ (omega arith, λ e. omega arith) | inr c ↦ elim c [ inl r ↦ (omega arith, λ e. omega arith) | inr n ↦ (omega arith, λ e. omega arith) ] ]
      ] in
      record {
        input = input;
        at_most = read.at_most;
        took = rw a.same.left read.took;
        nothing_left = λ answer l e. none l (sym a.same.left ∙ e);
        short = λ answer. short;
        answered = λ z. let w = a.whole z in (w.0, w.1, rw (← read.written) w.2);
        front = record {
          text = a.front.text;
          line = a.front.line;
          n = a.front.n;
          m = a.front.m;
          of_text = a.front.of_text;
          of_line = a.front.of_line;
          written = rw (← read.written) a.front.written;
        };
        said = λ z. let s = a.said z in record { line = s.line; of_line = s.of_line; whole = rw (← read.written, ← read.write_faults) s.whole };
        write_fault = λ e. rw (← read.write_faults) (a.write_fault e);
        read_fault = λ e. absurd (bounds.1 e);
        long = λ e. absurd (omega arith);
        which = elim a.which [ inl z ↦ inl z | inr b ↦ elim b [ inl f ↦ inr (inl f) | inr c ↦ elim c [ inl r ↦ inr (inr (inl r)) | inr n ↦ inr (inr (inr (inl n))) ] ] ];
      }

-- ---- completeness

taken_len : (o : Option (List ℕ)) (input bytes : List ℕ) → with_front input o ≡ Some bytes → length input ≤ length bytes
taken_len None input bytes e = absurd cc
taken_len (Some rest) input bytes e = omega (arith, ap length (same_Some _ _ e), length-append input rest)

all_taken : (o : Option (List ℕ)) (input bytes : List ℕ) → with_front input o ≡ Some bytes → ((l : List ℕ) → o ≡ Some l → l ≡ []) → input ≡ bytes
all_taken None input bytes e none = absurd cc
all_taken (Some rest) input bytes e none = sym (append-nil input) ∙ ap (λ r. input ++ r) (sym (none rest refl)) ∙ same_Some _ _ e

module _ (IsText IsRefusal : List ℕ → List ℕ → Type 0) (old new : About) (status : ℕ) (bytes : List ℕ) (r : Ran IsText IsRefusal old new status) (told : old.left ≡ Some bytes) where
  -- a run that answers its input took all of it
  input_is : IsAnswer status → r.input ≡ bytes
  input_is answer = all_taken new.left r.input bytes (sym r.took ∙ told) (r.nothing_left answer)

  runs_through : length bytes ≤ max_input → (Rose old.read_faults new.read_faults → ⊥) → (Rose old.write_faults new.write_faults → ⊥) → (IsAnswer status) ⊎ (status ≡ 9)
  runs_through short no_read no_write =
      elim r.which [
        | inl z ↦ inl (inl z)
        | inr b ↦ elim b [
          | inl five ↦ absurd (no_write (r.write_fault five))
          | inr c ↦ elim c [
            | inl eight ↦ inl (inr eight)
            | inr d ↦ elim d [
              | inl nine ↦ inr nine
              | inr e ↦ elim e [
                | inl eleven ↦ absurd (no_read (r.read_fault eleven))
                | inr twelve ↦ absurd (let len = taken_len new.left r.input bytes (sym r.took ∙ told) in let long = r.long twelve in omega arith)
              ]
            ]
          ]
        ]
      ]

taken_refused : (bytes : List ℕ) (shares : List Share) (number : ℕ) → shares_of bytes ≡ Ok shares → shares_of bytes ≡ Err number → ⊥
taken_refused bytes shares number ok err = cc

judged : (k size : ℕ) (old new : About) (status : ℕ) (bytes : List ℕ) (r : Ran (Judges k size) RefusesLine old new status) → old.left ≡ Some bytes → (IsAnswer status) ⊎ (status ≡ 9)
    → (x : Result (List Share) ℕ) → shares_of bytes ≡ x → MatchResult x (λ shares. (status ≡ 0) ⊎ (status ≡ 9)) (λ number. (status ≡ 8) ⊎ (status ≡ 9))
judged k size old new status bytes r told (inr nine) (Ok shares) e = inr nine
judged k size old new status bytes r told (inr nine) (Err number) e = inr nine
judged k size old new status bytes r told (inl (inl z)) (Ok shares) e = inl z
judged k size old new status bytes r told (inl (inr eight)) (Ok shares) e =
    let same = input_is (Judges k size) RefusesLine old new status bytes r told (inr eight) in
    let refused = r.front.of_line.0 eight in
    absurd (taken_refused bytes shares refused.0 e (ap shares_of (sym same) ∙ refused.1))
judged k size old new status bytes r told (inl (inr eight)) (Err number) e = inl eight
judged k size old new status bytes r told (inl (inl z)) (Err number) e =
    let same = input_is (Judges k size) RefusesLine old new status bytes r told (inl z) in
    let answered = r.answered z in
    absurd (taken_refused bytes answered.1.shares number (ap shares_of (sym same) ∙ answered.1.are) e)

-- `judge` ends by what its lines are, or for lack of memory
pub judges_through : (k size : ℕ) (old new : About) (status : ℕ) (bytes : List ℕ) → Ran (Judges k size) RefusesLine old new status → old.left ≡ Some bytes → length bytes ≤ max_input
    → (Rose old.read_faults new.read_faults → ⊥) → (Rose old.write_faults new.write_faults → ⊥)
    → MatchResult (shares_of bytes) (λ shares. (status ≡ 0) ⊎ (status ≡ 9)) (λ number. (status ≡ 8) ⊎ (status ≡ 9))
judges_through k size old new status bytes r told short no_read no_write =
    judged k size old new status bytes r told (runs_through (Judges k size) RefusesLine old new status bytes r told short no_read no_write) (shares_of bytes) refl

-- `settle` ends well, or for lack of memory
pub settles_through : (secret : List ℕ) (cap : ℕ) (old new : About) (status : ℕ) (bytes : List ℕ) → Ran (IsSettleText secret cap) NoRefusal old new status → old.left ≡ Some bytes → length bytes ≤ max_input
    → (Rose old.read_faults new.read_faults → ⊥) → (Rose old.write_faults new.write_faults → ⊥)
    → (status ≡ 0) ⊎ (status ≡ 9)
settles_through secret cap old new status bytes r told short no_read no_write =
    elim (runs_through (IsSettleText secret cap) NoRefusal old new status bytes r told short no_read no_write) [
      | inl answer ↦ elim answer [
        | inl z ↦ inl z
        | inr eight ↦ absurd (r.front.of_line.0 eight)
      ]
      | inr nine ↦ inr nine
    ]
