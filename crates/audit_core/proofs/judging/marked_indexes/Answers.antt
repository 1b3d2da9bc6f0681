use Rattle.std.proofs.Common.{◌≡◌, ◌+◌, ◌<◌, ◌++◌, ◌∷◌, [], ℕ, List, Bool, true, false, cond, take, length, get_or, ap, sym, ◌∙◌, refl, arith, Vec, Global}
use Rattle.std.specs.Prelude.{map, filter}
use Rattle.std.proofs.lemmas.List.{take_more, map-append, get_or-map, append-nil}
use Rattle.std.proofs.lemmas.List.Elements.{filter-append}
use Rattle.sat_base.specs.declared.items.Share.{Share}
use Rattle.bw_decode.specs.Altered.{indexes_of}
use Rattle.audit_core.proofs.judging.marked_indexes.Goals as goal
use Rattle.audit_core.proofs.judging.marked_indexes.Goals.{then-marks-i+in_ok-push, else-marks-i}

-- the marked ones of one answer more
more : (test : Share → Bool) (answers : List Share) (i : ℕ) (d : Share) (b : Bool) → i < length answers → test (get_or answers i d) ≡ b
    → indexes_of (filter test (take (i + 1) answers)) ≡ indexes_of (filter test (take i answers)) ++ cond b ((get_or answers i d).index ∷ []) []
more test answers i d b within marked =
    rw (take_more answers i d within, filter-append test (take i answers) (get_or answers i d ∷ []), marked)
    (map-append (λ (a : Share). a.index) (filter test (take i answers)) (cond b (get_or answers i d ∷ []) [])
    ∙ ap (λ (xs : List ℕ). indexes_of (filter test (take i answers)) ++ xs) (last b (get_or answers i d)))
  where
    last : (b : Bool) (a : Share) → map (λ (s : Share). s.index) (cond b (a ∷ []) []) ≡ cond b (a.index ∷ []) []
    last true a = refl
    last false a = refl

-- an answer's mark is its test
mark_of : (test : Share → Bool) (answers : List Share) (marks : List Bool) (i : ℕ) (d : Share) (b : Bool) → i < length answers → i < length marks
    → marks ≡ map test answers → get_or marks i false ≡ b → test (get_or answers i d) ≡ b
mark_of test answers marks i d b within marked are is =
    sym (get_or-map test answers i d false within) ∙ sym (ap (λ (ms : List Bool). get_or ms i false) are) ∙ is

pub loop-i-preserved : goal.loop-i-preserved
loop-i-preserved c = λ test marks.
    let answers = c.args.answers.now in
    let i = c.loop-i.i in
    let before = c.loop-i.invariant test marks in
    let within : i < length answers = omega (arith, c.requires, c.loop-i-test.true) in
    elim c.if-marks-i.branch [
      | then-marks-i+in_ok-push w ↦
          let d = w.index-answers-i.result in
          let marked = mark_of test answers c.args.marks.now i d true within c.loop-i-test.true marks w.if-marks-i.true in
          let items : c.if-marks-i.indexes.items ≡ c.loop-i.indexes.items ++ (get_or answers i d).index ∷ []
          = ap (λ (v : Vec ℕ Global). v.items) w.indexes-is ∙ w.in_ok-push.ensures.items in
          items ∙ ap (λ (xs : List ℕ). xs ++ (get_or answers i d).index ∷ []) before ∙ sym (more test answers i d true within marked)
      | else-marks-i w ↦
          let d : Share = record { index = 0; bytes = [] } in
          let marked = mark_of test answers c.args.marks.now i d false within c.loop-i-test.true marks w.if-marks-i.false in
          let items : c.if-marks-i.indexes.items ≡ c.loop-i.indexes.items = ap (λ (v : Vec ℕ Global). v.items) w.indexes-is in
          items ∙ before ∙ sym (append-nil (indexes_of (filter test (take i answers)))) ∙ sym (more test answers i d false within marked)
    ]
