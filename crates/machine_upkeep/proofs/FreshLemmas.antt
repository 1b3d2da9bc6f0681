-- Fresh pieces: how many go to nodes that aren't vetted, and the pairs of indexes and nodes, one after another.
use Rattle.std.proofs.Common.{◌≡◌, ℕ, suc, ◌+◌, ◌-◌, ◌*◌, ◌/◌, ◌<◌, ◌≤◌, Bool, true, false, not, List, [], ◌∷◌, ◌++◌, length, get_or, drop, refl, sym, ap, subst, ◌∙◌, cond, arith, append_assoc}
use Rattle.std.specs.Prelude.{filter}
use Rattle.std.specs.List.{range_with_len}
use Rattle.std.proofs.Math.Nat.{mul-le-mul_left}
use Rattle.std.proofs.Math.Seq.{drop-cons}
use Rattle.std.proofs.lemmas.List.{length_push}
use Rattle.sat_base.specs.declared.ids.NodeId.{NodeId}
use Rattle.sat_base.specs.declared.records.At.{At}
use Rattle.machine_step.specs.Calls.PlanRepair.{has_index, free_indexes, paired}

pub fresh-few : (need fresh : ℕ) → fresh ≤ 100 → need * fresh / 100 ≤ need
fresh-few need fresh le = let product : need * fresh ≤ need * 100 = mul-le-mul_left need le in omega (arith, product)

next-range : (index n : ℕ) → index < n → range_with_len index (n - index) ≡ index ∷ range_with_len (index + 1) (n - (index + 1))
next-range index n lt =
    let more : n - index ≡ suc (n - (index + 1)) = omega arith in
    ap (range_with_len index) more

none-paired : (indexes : List ℕ) → paired indexes [] ≡ []
none-paired [] = refl
none-paired (index ∷ rest) = refl

none-left : {X : Type 0} (xs : List X) (k : ℕ) → k ≡ length xs → drop k xs ≡ []
none-left [] k is = rw is refl
none-left (x ∷ xs) k is = rw is (none-left xs (length xs) refl)

append-none : {X : Type 0} (xs : List X) → xs ++ [] ≡ xs
append-none [] = refl
append-none {X} (x ∷ xs) = ap (λ (ys : List X). x ∷ ys) (append-none xs)

module _ (n : ℕ) (sources : List At) (ids : List NodeId) where
  -- the pairs so far and those of the indexes from this one on are all
  abbrev pub GoOn : ℕ → List At → Type 0
  GoOn index items = items ++ paired (filter (λ i. not (has_index sources i)) (range_with_len index (n - index))) (drop (length items) ids) ≡ paired (free_indexes n sources) ids

  abbrev rest_of : ℕ → List ℕ
  rest_of index = filter (λ i. not (has_index sources i)) (range_with_len index (n - index))

  skips : (index : ℕ) → index < n → has_index sources index ≡ true → rest_of index ≡ rest_of (index + 1)
  skips index lt has =
      ap (filter (λ i. not (has_index sources i))) (next-range index n lt)
      ∙ ap (λ (b : Bool). cond (not b) (index ∷ rest_of (index + 1)) (rest_of (index + 1))) has

  takes : (index : ℕ) → index < n → has_index sources index ≡ false → rest_of index ≡ index ∷ rest_of (index + 1)
  takes index lt has =
      ap (filter (λ i. not (has_index sources i))) (next-range index n lt)
      ∙ ap (λ (b : Bool). cond (not b) (index ∷ rest_of (index + 1)) (rest_of (index + 1))) has

  pub skipped : (index : ℕ) (items : List At) → index < n → has_index sources index ≡ true → GoOn index items → GoOn (index + 1) items
  skipped index items lt has on = ap (λ (rest : List ℕ). items ++ paired rest (drop (length items) ids)) (sym (skips index lt has)) ∙ on

  -- the next node goes to the next free index
  pub placed : (index k : ℕ) (items after : List At) (d : NodeId) → index < n → has_index sources index ≡ false → k ≡ length items → k < length ids → after ≡ items ++ record { index = index; node = get_or ids k d } ∷ []
      → GoOn index items → GoOn (index + 1) after × (length after ≤ length ids)
  placed index k items after d lt has same within is on =
      let pair : At = record { index = index; node = get_or ids k d } in
      let longer : length (items ++ pair ∷ []) ≡ suc k = omega (arith, length_push items pair, same) in
      let nodes : drop k ids ≡ get_or ids k d ∷ drop (suc k) ids = drop-cons ids k d within in
      let so_far : items ++ paired (rest_of index) (drop k ids) ≡ paired (free_indexes n sources) ids = ap (λ (j : ℕ). items ++ paired (rest_of index) (drop j ids)) same ∙ on in
      let all : GoOn (index + 1) (items ++ pair ∷ [])
      = append_assoc items (pair ∷ []) (paired (rest_of (index + 1)) (drop (length (items ++ pair ∷ [])) ids))
      ∙ ap (λ (j : ℕ). items ++ pair ∷ paired (rest_of (index + 1)) (drop j ids)) longer
      ∙ ap (λ (xs : List NodeId). items ++ paired (index ∷ rest_of (index + 1)) xs) (sym nodes)
      ∙ ap (λ (rest : List ℕ). items ++ paired rest (drop k ids)) (sym (takes index lt has))
      ∙ so_far in
      (subst (GoOn (index + 1)) (sym is) all, omega (arith, ap length is, longer))

  pub ended : (index : ℕ) (items : List At) → n ≤ index → GoOn index items → items ≡ paired (free_indexes n sources) ids
  ended index items le on =
      let none : n - index ≡ 0 = omega arith in
      sym (append-none items) ∙ ap (λ (k : ℕ). items ++ paired (filter (λ i. not (has_index sources i)) (range_with_len index k)) (drop (length items) ids)) (sym none) ∙ on

  pub filled : (index : ℕ) (items : List At) → length items ≡ length ids → GoOn index items → items ≡ paired (free_indexes n sources) ids
  filled index items full on =
      sym (append-none items) ∙ ap (λ (xs : List At). items ++ xs) (sym (none-paired (rest_of index))) ∙ ap (λ (xs : List NodeId). items ++ paired (rest_of index) xs) (sym (none-left ids (length items) full)) ∙ on
