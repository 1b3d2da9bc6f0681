-- One piece put among others by index.
use Rattle.std.proofs.Common.{◌≡◌, ℕ, suc, ◌+◌, ◌<◌, Bool, true, false, cond, List, [], ◌∷◌, ◌++◌, length, get_or, set, take, drop, sym, ap, ◌∙◌, arith}
use Rattle.std.specs.Prelude.{filter, fold}
use Rattle.std.proofs.lemmas.Bool.Decides.{nat_tests}
use Rattle.std.proofs.lemmas.List.{drop_more, set_split}
use Rattle.std.proofs.lemmas.List.Elements.{filter_more}
use Rattle.std.proofs.lemmas.List.Sums.{fold-append}
use Rattle.sat_base.specs.declared.records.At.{At}
use Rattle.machine_step.specs.Mending.{with_piece}

module _ (pieces : List At) (piece : At) where
  -- the pieces before a place stay where they are
  abbrev pub GoOn : ℕ → Type 0
  GoOn i = with_piece pieces piece ≡ take i pieces ++ with_piece (drop i pieces) piece

  at_same : (x : At) (rest : List At) → x.index ≡ piece.index → with_piece (x ∷ rest) piece ≡ piece ∷ rest
  at_same x rest same = grind (arith, nat_tests, same)

  pub replaced : (i : ℕ) (d : At) → i < length pieces → (get_or pieces i d).index ≡ piece.index → GoOn i → set pieces i piece ≡ with_piece pieces piece
  replaced i d within same on =
      let x = get_or pieces i d in
      let next_is : suc i ≡ i + 1 = omega arith in
      set_split pieces i piece within
      ∙ ap (λ (k : ℕ). take i pieces ++ piece ∷ drop k pieces) next_is
      ∙ sym (on ∙ ap (λ (xs : List At). take i pieces ++ with_piece xs piece) (drop_more pieces i d within)
      ∙ ap (λ (xs : List At). take i pieces ++ xs) (at_same x (drop (i + 1) pieces) same))

-- one target more, which is put if it was placed
module _ (test : At → Bool) (targets slice kept pieces : List At) (i : ℕ) (d : At) (same : slice ≡ targets) (within : i < length slice) (so_far : pieces ≡ fold with_piece kept (filter test (take i targets))) where
  put-more : fold with_piece pieces (cond (test (get_or slice i d)) (get_or slice i d ∷ []) []) ≡ fold with_piece kept (filter test (take (i + 1) targets))
  put-more =
      let x = get_or slice i d in
      let before : pieces ≡ fold with_piece kept (filter test (take i slice)) = so_far ∙ ap (λ (ts : List At). fold with_piece kept (filter test (take i ts))) (sym same) in
      ap (λ (ps : List At). fold with_piece ps (cond (test x) (x ∷ []) [])) before
      ∙ sym (ap (fold with_piece kept) (filter_more test slice i d within) ∙ fold-append with_piece kept (filter test (take i slice)) (cond (test x) (x ∷ []) []))
      ∙ ap (λ (ts : List At). fold with_piece kept (filter test (take (i + 1) ts))) same

  pub put-placed : test (get_or slice i d) ≡ true → with_piece pieces (get_or slice i d) ≡ fold with_piece kept (filter test (take (i + 1) targets))
  put-placed is = sym (ap (λ (b : Bool). fold with_piece pieces (cond b (get_or slice i d ∷ []) [])) is) ∙ put-more

  pub put-unplaced : test (get_or slice i d) ≡ false → pieces ≡ fold with_piece kept (filter test (take (i + 1) targets))
  put-unplaced is = sym (ap (λ (b : Bool). fold with_piece pieces (cond b (get_or slice i d ∷ []) [])) is) ∙ put-more
