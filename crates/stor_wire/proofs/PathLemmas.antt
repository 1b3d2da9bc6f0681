-- The piece of a path: that it is found exactly where the path is one's.
use Rattle.std.proofs.Common.{lit<, ◌≡◌, ℕ, ◌^◌, List, ◌++◌, length, drop, refl, sym, ◌∙◌, ap, subst, inl, inr, codes, true, Option, Some, None, option_map, option_and_then, IfSome, IfNone}
use Rattle.std.proofs.lemmas.List.{take-append-drop}
use Rattle.std.proofs.lemmas.Option.{same_Some}
use Rattle.std.specs.Cmp.Lexicographic.{same_text}
use Rattle.sat_base.specs.Text.{cut_of, number_up_to, same}
use Rattle.sat_base.specs.declared.ids.SegId.{SegId}
use Rattle.sat_base.proofs.TextLemmas.{cut_back, cut_front, map_some, number_found, number_is, test_some, then_some}
use Rattle.stor_wire.specs.PathSteps.{numbers_of, piece_at, starts, with_index}
use Rattle.stor_wire.specs.Paths.{IsPath}

pub piece_from : (path : List ℕ) (segment : SegId) (index : ℕ) → IsPath path segment index → piece_at path ≡ Some (segment, index)
piece_from path segment index p =
    ap piece_at p.spelled
    ∙ ap (option_and_then numbers_of) (cut_front 47 (lit< tt) p.s p.j p.segment_is.numeral.digits)
    ∙ ap (option_and_then (with_index p.j)) (number_is 18446744073709551615 (2 ^ 64) p.s segment.0 refl p.segment_is)
    ∙ ap (option_map (λ (n : ℕ). (segment, n))) (number_is 255 (2 ^ 8) p.j index refl p.index_is)

starts_is : (text path : List ℕ) → starts text path ≡ true → path ≡ text ++ drop (length text) path
starts_is text path e = sym (take-append-drop (length text) path) ∙ ap (λ l. l ++ drop (length text) path) (same_text _ _ (sym e))

pub piece_found : (path : List ℕ) (piece : SegId × ℕ) → piece_at path ≡ Some piece → IsPath path piece.0 piece.1
piece_found path piece e =
    let P : SegId × ℕ → Type 0 = λ found. IsPath path found.0 found.1 in
    let behind = drop 7 path in
    elim (test_some (starts (codes "/piece/") path) piece (option_and_then numbers_of (cut_of 47 behind)) None e) [
      | inl p ↦
          let parts = then_some numbers_of (cut_of 47 behind) piece p.1 in
          let segment = then_some (with_index parts.0.1) (number_up_to 18446744073709551615 parts.0.0) piece parts.2 in
          let with_segment : ℕ → SegId × ℕ = λ index. (record { 0 = segment.0 }, index) in
          let index = map_some with_segment (number_up_to 255 parts.0.1) piece segment.2 in
          let found : P (with_segment index.0) = record {
            s = parts.0.0;
            j = parts.0.1;
            segment_is = number_found 18446744073709551615 (2 ^ 64) parts.0.0 segment.0 refl segment.1;
            index_is = number_found 255 (2 ^ 8) parts.0.1 index.0 refl index.1;
            spelled = starts_is (codes "/piece/") path p.0 ∙ ap (λ l. codes "/piece/" ++ l) (cut_back 47 behind parts.0 parts.1);
          } in
          subst P index.2 found
      | inr k ↦ let no : Some piece ≡ None = sym k.1 in cc
    ]

pub if_found : (o : Option (SegId × ℕ)) (path : List ℕ) → o ≡ piece_at path → IfSome o (λ piece. IsPath path piece.0 piece.1)
if_found None path e = tt
if_found (Some piece) path e = piece_found path piece (sym e)

not_some : {A : Type 0} (x : A) → Some x ≡ None → ⊥
not_some x e = cc

pub if_none : (o : Option (SegId × ℕ)) (path : List ℕ) → o ≡ piece_at path → IfNone o ((segment : SegId) (index : ℕ) → IsPath path segment index → ⊥)
if_none (Some piece) path e = tt
if_none None path e = λ segment index p. not_some (segment, index) (sym (e ∙ piece_from path segment index p))

-- a path is of one piece at most
pub one_piece : (path : List ℕ) (s t : SegId) (i j : ℕ) → IsPath path s i → IsPath path t j → (s ≡ t) × (i ≡ j)
one_piece path s t i j p q =
    let same = same_Some _ _ (sym (piece_from path s i p) ∙ piece_from path t j q) in
    (ap (λ (piece : SegId × ℕ). piece.0) same, ap (λ (piece : SegId × ℕ). piece.1) same)
