-- The start of a rebuilding in windows, and a window.
use Rattle.std.proofs.Common.{◌≡◌, ℕ, ◌+◌, ◌*◌, List, [], ◌∷◌, length, replicate, Bool, false, refl, sym, ap, ◌∙◌, subst, arith, slice_index_or}
use Rattle.std.specs.Prelude.{map}
use Rattle.std.proofs.Math.Nat.{zero-mul}
use Rattle.sat_base.specs.declared.items.Share.{Share}
use Rattle.bw_decode.specs.Altered.{indexes_of}
use Rattle.repair_core.specs.Stripes.{AreNear, altered_indexes}
use Rattle.repair_core.specs.Room.{cut_short, marked_of, AreMended}
use Rattle.repair_core.specs.Progress.{Progress}
use Rattle.repair_core.specs.Windows.{empty_piece, start_of, next_stripes, after, IsWindow}
use Rattle.repair_core.proofs.Marks.{unmarked}
use Rattle.repair_core.proofs.Rising.{joined_is}
use Rattle.repair_core.proofs.Whole.{cut_nothing}

-- what is seen of these parts
abbrev pub seen : (k size n window count : ℕ) (sources : List ℕ) (done : ℕ) (marks : List Bool) (fresh : List Share) → Progress
seen k size n window count sources done marks fresh = record {
  k = k;
  size = size;
  n = n;
  window = window;
  count = count;
  sources = sources;
  done = done;
  blamed = marked_of marks sources;
  fresh = map (cut_short (done * size)) fresh;
}

none_marked : (marks : List Bool) → ((index : ℕ) → slice_index_or marks index false ≡ false) → (xs : List ℕ) → marked_of marks xs ≡ []
none_marked marks none [] = refl
none_marked marks none (x ∷ xs) = rw (none x) (none_marked marks none xs)

pub starts : (k size n window count : ℕ) (targets : List ℕ) (whole done : ℕ) (own sources : List ℕ) (marks : List Bool) (fresh : List Share)
    → whole ≡ count → done ≡ 0 → own ≡ sources → marks ≡ replicate 256 false → indexes_of fresh ≡ targets
    → seen k size n window whole own done marks fresh ≡ start_of k size n window count sources targets
starts k size n window count targets whole done own sources marks fresh whole_is done_is own_is unset are =
    let blamed : marked_of marks sources ≡ [] = none_marked marks (unmarked 256 marks unset) sources in
    let pieces : map (cut_short (0 * size)) fresh ≡ map empty_piece targets
    = ap (λ n. map (cut_short n) fresh) (zero-mul size) ∙ cut_nothing fresh ∙ ap (map empty_piece) are in
    ap (λ m. seen k size n window m own done marks fresh) whole_is
    ∙ ap (λ m. seen k size n window count own m marks fresh) done_is
    ∙ ap (λ (xs : List ℕ). seen k size n window count xs 0 marks fresh) own_is
    ∙ ap (λ (xs : List ℕ). let q : Progress = record (seen k size n window count sources 0 marks fresh) { blamed = xs } in q) blamed
    ∙ ap (λ (ps : List Share). let q : Progress = record (start_of k size n window count sources targets) { fresh = ps } in q) pieces

pub window_is : (k size n window count : ℕ) (sources : List ℕ) (done : ℕ) (marks : List Bool) (fresh : List Share) (shares : List Share)
    (number new_count new_done : ℕ) (new_marks : List Bool) (new_fresh : List Share)
    → number ≡ next_stripes (seen k size n window count sources done marks fresh)
    → AreMended k size number shares number done marks fresh new_marks new_fresh
    → new_count ≡ count → new_done ≡ done + number
    → IsWindow (seen k size n window count sources done marks fresh) shares (seen k size n window new_count sources new_done new_marks new_fresh)
window_is k size n window count sources done marks fresh shares number new_count new_done new_marks new_fresh next mended count_is done_is =
    let stripes = mended.stripes in
    let so_far = mended.so_far in
    let here : new_done ≡ done + length stripes = omega (arith, done_is, mended.as_many) in
    let found : altered_indexes k size number stripes shares ≡ altered_indexes k size (length stripes) stripes shares
    = ap (λ m. altered_indexes k size m stripes shares) (sym mended.as_many) in
    let blamed = joined_is (λ index. slice_index_or marks index false) (λ index. slice_index_or new_marks index false) (altered_indexes k size number stripes shares) sources so_far.marks_are in
    record {
      stripes = stripes;
      number = mended.as_many ∙ next;
      near = subst (λ m. AreNear k size m shares stripes) (sym mended.as_many) so_far.near;
      is_after =
          ap (λ m. seen k size n window m sources new_done new_marks new_fresh) count_is
          ∙ ap (λ m. seen k size n window count sources m new_marks new_fresh) here
          ∙ ap (λ (xs : List ℕ). let q : Progress = record (seen k size n window count sources (done + length stripes) new_marks new_fresh) { blamed = xs } in q) (blamed ∙ rw found refl)
          ∙ ap (λ (ps : List Share). let q : Progress = record (after (seen k size n window count sources done marks fresh) shares stripes) { fresh = ps } in q) so_far.fresh_are;
    }
