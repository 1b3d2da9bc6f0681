-- From the stripes so far to one more.
use Rattle.std.proofs.Common.{◌≡◌, ℕ, zero, suc, ◌+◌, ◌*◌, ◌<◌, ◌≤◌, ◌==◌, ◌&&◌, ◌||◌, ◌⊎◌, inl, inr, List, [], ◌∷◌, ◌++◌, length, get_or, Bool, true, false, cond, refl, sym, ap, ◌∙◌, subst, arith, append_assoc, slice_index_or}
use Rattle.std.specs.Prelude.{map, filter}
use Rattle.std.specs.List.{concat}
use Rattle.std.proofs.lemmas.Bool.{cases_lt}
use Rattle.std.proofs.lemmas.List.{append-nil, map-append, length_push, get_or_append_left, get_or_push}
use Rattle.std.proofs.lemmas.List.Elements.{filter_agree}
use Rattle.std.proofs.lemmas.List.Folds.{concat-append}
use mathlib.Core.Bool.{or-false}
use Rattle.sat_base.specs.declared.items.Share.{Share}
use Rattle.rs_stripe.specs.Segment.{share_of}
use Rattle.bw_decode.specs.Altered.{is_altered, indexes_of}
use Rattle.repair_core.specs.Answers.{answer_at, answers_at}
use Rattle.repair_core.specs.Indexes.{has_index}
use Rattle.repair_core.specs.Stripes.{IsStripe, IsNoneNear, IsUnclear, AreNear, any_below, is_ever_altered, altered_indexes, longer}
use Rattle.repair_core.specs.Room.{cut_short, IsMended, IsSoFar, AreMended, AreKept}
use Rattle.repair_core.proofs.Marks.{or_assoc}

-- ---- tests below a number
pub any_below_agree : (n : ℕ) (f g : ℕ → Bool) → ((s : ℕ) → s < n → f s ≡ g s) → any_below n f ≡ any_below n g
any_below_agree zero f g same = refl
any_below_agree (suc n) f g same =
    ap (λ b. b || f n) (any_below_agree n f g (λ s h. same s (omega (arith, h))))
    ∙ ap (λ b. any_below n g || b) (same n (omega arith))

-- ---- which pieces are altered
ever_more : (k size count : ℕ) (stripes : List (List ℕ)) (stripe : List ℕ) (piece : Share)
    → is_ever_altered k size count (stripes ++ stripe ∷ []) piece
    ≡ (is_ever_altered k size count stripes piece || is_altered k size stripe (answer_at size count (length stripes) piece))
ever_more k size count stripes stripe piece =
    let test : ℕ → Bool = λ s. is_altered k size (get_or (stripes ++ stripe ∷ []) s []) (answer_at size count s piece) in
    let long : length (stripes ++ stripe ∷ []) ≡ suc (length stripes) = omega (arith, length_push stripes stripe) in
    ap (λ n. any_below n test) long
    ∙ ap (λ b. b || test (length stripes)) (any_below_agree (length stripes) test (λ s. is_altered k size (get_or stripes s []) (answer_at size count s piece))
    (λ s h. ap (λ (x : List ℕ). is_altered k size x (answer_at size count s piece)) (get_or_append_left stripes (stripe ∷ []) [] s h)))
    ∙ ap (λ (x : List ℕ). is_ever_altered k size count stripes piece || is_altered k size x (answer_at size count (length stripes) piece))
    (get_or_push stripes stripe [] (length stripes) refl)

has_filter-cons : (test : Share → Bool) (x : Share) (xs : List Share) (index : ℕ)
    → has_index (indexes_of (filter test (x ∷ xs))) index
    ≡ ((test x && (x.index == index)) || has_index (indexes_of (filter test xs)) index)
has_filter-cons test x xs index = go (test x)
  where
    go : (b : Bool) → has_index (indexes_of (cond b (x ∷ filter test xs) (filter test xs))) index
        ≡ ((b && (x.index == index)) || has_index (indexes_of (filter test xs)) index)
    go true = refl
    go false = refl

mixed : (a b e f g : Bool) → (((a || b) && e) || (f || g)) ≡ (((a && e) || f) || ((b && e) || g))
mixed true true true f g = refl
mixed true true false f g = refl
mixed true false true f g = refl
mixed true false false f g = refl
mixed false true true true g = refl
mixed false true true false g = refl
mixed false true false f g = refl
mixed false false true f g = refl
mixed false false false f g = refl

pub has_either : (f g : Share → Bool) (xs : List Share) (index : ℕ)
    → has_index (indexes_of (filter (λ x. f x || g x) xs)) index
    ≡ (has_index (indexes_of (filter f xs)) index || has_index (indexes_of (filter g xs)) index)
has_either f g [] index = refl
has_either f g (x ∷ xs) index =
    has_filter-cons (λ y. f y || g y) x xs index
    ∙ ap (λ b. ((f x || g x) && (x.index == index)) || b) (has_either f g xs index)
    ∙ mixed (f x) (g x) (x.index == index) (has_index (indexes_of (filter f xs)) index) (has_index (indexes_of (filter g xs)) index)
    ∙ ap (λ b. b || ((g x && (x.index == index)) || has_index (indexes_of (filter g xs)) index)) (sym (has_filter-cons f x xs index))
    ∙ ap (λ b. has_index (indexes_of (filter f (x ∷ xs))) index || b) (sym (has_filter-cons g x xs index))

filter_answers : (test : Share → Bool) (size count s : ℕ) (xs : List Share)
    → indexes_of (filter test (answers_at size count s xs)) ≡ indexes_of (filter (λ x. test (answer_at size count s x)) xs)
filter_answers test size count s [] = refl
filter_answers test size count s (x ∷ xs) =
    elim (test (answer_at size count s x)) as (λ b. indexes_of (cond b (answer_at size count s x ∷ filter test (answers_at size count s xs)) (filter test (answers_at size count s xs)))
    ≡ indexes_of (cond b (x ∷ filter (λ y. test (answer_at size count s y)) xs) (filter (λ y. test (answer_at size count s y)) xs))) [
      | true ↦ ap (λ (rest : List ℕ). x.index ∷ rest) (filter_answers test size count s xs)
      | false ↦ filter_answers test size count s xs
    ]

altered_more : (k size count : ℕ) (stripes : List (List ℕ)) (stripe : List ℕ) (pieces : List Share) (index : ℕ)
    → has_index (altered_indexes k size count (stripes ++ stripe ∷ []) pieces) index
    ≡ (has_index (altered_indexes k size count stripes pieces) index
    || has_index (indexes_of (filter (is_altered k size stripe) (answers_at size count (length stripes) pieces))) index)
altered_more k size count stripes stripe pieces index =
    let before : Share → Bool = is_ever_altered k size count stripes in
    let now : Share → Bool = λ piece. is_altered k size stripe (answer_at size count (length stripes) piece) in
    ap (λ (xs : List Share). has_index (indexes_of xs) index)
    (filter_agree (is_ever_altered k size count (stripes ++ stripe ∷ [])) (λ piece. before piece || now piece) (ever_more k size count stripes stripe) pieces)
    ∙ has_either before now pieces index
    ∙ ap (λ (xs : List ℕ). has_index (altered_indexes k size count stripes pieces) index || has_index xs index)
    (sym (filter_answers (is_altered k size stripe) size count (length stripes) pieces))

pub filter_nothing : (xs : List Share) → filter (λ x. false) xs ≡ []
filter_nothing [] = refl
filter_nothing (x ∷ xs) = filter_nothing xs

-- ---- pieces that grow
pub longer_twice : (k size : ℕ) (xs ys : List (List ℕ)) (pieces : List Share)
    → map (longer k size ys) (map (longer k size xs) pieces) ≡ map (longer k size (xs ++ ys)) pieces
longer_twice k size xs ys [] = refl
longer_twice k size xs ys (p ∷ ps) =
    let share : List ℕ → List ℕ = λ stripe. share_of k size stripe p.index in
    let bytes : (p.bytes ++ concat (map share xs)) ++ concat (map share ys) ≡ p.bytes ++ concat (map share (xs ++ ys))
    = append_assoc p.bytes (concat (map share xs)) (concat (map share ys))
    ∙ ap (λ (zs : List ℕ). p.bytes ++ zs) (sym (ap concat (map-append share xs ys) ∙ concat-append (map share xs) (map share ys))) in
    ap (λ (zs : List ℕ). (let q : Share = record { index = p.index; bytes = zs } in q) ∷ map (longer k size ys) (map (longer k size xs) ps)) bytes
    ∙ ap (λ (qs : List Share). longer k size (xs ++ ys) p ∷ qs) (longer_twice k size xs ys ps)

pub longer_nothing : (k size : ℕ) (pieces : List Share) → map (longer k size []) pieces ≡ pieces
longer_nothing k size [] = refl
longer_nothing k size (p ∷ ps) =
    ap (λ (zs : List ℕ). (let q : Share = record { index = p.index; bytes = zs } in q) ∷ map (longer k size []) ps) (append-nil p.bytes)
    ∙ ap (λ (qs : List Share). p ∷ qs) (longer_nothing k size ps)

-- ---- the stripes so far
pub so_far_none : (k size count : ℕ) (pieces : List Share) (done : ℕ) (marks : List Bool) (fresh : List Share)
    → IsSoFar k size count pieces done marks fresh [] marks fresh
so_far_none k size count pieces done marks fresh =
    let none : altered_indexes k size count [] pieces ≡ [] = ap (λ (xs : List Share). indexes_of xs) (filter_nothing pieces) in
    let same : (done + 0) * size ≡ done * size = omega arith in
    record {
      near = λ s h. absurd (omega (arith, h));
      marks_are = λ index. sym (ap (λ (xs : List ℕ). slice_index_or marks index false || has_index xs index) none ∙ or-false (slice_index_or marks index false));
      fresh_are = ap (λ len. map (cut_short len) fresh) same ∙ sym (longer_nothing k size (map (cut_short (done * size)) fresh));
    }

near_more : (k size count : ℕ) (pieces : List Share) (stripes : List (List ℕ)) (stripe : List ℕ)
    → AreNear k size count pieces stripes → IsStripe k size (answers_at size count (length stripes) pieces) stripe
    → AreNear k size count pieces (stripes ++ stripe ∷ [])
near_more k size count pieces stripes stripe near next s h = go (cases_lt s (length stripes))
  where
    go : (s < length stripes) ⊎ (length stripes ≤ s) → IsStripe k size (answers_at size count s pieces) (slice_index_or (stripes ++ stripe ∷ []) s [])
    go (inl l) =
        subst (λ (x : List ℕ). IsStripe k size (answers_at size count s pieces) x) (sym (get_or_append_left stripes (stripe ∷ []) [] s l)) (near s l)
    go (inr l) =
        let at : length stripes ≡ s = omega (arith, l, h, length_push stripes stripe) in
        subst (λ (x : List ℕ). IsStripe k size (answers_at size count s pieces) x) (sym (get_or_push stripes stripe [] s at))
        (subst (λ n. IsStripe k size (answers_at size count n pieces) stripe) at next)

pub so_far_more : (k size count : ℕ) (pieces : List Share) (done : ℕ) (marks : List Bool) (fresh : List Share) (stripes : List (List ℕ)) (mid_marks : List Bool) (mid_fresh : List Share)
    (at : ℕ) (stripe : List ℕ) (new_marks : List Bool) (new_fresh : List Share)
    → IsSoFar k size count pieces done marks fresh stripes mid_marks mid_fresh → at ≡ done + length stripes
    → IsMended k size (answers_at size count (length stripes) pieces) at mid_marks mid_fresh stripe new_marks new_fresh
    → IsSoFar k size count pieces done marks fresh (stripes ++ stripe ∷ []) new_marks new_fresh
so_far_more k size count pieces done marks fresh stripes mid_marks mid_fresh at stripe new_marks new_fresh before is mended =
    let ends : (done + length (stripes ++ stripe ∷ [])) * size ≡ (at + 1) * size
    = ap (λ n. n * size) (omega (arith, length_push stripes stripe, is)) in
    let starts : at * size ≡ (done + length stripes) * size = ap (λ n. n * size) is in
    record {
      near = near_more k size count pieces stripes stripe before.near mended.near;
      marks_are = λ index. mended.marks_are index
          ∙ ap (λ b. b || has_index (indexes_of (filter (is_altered k size stripe) (answers_at size count (length stripes) pieces))) index) (before.marks_are index)
          ∙ or_assoc (slice_index_or marks index false) (has_index (altered_indexes k size count stripes pieces) index) (has_index (indexes_of (filter (is_altered k size stripe) (answers_at size count (length stripes) pieces))) index)
          ∙ ap (λ b. slice_index_or marks index false || b) (sym (altered_more k size count stripes stripe pieces index));
      fresh_are = ap (λ len. map (cut_short len) new_fresh) ends ∙ mended.fresh_are
          ∙ ap (λ len. map (longer k size (stripe ∷ [])) (map (cut_short len) mid_fresh)) starts
          ∙ ap (map (longer k size (stripe ∷ []))) before.fresh_are
          ∙ longer_twice k size stripes (stripe ∷ []) (map (cut_short (done * size)) fresh);
    }

pub mended_none : (k size count : ℕ) (pieces : List Share) (done : ℕ) (marks : List Bool) (fresh : List Share)
    → AreMended k size count pieces 0 done marks fresh marks fresh
mended_none k size count pieces done marks fresh = record {
  stripes = [];
  as_many = refl;
  so_far = so_far_none k size count pieces done marks fresh;
}

pub mended_more : (k size count : ℕ) (pieces : List Share) (s done : ℕ) (marks : List Bool) (fresh : List Share) (mid_marks : List Bool) (mid_fresh : List Share)
    (at : ℕ) (stripe : List ℕ) (new_marks : List Bool) (new_fresh : List Share)
    → AreMended k size count pieces s done marks fresh mid_marks mid_fresh → at ≡ done + s
    → IsMended k size (answers_at size count s pieces) at mid_marks mid_fresh stripe new_marks new_fresh
    → AreMended k size count pieces (s + 1) done marks fresh new_marks new_fresh
mended_more k size count pieces s done marks fresh mid_marks mid_fresh at stripe new_marks new_fresh before is mended = record {
  stripes = before.stripes ++ stripe ∷ [];
  as_many = length_push before.stripes stripe ∙ ap (λ n. n + 1) before.as_many;
  so_far = so_far_more k size count pieces done marks fresh before.stripes mid_marks mid_fresh at stripe new_marks new_fresh before.so_far
      (omega (arith, is, before.as_many))
      (subst (λ n. IsMended k size (answers_at size count n pieces) at mid_marks mid_fresh stripe new_marks new_fresh) (sym before.as_many) mended);
}

-- the first stripe that none is near comes behind those that some are
pub first_unclear : (k size count : ℕ) (pieces : List Share) (s : ℕ) (stripes : List (List ℕ)) → s < count → length stripes ≡ s
    → AreNear k size count pieces stripes → IsNoneNear k size (answers_at size count s pieces) → IsUnclear k size count pieces s
first_unclear k size count pieces s stripes within as_many near none = record {
  within = within;
  none = none;
  earlier = λ t h. (slice_index_or stripes t [], (near t (omega (arith, as_many, h))).near);
}

-- ---- their bytes
pub kept_none : (k size count : ℕ) (pieces : List Share) (done : ℕ) (marks : List Bool) (fresh : List Share) (bytes : List ℕ) → bytes ≡ []
    → AreKept k size count pieces 0 done marks fresh marks fresh bytes
unfolding mended_none
kept_none k size count pieces done marks fresh bytes e = record {
  mended = mended_none k size count pieces done marks fresh;
  bytes_are = e;
}

pub kept_more : (k size count : ℕ) (pieces : List Share) (s done : ℕ) (marks : List Bool) (fresh : List Share) (mid_marks : List Bool) (mid_fresh : List Share) (bytes : List ℕ)
    (at : ℕ) (stripe : List ℕ) (new_marks : List Bool) (new_fresh : List Share) (new_bytes : List ℕ)
    → AreKept k size count pieces s done marks fresh mid_marks mid_fresh bytes → at ≡ done + s
    → IsMended k size (answers_at size count s pieces) at mid_marks mid_fresh stripe new_marks new_fresh
    → new_bytes ≡ bytes ++ stripe
    → AreKept k size count pieces (s + 1) done marks fresh new_marks new_fresh new_bytes
unfolding mended_more
kept_more k size count pieces s done marks fresh mid_marks mid_fresh bytes at stripe new_marks new_fresh new_bytes before is mended e = record {
  mended = mended_more k size count pieces s done marks fresh mid_marks mid_fresh at stripe new_marks new_fresh before.mended is mended;
  bytes_are = e ∙ ap (λ (xs : List ℕ). xs ++ stripe) before.bytes_are
      ∙ sym (concat-append before.mended.stripes (stripe ∷ []) ∙ ap (λ (xs : List ℕ). concat before.mended.stripes ++ xs) (append-nil stripe));
}
