-- Windows that are cut from whole pieces.
use Rattle.std.proofs.Common.{◌≡◌, ℕ, zero, suc, ◌+◌, ◌-◌, ◌*◌, ◌<◌, ◌≤◌, ◌||◌, ◌⊎◌, inl, inr, min, List, [], ◌∷◌, ◌++◌, length, get_or, take, drop, Bool, true, false, cond, refl, sym, ap, ◌∙◌, subst, arith, eq-eqb, slice_index_or, length-append}
use Rattle.std.specs.Prelude.{All, map, filter}
use Rattle.std.proofs.Math.Nat.{mul-le-mul_right}
use Rattle.std.proofs.lemmas.Bool.{cases_lt}
use Rattle.std.proofs.lemmas.List.{length-take-le, length-drop, drop-take, take-take, drop-drop, get_or_append_left, get_or-append-add}
use Rattle.std.proofs.lemmas.List.Elements.{All-head, All-tail, All-take, All-drop}
use Rattle.std.proofs.lemmas.List.FromFn.{fill_by_all}
use mathlib.Core.Bool.{or-false}
use Rattle.sat_base.specs.declared.items.Share.{Share}
use Rattle.rs_stripe.specs.Segment.{run}
use Rattle.bw_decode.specs.Altered.{is_altered, indexes_of}
use Rattle.bw_decode.specs.Near.{Rises}
use Rattle.bw_decode.proofs.NearStripes.{one_near}
use Rattle.repair_core.specs.Answers.{answer_bytes, answer_at, answers_at}
use Rattle.repair_core.specs.Indexes.{has_index}
use Rattle.repair_core.specs.Stripes.{IsStripe, HasNear, IsNoneNear, IsUnclear, AreNear, any_below, is_ever_altered, altered_indexes, longer}
use Rattle.repair_core.specs.Rebuilt.{IsRebuilt, stripes_of}
use Rattle.repair_core.specs.Progress.{Progress}
use Rattle.repair_core.specs.Windows.{empty_piece, start_of, next_stripes, after, cut_of, window_of, IsWindow, IsUnclearWindow, Reaches, AreWhole, IsUnderWay}
use Rattle.repair_core.proofs.Marks.{or_assoc}
use Rattle.repair_core.proofs.Mending.{indexes_of-answers_at}
use Rattle.repair_core.proofs.Steps.{any_below_agree, has_either, filter_nothing, longer_twice, longer_nothing}
use Rattle.repair_core.proofs.Rising.{filter_agree_on, joined_is, kept_are, all_filtered, rises_filtered, all_below}
use Rattle.repair_core.proofs.Whole.{grown_whole}

-- ---- what a cut piece answers
cut_bytes : (size count from number i : ℕ) (bytes : List ℕ) → length bytes ≡ count * size → from + number ≤ count → i < number
    → answer_bytes size number i (take (number * size) (drop (from * size) bytes)) ≡ answer_bytes size count (from + i) bytes
cut_bytes size count from number i bytes long fits within =
    let whole : (from + number) * size ≤ count * size = mul-le-mul_right size fits in
    let part : (i + 1) * size ≤ number * size = mul-le-mul_right size (omega (arith, within)) in
    let rest : ℕ = number * size - i * size in
    let split : number * size ≡ i * size + rest = omega (arith, part) in
    let enough : size ≤ rest = omega (arith, part) in
    let cut : length (take (number * size) (drop (from * size) bytes)) ≡ number * size
    = length-take-le (number * size) (drop (from * size) bytes) (omega (arith, length-drop (from * size) bytes, long, whole)) in
    let at : from * size + i * size ≡ (from + i) * size = omega arith in
    ap (λ b. cond b (run size (take (number * size) (drop (from * size) bytes)) i) []) (eq-eqb _ _ cut)
    ∙ ap (λ m. take size (drop (i * size) (take m (drop (from * size) bytes)))) split
    ∙ ap (λ (zs : List ℕ). take size zs) (drop-take (i * size) rest (drop (from * size) bytes))
    ∙ take-take size rest (drop (i * size) (drop (from * size) bytes)) enough
    ∙ ap (λ (zs : List ℕ). take size zs) (drop-drop (i * size) (from * size) bytes ∙ ap (λ m. drop m bytes) at)
    ∙ sym (ap (λ b. cond b (run size bytes (from + i)) []) (eq-eqb (length bytes) (count * size) long))

cut_answer : (size count from number i : ℕ) (piece : Share) → length piece.bytes ≡ count * size → from + number ≤ count → i < number
    → answer_at size number i (cut_of size from number piece) ≡ answer_at size count (from + i) piece
cut_answer size count from number i piece long fits within =
    ap (λ (zs : List ℕ). let q : Share = record { index = piece.index; bytes = zs } in q) (cut_bytes size count from number i piece.bytes long fits within)

pub cut_answers : (size count from number i : ℕ) (pieces : List Share) → All (λ piece. length piece.bytes ≡ count * size) pieces → from + number ≤ count → i < number
    → answers_at size number i (map (cut_of size from number) pieces) ≡ answers_at size count (from + i) pieces
cut_answers size count from number i [] long fits within = refl
cut_answers size count from number i (p ∷ ps) long fits within =
    let P : Share → Type 0 = λ piece. length piece.bytes ≡ count * size in
    ap (λ (q : Share). q ∷ answers_at size number i (map (cut_of size from number) ps)) (cut_answer size count from number i p (All-head P p ps long) fits within)
    ∙ ap (λ (qs : List Share). answer_at size count (from + i) p ∷ qs) (cut_answers size count from number i ps (All-tail P p ps long) fits within)

-- ---- which pieces are altered
any_below_split : (m n : ℕ) (f : ℕ → Bool) → any_below (m + n) f ≡ (any_below m f || any_below n (λ i. f (m + i)))
any_below_split m zero f = let none : m + 0 ≡ m = omega arith in ap (λ k. any_below k f) none ∙ sym (or-false (any_below m f))
any_below_split m (suc n) f =
    let next : m + suc n ≡ suc (m + n) = omega arith in
    ap (λ k. any_below k f) next
    ∙ ap (λ b. b || f (m + n)) (any_below_split m n f)
    ∙ or_assoc (any_below m f) (any_below n (λ i. f (m + i))) (f (m + n))

ever_split : (k size count : ℕ) (xs ys : List (List ℕ)) (piece : Share) → length piece.bytes ≡ count * size → length xs + length ys ≤ count
    → is_ever_altered k size count (xs ++ ys) piece
    ≡ (is_ever_altered k size count xs piece || is_ever_altered k size (length ys) ys (cut_of size (length xs) (length ys) piece))
ever_split k size count xs ys piece long fits =
    let test : ℕ → Bool = λ s. is_altered k size (get_or (xs ++ ys) s []) (answer_at size count s piece) in
    let front : ℕ → Bool = λ s. is_altered k size (get_or xs s []) (answer_at size count s piece) in
    let back : ℕ → Bool = λ i. is_altered k size (get_or ys i []) (answer_at size (length ys) i (cut_of size (length xs) (length ys) piece)) in
    ap (λ n. any_below n test) (length-append xs ys)
    ∙ any_below_split (length xs) (length ys) test
    ∙ ap (λ b. b || any_below (length ys) (λ i. test (length xs + i)))
    (any_below_agree (length xs) test front (λ s h. ap (λ (z : List ℕ). is_altered k size z (answer_at size count s piece)) (get_or_append_left xs ys [] s h)))
    ∙ ap (λ b. any_below (length xs) front || b)
    (any_below_agree (length ys) (λ i. test (length xs + i)) back
    (λ i h. ap (λ (z : List ℕ). is_altered k size z (answer_at size count (length xs + i) piece)) (get_or-append-add xs ys i [])
    ∙ ap (λ (q : Share). is_altered k size (get_or ys i []) q) (sym (cut_answer size count (length xs) (length ys) i piece long fits h))))

filter_cut : (test : Share → Bool) (size from number : ℕ) (xs : List Share)
    → indexes_of (filter test (map (cut_of size from number) xs)) ≡ indexes_of (filter (λ x. test (cut_of size from number x)) xs)
filter_cut test size from number [] = refl
filter_cut test size from number (x ∷ xs) =
    elim (test (cut_of size from number x)) as (λ b. indexes_of (cond b (cut_of size from number x ∷ filter test (map (cut_of size from number) xs)) (filter test (map (cut_of size from number) xs)))
    ≡ indexes_of (cond b (x ∷ filter (λ y. test (cut_of size from number y)) xs) (filter (λ y. test (cut_of size from number y)) xs))) [
      | true ↦ ap (λ (rest : List ℕ). x.index ∷ rest) (filter_cut test size from number xs)
      | false ↦ filter_cut test size from number xs
    ]

altered_split : (k size count : ℕ) (xs ys : List (List ℕ)) (pieces : List Share) → All (λ piece. length piece.bytes ≡ count * size) pieces → length xs + length ys ≤ count
    → (index : ℕ) → has_index (altered_indexes k size count (xs ++ ys) pieces) index
    ≡ (has_index (altered_indexes k size count xs pieces) index
    || has_index (altered_indexes k size (length ys) ys (map (cut_of size (length xs) (length ys)) pieces)) index)
altered_split k size count xs ys pieces long fits index =
    let before : Share → Bool = is_ever_altered k size count xs in
    let now : Share → Bool = λ piece. is_ever_altered k size (length ys) ys (cut_of size (length xs) (length ys) piece) in
    ap (λ (qs : List Share). has_index (indexes_of qs) index)
    (filter_agree_on (is_ever_altered k size count (xs ++ ys)) (λ piece. before piece || now piece) pieces
    (λ i d h. ever_split k size count xs ys (get_or pieces i d) (long i d h) fits))
    ∙ has_either before now pieces index
    ∙ ap (λ (zs : List ℕ). has_index (altered_indexes k size count xs pieces) index || has_index zs index)
    (sym (filter_cut (is_ever_altered k size (length ys) ys) size (length xs) (length ys) pieces))

-- ---- the value when these stripes are finished
abbrev reached_by : (k size n window count : ℕ) → (sources targets : List ℕ) → List Share → List (List ℕ) → Progress
reached_by k size n window count sources targets pieces stripes = record {
  k = k;
  size = size;
  n = n;
  window = window;
  count = count;
  sources = sources;
  done = length stripes;
  blamed = filter (has_index (altered_indexes k size count stripes pieces)) sources;
  fresh = map (longer k size stripes) (map empty_piece targets);
}

record IsReached (k size n window count : ℕ) (sources targets : List ℕ) (pieces : List Share) (now : Progress) : Type 0 where
  stripes : List (List ℕ)
  within : length stripes ≤ count
  near : AreNear k size count pieces stripes
  is : now ≡ reached_by k size n window count sources targets pieces stripes

filter_none : (xs : List ℕ) → filter (has_index []) xs ≡ []
filter_none [] = refl
filter_none (x ∷ xs) = filter_none xs

reached_start : (k size n window count : ℕ) (sources targets : List ℕ) (pieces : List Share)
    → IsReached k size n window count sources targets pieces (start_of k size n window count sources targets)
reached_start k size n window count sources targets pieces =
    let none : altered_indexes k size count [] pieces ≡ [] = ap (λ (xs : List Share). indexes_of xs) (filter_nothing pieces) in
    let blamed : filter (has_index (altered_indexes k size count [] pieces)) sources ≡ []
    = ap (λ (xs : List ℕ). filter (has_index xs) sources) none ∙ filter_none sources in
    record {
      stripes = [];
      within = omega arith;
      near = λ s h. absurd (omega (arith, h));
      is =
          ap (λ (xs : List ℕ). let q : Progress = record (start_of k size n window count sources targets) { blamed = xs } in q) (sym blamed)
          ∙ ap (λ (ps : List Share). let q : Progress = record (reached_by k size n window count sources targets pieces []) { fresh = ps } in q) (sym (longer_nothing k size (map empty_piece targets)));
    }

near_joined : (k size count : ℕ) (pieces : List Share) (xs ys : List (List ℕ)) → All (λ piece. length piece.bytes ≡ count * size) pieces → length xs + length ys ≤ count
    → AreNear k size count pieces xs → AreNear k size (length ys) (map (cut_of size (length xs) (length ys)) pieces) ys
    → AreNear k size count pieces (xs ++ ys)
near_joined k size count pieces xs ys long fits near next s h = go (cases_lt s (length xs))
  where
    go : (s < length xs) ⊎ (length xs ≤ s) → IsStripe k size (answers_at size count s pieces) (slice_index_or (xs ++ ys) s [])
    go (inl l) = subst (λ (z : List ℕ). IsStripe k size (answers_at size count s pieces) z) (sym (get_or_append_left xs ys [] s l)) (near s l)
    go (inr l) =
        let i : ℕ = s - length xs in
        let at : length xs + i ≡ s = omega (arith, l) in
        let within : i < length ys = omega (arith, h, l, length-append xs ys) in
        subst (λ m. IsStripe k size (answers_at size count m pieces) (slice_index_or (xs ++ ys) m [])) at
        (subst (λ (z : List ℕ). IsStripe k size (answers_at size count (length xs + i) pieces) z) (sym (get_or-append-add xs ys i []))
        (subst (λ (qs : List Share). IsStripe k size qs (slice_index_or ys i [])) (cut_answers size count (length xs) (length ys) i pieces long fits within) (next i within)))

reached_more : (k size n window count : ℕ) (sources targets : List ℕ) (pieces : List Share) → All (λ piece. length piece.bytes ≡ count * size) pieces
    → (xs ys : List (List ℕ)) → AreNear k size count pieces xs → length xs < count
    → length ys ≡ min window (count - length xs)
    → AreNear k size (length ys) (map (cut_of size (length xs) (min window (count - length xs))) pieces) ys
    → (now : Progress) → now ≡ after (reached_by k size n window count sources targets pieces xs) (map (cut_of size (length xs) (min window (count - length xs))) pieces) ys
    → IsReached k size n window count sources targets pieces now
reached_more k size n window count sources targets pieces long xs ys near left number next now is =
    let fits : length xs + length ys ≤ count = omega (arith, number, left) in
    let same : map (cut_of size (length xs) (min window (count - length xs))) pieces ≡ map (cut_of size (length xs) (length ys)) pieces
    = ap (λ m. map (cut_of size (length xs) m) pieces) (sym number) in
    let old = reached_by k size n window count sources targets pieces xs in
    let blamed = joined_is (has_index (altered_indexes k size count xs pieces)) (has_index (altered_indexes k size count (xs ++ ys) pieces))
    (altered_indexes k size (length ys) ys (map (cut_of size (length xs) (length ys)) pieces)) sources (altered_split k size count xs ys pieces long fits) in
    record {
      stripes = xs ++ ys;
      within = omega (arith, length-append xs ys, fits);
      near = near_joined k size count pieces xs ys long fits near
          (subst (λ (ps : List Share). AreNear k size (length ys) ps ys) same next);
      is = is ∙ ap (λ (ps : List Share). after old ps ys) same
          ∙ ap (λ m. let q : Progress = record (after old (map (cut_of size (length xs) (length ys)) pieces) ys) { done = m } in q) (sym (length-append xs ys))
          ∙ ap (λ (zs : List ℕ). let q : Progress = record (after old (map (cut_of size (length xs) (length ys)) pieces) ys) { done = length (xs ++ ys); blamed = zs } in q) (sym blamed)
          ∙ ap (λ (ps : List Share). let q : Progress = record (reached_by k size n window count sources targets pieces (xs ++ ys)) { fresh = ps } in q) (longer_twice k size xs ys (map empty_piece targets));
    }

reached : (k size n window count : ℕ) (sources targets : List ℕ) (pieces : List Share) → All (λ piece. length piece.bytes ≡ count * size) pieces
    → (windows : ℕ) (now : Progress) → Reaches pieces windows (start_of k size n window count sources targets) now
    → IsReached k size n window count sources targets pieces now
reached k size n window count sources targets pieces long zero now e =
    subst (IsReached k size n window count sources targets pieces) e (reached_start k size n window count sources targets pieces)
reached k size n window count sources targets pieces long (suc m) now (before, was, left, step) =
    let old = reached k size n window count sources targets pieces long m before was in
    let literal = reached_by k size n window count sources targets pieces old.stripes in
    let from : (literal.done < literal.count) × IsWindow literal (window_of literal pieces) now
    = subst (λ (p : Progress). (p.done < p.count) × IsWindow p (window_of p pieces) now) old.is (left, step) in
    reached_more k size n window count sources targets pieces long old.stripes from.1.stripes old.near from.0 from.1.number from.1.near now from.1.is_after

under_way : (k size n window count : ℕ) (sources targets : List ℕ) (pieces : List Share) (now : Progress) → AreWhole size count sources pieces
    → IsUnderWay k size n window count sources targets pieces now → IsReached k size n window count sources targets pieces now
under_way k size n window count sources targets pieces now whole way =
    reached k size n window count sources targets pieces whole.lengths way.windows now way.reached

-- ---- the law
pub same_rows : (k size n window count : ℕ) (sources targets : List ℕ) (pieces : List Share) (now : Progress) → AreWhole size count sources pieces
    → IsUnderWay k size n window count sources targets pieces now → now.k ≡ k
same_rows k size n window count sources targets pieces now whole way =
    ap (λ (p : Progress). p.k) (under_way k size n window count sources targets pieces now whole way).is

pub finished : (k size n window count : ℕ) (sources targets : List ℕ) (pieces : List Share) (now : Progress) → AreWhole size count sources pieces
    → IsUnderWay k size n window count sources targets pieces now
    → (s : ℕ) → s < now.done → HasNear k size (answers_at size count s pieces)
finished k size n window count sources targets pieces now whole way s h =
    let r = under_way k size n window count sources targets pieces now whole way in
    let within : s < length r.stripes = omega (arith, h, ap (λ (p : Progress). p.done) r.is) in
    (slice_index_or r.stripes s [], (r.near s within).near)

pub left : (k size n window count : ℕ) (sources targets : List ℕ) (pieces : List Share) (now : Progress) → AreWhole size count sources pieces
    → IsUnderWay k size n window count sources targets pieces now
    → (s : ℕ) → s < next_stripes now → HasNear k size (answers_at size count (now.done + s) pieces)
    → HasNear now.k now.size (answers_at now.size (next_stripes now) s (window_of now pieces))
left k size n window count sources targets pieces now whole way =
    let r = under_way k size n window count sources targets pieces now whole way in
    let P : Progress → Type 0 = λ p. (s : ℕ) → s < next_stripes p → HasNear k size (answers_at size count (p.done + s) pieces)
    → HasNear p.k p.size (answers_at p.size (next_stripes p) s (window_of p pieces)) in
    subst P (sym r.is)
    (λ s h near.
    let number : ℕ = min window (count - length r.stripes) in
    subst (HasNear k size) (sym (cut_answers size count (length r.stripes) number s pieces whole.lengths (omega (arith, r.within)) h)) near)

pub same_unclear : (k size n window count : ℕ) (sources targets : List ℕ) (pieces : List Share) (now : Progress) → AreWhole size count sources pieces
    → IsUnderWay k size n window count sources targets pieces now
    → (s : ℕ) → IsUnclearWindow now (window_of now pieces) s → IsUnclear k size count pieces s × (s < now.done + next_stripes now)
same_unclear k size n window count sources targets pieces now whole way =
    let r = under_way k size n window count sources targets pieces now whole way in
    let P : Progress → Type 0 = λ p. (s : ℕ) → IsUnclearWindow p (window_of p pieces) s → IsUnclear k size count pieces s × (s < p.done + next_stripes p) in
    subst P (sym r.is) (λ s u. of r.stripes r.within r.near s u)
  where
    of : (xs : List (List ℕ)) → length xs ≤ count → AreNear k size count pieces xs → (s : ℕ)
        → IsUnclearWindow (reached_by k size n window count sources targets pieces xs) (window_of (reached_by k size n window count sources targets pieces xs) pieces) s
        → IsUnclear k size count pieces s × (s < length xs + min window (count - length xs))
    of xs within near s u =
        let number : ℕ = min window (count - length xs) in
        let fits : length xs + number ≤ count = omega (arith, within) in
        let here = cut_answers size count (length xs) number u.place pieces whole.lengths fits u.unclear.within in
        let counted : length xs + u.place ≡ s = sym u.counted in (
          record {
            within = omega (arith, fits, counted, u.unclear.within);
            none = subst (λ m. IsNoneNear k size (answers_at size count m pieces)) counted (subst (IsNoneNear k size) here u.unclear.none);
            earlier = λ t h. early t h (cases_lt t (length xs));
          },
          omega (arith, counted, u.unclear.within),
        )
      where
        early : (t : ℕ) → t < s → (t < length xs) ⊎ (length xs ≤ t) → HasNear k size (answers_at size count t pieces)
        early t h (inl l) = (slice_index_or xs t [], (near t l).near)
        early t h (inr l) =
            let i : ℕ = t - length xs in
            let at : length xs + i ≡ t = omega (arith, l) in
            let before : i < u.place = omega (arith, h, l, u.counted) in
            subst (λ m. HasNear k size (answers_at size count m pieces)) at
            (subst (HasNear k size) (cut_answers size count (length xs) (min window (count - length xs)) i pieces whole.lengths (omega (arith, within)) (omega (arith, before, u.unclear.within)))
            (u.unclear.earlier i before))

pub window_unclear : (k size n window count : ℕ) (sources targets : List ℕ) (pieces : List Share) (now : Progress) → AreWhole size count sources pieces
    → IsUnderWay k size n window count sources targets pieces now
    → (s : ℕ) → IsUnclear k size count pieces s × (s < now.done + next_stripes now) → IsUnclearWindow now (window_of now pieces) s
window_unclear k size n window count sources targets pieces now whole way =
    let r = under_way k size n window count sources targets pieces now whole way in
    let P : Progress → Type 0 = λ p. (s : ℕ) → IsUnclear k size count pieces s × (s < p.done + next_stripes p) → IsUnclearWindow p (window_of p pieces) s in
    subst P (sym r.is) (λ s u. of r.stripes r.within r.near s u.0 u.1 (cases_lt s (length r.stripes)))
  where
    of : (xs : List (List ℕ)) → length xs ≤ count → AreNear k size count pieces xs → (s : ℕ) → IsUnclear k size count pieces s → s < length xs + min window (count - length xs)
        → (s < length xs) ⊎ (length xs ≤ s)
        → IsUnclearWindow (reached_by k size n window count sources targets pieces xs) (window_of (reached_by k size n window count sources targets pieces xs) pieces) s
    of xs within near s u h (inl l) = absurd (u.none (slice_index_or xs s []) (near s l).near)
    of xs within near s u h (inr l) =
        let i : ℕ = s - length xs in
        let number : ℕ = min window (count - length xs) in
        let fits : length xs + number ≤ count = omega (arith, within) in
        let at : s ≡ length xs + i = omega (arith, l) in
        let inside : i < number = omega (arith, h, l) in
        record {
          place = i;
          counted = at;
          unclear = record {
            within = inside;
            none = subst (IsNoneNear k size) (sym (cut_answers size count (length xs) number i pieces whole.lengths fits inside))
                (subst (λ m. IsNoneNear k size (answers_at size count m pieces)) at u.none);
            earlier = λ t before.
                subst (HasNear k size) (sym (cut_answers size count (length xs) number t pieces whole.lengths fits (omega (arith, before, inside))))
                (u.earlier (length xs + t) (omega (arith, before, at)));
          };
        }

pub same_end : (k size n window count : ℕ) (sources targets : List ℕ) (pieces : List Share) (now : Progress)
    → 1 ≤ k → 1 ≤ size → k ≤ 256 → AreWhole size count sources pieces
    → IsUnderWay k size n window count sources targets pieces now → now.done ≡ now.count
    → (bytes blamed : List ℕ) (fresh : List Share) → IsRebuilt k size count targets pieces bytes blamed fresh
    → (now.blamed ≡ blamed) × (now.fresh ≡ fresh)
same_end k size n window count sources targets pieces now some_rows some_bytes small whole way all bytes blamed fresh made =
    let r = under_way k size n window count sources targets pieces now whole way in
    let number : length r.stripes ≡ count = sym (ap (λ (p : Progress). p.done) r.is) ∙ all ∙ ap (λ (p : Progress). p.count) r.is in
    let cut : stripes_of k size count bytes ≡ r.stripes
    = sym (fill_by_all (run (k * size) bytes) r.stripes count [] number (λ s h. one s h (r.near s (omega (arith, number, h))))) in
    let found = altered_indexes k size count r.stripes pieces in
    let ever = is_ever_altered k size count r.stripes in (
      ap (λ (p : Progress). p.blamed) r.is
          ∙ kept_are sources found whole.sources_rise (rises_filtered ever pieces whole.rising)
          (all_filtered (λ y. has_index sources y ≡ true) ever pieces whole.among)
          ∙ ap (λ (xs : List (List ℕ)). altered_indexes k size count xs pieces) (sym cut) ∙ sym made.blames,
      ap (λ (p : Progress). p.fresh) r.is
          ∙ grown_whole k size count bytes r.stripes targets some_rows some_bytes made.long cut ∙ sym made.fresh_are,
    )
  where
    one : (s : ℕ) → s < count → {stripe : List ℕ} → IsStripe k size (answers_at size count s pieces) stripe → stripe ≡ run (k * size) bytes s
    one s h {stripe} is =
        let rows : (s + 1) * (k * size) ≤ count * (k * size) = mul-le-mul_right (k * size) (omega (arith, h)) in
        let indexes = indexes_of-answers_at size count s pieces in
        one_near k size stripe (run (k * size) bytes s) (answers_at size count s pieces) small
        (subst Rises (sym indexes) whole.rising)
        (subst (λ (xs : List ℕ). All (λ j. j < 256) xs) (sym indexes) (all_below 256 sources (indexes_of pieces) whole.below whole.among))
        is.long is.bytes
        (length-take-le (k * size) (drop (s * (k * size)) bytes) (omega (arith, length-drop (s * (k * size)) bytes, made.long, rows)))
        (All-take (λ b. b < 256) (k * size) (drop (s * (k * size)) bytes) (All-drop (λ b. b < 256) (s * (k * size)) bytes made.bytes_are))
        is.near (made.near s h)
