-- The parts of what was heard: each rises with the whole, and together they name each index once.
use Rattle.std.proofs.Common.{◌≡◌, ℕ, suc, zero, ◌+◌, ◌<◌, ◌==◌, List, [], ◌∷◌, false, cond, Option, Some, None, refl, ap, sym, subst, ◌∙◌, arith}
use Rattle.std.specs.Prelude.{All, filter_map}
use Rattle.std.specs.List.{cons_option}
use Rattle.std.proofs.lemmas.List.{get_or_default}
use Rattle.std.proofs.lemmas.List.Elements.{All-nil, All-cons, All-head, All-tail}
use Rattle.std.proofs.lemmas.List.Sums.{sum_by-cons}
use Rattle.sat_base.specs.declared.items.Share.{Share}
use Rattle.sat_base.specs.declared.nodes.Fetched.{Fetched}
use Rattle.sat_base.specs.declared.nodes.Fetched.TheVariants as fetches
use Rattle.bw_decode.specs.Altered.{indexes_of}
use Rattle.bw_decode.specs.Near.{Rises}
use Rattle.audit_core.specs.declared.plan.Heard.{Heard}
use Rattle.audit_core.specs.Heard.{answers_of, missing_of, silent_of, heard_indexes, share_in, missing_in, silent_in, is_out_of_memory}
use Rattle.audit_core.specs.Verdict.{count_of, NamesEach}

-- rising numbers, item by item
Up : List ℕ → Type 0
Up [] = Unit {0}
Up (x ∷ xs) = All (λ y. x < y) xs × Up xs

up_from : (xs : List ℕ) → Rises xs → Up xs
unfolding Up
up_from [] rises = tt
up_from (x ∷ xs) rises =
    let above : All (λ y. x < y) xs
    = λ k d within. rw (get_or_default xs k d 0 within) (rises 0 (suc k) (omega arith) (omega arith)) in
    (above, up_from xs (λ i j before within. rises (suc i) (suc j) (omega arith) (omega arith)))

rises_from : (xs : List ℕ) → Up xs → Rises xs
unfolding Up
rises_from [] up i j before within = absurd (omega arith)
rises_from (x ∷ xs) up i zero before within = absurd (omega arith)
rises_from (x ∷ xs) up zero (suc j) before within = up.0 j 0 (omega arith)
rises_from (x ∷ xs) up (suc i) (suc j) before within = rises_from xs up.1 i j (omega arith) (omega arith)

-- where a pick gives an item's own index or nothing
pub IsPick : (ℕ → Fetched → Option ℕ) → Type 0
IsPick pick = (index other : ℕ) (what : Fetched) → pick index what ≡ Some other → other ≡ index

module _ (pick : ℕ → Fetched → Option ℕ) (own : (index other : ℕ) (what : Fetched) → pick index what ≡ Some other → other ≡ index) where
  all_picked : (P : ℕ → Type 0) (heard : List Heard) → All P (heard_indexes heard) → All P (filter_map (λ one. pick one.index one.what) heard)
  all_picked P [] all = All-nil P
  all_picked P (one ∷ rest) all =
      let head = All-head P one.index (heard_indexes rest) all in
      let tail = all_picked P rest (All-tail P one.index (heard_indexes rest) all) in
      elim (pick one.index one.what) as (λ o. pick one.index one.what ≡ o → All P (cons_option o (filter_map (λ h. pick h.index h.what) rest))) [
        | Some other ↦ λ e. All-cons P other _ (subst P (sym (own one.index other one.what e)) head) tail
        | None ↦ λ e. tail
      ] refl

  up_picked : (heard : List Heard) → Up (heard_indexes heard) → Up (filter_map (λ one. pick one.index one.what) heard)
  unfolding Up
  up_picked [] up = tt
  up_picked (one ∷ rest) up =
      let tail = up_picked rest up.1 in
      elim (pick one.index one.what) as (λ o. pick one.index one.what ≡ o → Up (cons_option o (filter_map (λ h. pick h.index h.what) rest))) [
        | Some other ↦ λ e.
            let P : ℕ → Type 0 = λ n. All (λ y. n < y) (filter_map (λ h. pick h.index h.what) rest) in
            (subst P (sym (own one.index other one.what e)) (all_picked (λ y. one.index < y) rest up.0), tail)
        | None ↦ λ e. tail
      ] refl

pub all_in : (pick : ℕ → Fetched → Option ℕ) → IsPick pick → (P : ℕ → Type 0) (heard : List Heard) → All P (heard_indexes heard)
    → All P (filter_map (λ one. pick one.index one.what) heard)
unfolding IsPick
all_in pick own P heard all = all_picked pick own P heard all

pub rises_in : (pick : ℕ → Fetched → Option ℕ) → IsPick pick → (heard : List Heard) → Rises (heard_indexes heard)
    → Rises (filter_map (λ one. pick one.index one.what) heard)
unfolding IsPick
rises_in pick own heard rises = rises_from _ (up_picked pick own heard (up_from (heard_indexes heard) rises))

-- the index of a share that came
answered_in : ℕ → Fetched → Option ℕ
answered_in index (fetches.Share bytes) = Some index
answered_in index fetches.Missing = None
answered_in index fetches.NoAnswer = None
answered_in index fetches.NoMemory = None

answered_own : IsPick answered_in
unfolding IsPick answered_in
answered_own index other (fetches.Share bytes) e = cc
answered_own index other fetches.Missing e = cc
answered_own index other fetches.NoAnswer e = cc
answered_own index other fetches.NoMemory e = cc

missing_own : IsPick missing_in
unfolding IsPick
missing_own index other fetches.Missing e = cc
missing_own index other (fetches.Share bytes) e = cc
missing_own index other fetches.NoAnswer e = cc
missing_own index other fetches.NoMemory e = cc

silent_own : IsPick silent_in
unfolding IsPick
silent_own index other fetches.NoAnswer e = cc
silent_own index other (fetches.Share bytes) e = cc
silent_own index other fetches.Missing e = cc
silent_own index other fetches.NoMemory e = cc

answered-more : (index : ℕ) (what : Fetched) (shares : List Share) (indexes : List ℕ) → indexes_of shares ≡ indexes
    → indexes_of (cons_option (share_in index what) shares) ≡ cons_option (answered_in index what) indexes
unfolding answered_in
answered-more index (fetches.Share bytes) shares indexes e = ap (λ (xs : List ℕ). index ∷ xs) e
answered-more index fetches.Missing shares indexes e = e
answered-more index fetches.NoAnswer shares indexes e = e
answered-more index fetches.NoMemory shares indexes e = e

answered-are : (heard : List Heard) → indexes_of (answers_of heard) ≡ filter_map (λ one. answered_in one.index one.what) heard
answered-are [] = refl
answered-are (one ∷ rest) = answered-more one.index one.what (answers_of rest) _ (answered-are rest)

pub answers_rise : (heard : List Heard) → Rises (heard_indexes heard) → Rises (indexes_of (answers_of heard))
answers_rise heard rises = rw (answered-are heard) (rises_in answered_in answered_own heard rises)

pub missing_rise : (heard : List Heard) → Rises (heard_indexes heard) → Rises (missing_of heard)
missing_rise heard rises = rises_in missing_in missing_own heard rises

pub silent_rise : (heard : List Heard) → Rises (heard_indexes heard) → Rises (silent_of heard)
silent_rise heard rises = rises_in silent_in silent_own heard rises

pub all_answers : (P : ℕ → Type 0) (heard : List Heard) → All P (heard_indexes heard) → All P (indexes_of (answers_of heard))
all_answers P heard all = rw (answered-are heard) (all_in answered_in answered_own P heard all)

pub all_silent : (P : ℕ → Type 0) (heard : List Heard) → All P (heard_indexes heard) → All P (silent_of heard)
all_silent P heard all = all_in silent_in silent_own P heard all

-- an index more in front of a list
pub count_of-cons : (index other : ℕ) (rest : List ℕ) → count_of index (other ∷ rest) ≡ cond (other == index) 1 0 + count_of index rest
count_of-cons index other rest = sum_by-cons (λ one. cond (one == index) 1 0) other rest

once_more : (index own : ℕ) (what : Fetched) (rest missing silent : List ℕ) (shares : List Share) → is_out_of_memory what ≡ false
    → count_of index rest ≡ count_of index (indexes_of shares) + count_of index missing + count_of index silent
    → cond (own == index) 1 0 + count_of index rest
    ≡ count_of index (indexes_of (cons_option (share_in own what) shares)) + count_of index (cons_option (missing_in own what) missing) + count_of index (cons_option (silent_in own what) silent)
once_more index own (fetches.Share bytes) rest missing silent shares answered before =
    rw (count_of-cons index own (indexes_of shares)) (omega (arith, before))
once_more index own fetches.Missing rest missing silent shares answered before = rw (count_of-cons index own missing) (omega (arith, before))
once_more index own fetches.NoAnswer rest missing silent shares answered before = rw (count_of-cons index own silent) (omega (arith, before))
once_more index own fetches.NoMemory rest missing silent shares answered before = cc

pub each_once : (heard : List Heard) → All (λ one. is_out_of_memory one.what ≡ false) heard
    → NamesEach (heard_indexes heard) (indexes_of (answers_of heard)) (missing_of heard) (silent_of heard)
each_once [] all index = refl
each_once (one ∷ rest) all index =
    count_of-cons index one.index (heard_indexes rest)
    ∙ once_more index one.index one.what (heard_indexes rest) (missing_of rest) (silent_of rest) (answers_of rest)
    (All-head (λ (h : Heard). is_out_of_memory h.what ≡ false) one rest all)
    (each_once rest (All-tail (λ (h : Heard). is_out_of_memory h.what ≡ false) one rest all) index)
