-- Rising indexes: a list of some of them is the whole filtered by it.
use Rattle.std.proofs.Common.{◌≡◌, ℕ, zero, suc, ◌<◌, ◌==◌, ◌||◌, ◌&&◌, inl, inr, List, [], ◌∷◌, get_or, Bool, true, false, cond, refl, sym, ap, ◌∙◌, subst, arith, eq-eqb}
use Rattle.std.specs.Prelude.{All, filter}
use Rattle.std.proofs.lemmas.Bool.Decides.{nat_tests, eqb_tells}
use Rattle.std.proofs.lemmas.List.{get_or_default}
use Rattle.std.proofs.lemmas.List.Elements.{All-nil, All-cons, All-head, All-tail}
use Rattle.std.proofs.lemmas.List.Folds.{list_any_none, list_any_at}
use Rattle.sat_base.specs.declared.items.Share.{Share}
use Rattle.bw_decode.specs.Altered.{indexes_of}
use Rattle.bw_decode.specs.Near.{Rises}
use Rattle.repair_core.specs.Indexes.{has_index, joined}

pub rises_tail : (x : ℕ) (xs : List ℕ) → Rises (x ∷ xs) → Rises xs
rises_tail x xs rises i j before within = rises (suc i) (suc j) (omega arith) (omega arith)

pub rises_head : (x : ℕ) (xs : List ℕ) → Rises (x ∷ xs) → All (λ y. x < y) xs
rises_head x xs rises k d within = rw (get_or_default xs k d 0 within) (rises 0 (suc k) (omega arith) (omega arith))

pub rises_cons : (x : ℕ) (xs : List ℕ) → All (λ y. x < y) xs → Rises xs → Rises (x ∷ xs)
rises_cons x xs above rises i zero before within = absurd (omega arith)
rises_cons x xs above rises zero (suc j) before within = above j 0 (omega arith)
rises_cons x xs above rises (suc i) (suc j) before within = rises i j (omega arith) (omega arith)

-- ---- the indexes of some of the pieces
pub all_filtered : (P : ℕ → Type 0) (test : Share → Bool) (pieces : List Share) → All P (indexes_of pieces) → All P (indexes_of (filter test pieces))
all_filtered P test [] all = All-nil P
all_filtered P test (p ∷ ps) all =
    let tail = all_filtered P test ps (All-tail P p.index (indexes_of ps) all) in
    elim (test p) as (λ b. All P (indexes_of (cond b (p ∷ filter test ps) (filter test ps)))) [
      | true ↦ All-cons P p.index (indexes_of (filter test ps)) (All-head P p.index (indexes_of ps) all) tail
      | false ↦ tail
    ]

pub rises_filtered : (test : Share → Bool) (pieces : List Share) → Rises (indexes_of pieces) → Rises (indexes_of (filter test pieces))
rises_filtered test [] rises = rises
rises_filtered test (p ∷ ps) rises =
    let tail = rises_filtered test ps (rises_tail p.index (indexes_of ps) rises) in
    elim (test p) as (λ b. Rises (indexes_of (cond b (p ∷ filter test ps) (filter test ps)))) [
      | true ↦ rises_cons p.index (indexes_of (filter test ps)) (all_filtered (λ y. p.index < y) test ps (rises_head p.index (indexes_of ps) rises)) tail
      | false ↦ tail
    ]

pub all_among : (xs : List ℕ) → All (λ x. has_index xs x ≡ true) xs
all_among xs k d within = list_any_at (λ one. one == get_or xs k d) xs k d within (eq-eqb (get_or xs k d) (get_or xs k d) refl)

-- ---- a list filtered by some of its own
below_not : (a b : ℕ) → a < b → (a == b) ≡ false
below_not a b h = grind (arith, nat_tests)

above_not : (a b : ℕ) → a < b → (b == a) ≡ false
above_not a b h = grind (arith, nat_tests)

other_way : (x y : ℕ) → (y ≡ x → ⊥) → (x == y) ≡ false
other_way x y ne = elim (eqb_tells x y) [ inl p ↦ absurd (ne (sym p.1)) | inr p ↦ p.0 ]

pub has_above : (x : ℕ) (ys : List ℕ) → All (λ y. x < y) ys → has_index ys x ≡ false
has_above x ys above = list_any_none (λ one. one == x) ys (λ k d h. above_not x (get_or ys k d) (above k d h))

has_skip : (x y : ℕ) (xs : List ℕ) → (x == y) ≡ false → has_index (x ∷ xs) y ≡ true → has_index xs y ≡ true
has_skip x y xs other has = sym (ap (λ b. b || has_index xs y) other) ∙ has

-- what is true of each is true of one that stands in the list
pub member_has : (P : ℕ → Type 0) (y : ℕ) (xs : List ℕ) → All P xs → has_index xs y ≡ true → P y
member_has P y [] all has = cc
member_has P y (z ∷ zs) all has =
    elim (eqb_tells z y) [
      | inl p ↦ subst P p.1 (All-head P z zs all)
      | inr p ↦ member_has P y zs (All-tail P z zs all) (has_skip z y zs p.0 has)
    ]

member_above : (x y : ℕ) (xs : List ℕ) → All (λ z. x < z) xs → has_index xs y ≡ true → x < y
member_above x y xs above has = member_has (λ z. x < z) y xs above has

and_false : (b : Bool) → (b && false) ≡ false
and_false true = refl
and_false false = refl

-- which of the list's stand in the filtered one
has_filtered : (p : ℕ → Bool) (xs : List ℕ) (y : ℕ) → has_index (filter p xs) y ≡ (has_index xs y && p y)
has_filtered p [] y = refl
has_filtered p (x ∷ xs) y =
    elim (eqb_tells x y) [
      | inl e ↦ shape (p x) ∙ equal (p x) (p y) (x == y) (has_index (filter p xs) y) (has_index xs y) (ap p e.1) e.0 (has_filtered p xs y)
      | inr e ↦ shape (p x) ∙ other (p x) (p y) (x == y) (has_index (filter p xs) y) (has_index xs y) e.0 (has_filtered p xs y)
    ]
  where
    shape : (b : Bool) → has_index (cond b (x ∷ filter p xs) (filter p xs)) y ≡ cond b ((x == y) || has_index (filter p xs) y) (has_index (filter p xs) y)
    shape true = refl
    shape false = refl

    equal : (b c e f g : Bool) → b ≡ c → e ≡ true → f ≡ (g && c) → cond b (e || f) f ≡ ((e || g) && c)
    equal b c e f g bc et fg = rw (bc, et, fg) (mix c g)
      where
        mix : (c g : Bool) → cond c true (g && c) ≡ c
        mix true g = refl
        mix false g = and_false g

    other : (b c e f g : Bool) → e ≡ false → f ≡ (g && c) → cond b (e || f) f ≡ ((e || g) && c)
    other b c e f g ef fg = rw (ef, fg) (same b (g && c))
      where
        same : (b h : Bool) → cond b h h ≡ h
        same true h = refl
        same false h = refl

pub filter_agree_on : {X : Type 0} (p q : X → Bool) (xs : List X) → All (λ x. p x ≡ q x) xs → filter p xs ≡ filter q xs
filter_agree_on p q [] same = refl
filter_agree_on p q (x ∷ xs) same =
    ap (λ b. cond b (x ∷ filter p xs) (filter p xs)) (All-head (λ x. p x ≡ q x) x xs same)
    ∙ ap (λ zs. cond (q x) (x ∷ zs) zs) (filter_agree_on p q xs (All-tail (λ x. p x ≡ q x) x xs same))

-- what stands among the sources is below what they all are below
pub all_below : (n : ℕ) (sources indexes : List ℕ) → All (λ index. index < n) sources → All (λ index. has_index sources index ≡ true) indexes
    → All (λ index. index < n) indexes
all_below n sources indexes below among i d h = member_has (λ index. index < n) (get_or indexes i d) sources below (among i d h)

pub kept_are : (xs ys : List ℕ) → Rises xs → Rises ys → All (λ y. has_index xs y ≡ true) ys → filter (has_index ys) xs ≡ ys
kept_are [] [] rise rise' all = refl
kept_are [] (y ∷ ys) rise rise' all = let h : false ≡ true = all 0 y (omega arith) in cc
kept_are (x ∷ xs) [] rise rise' all = kept_are xs [] (rises_tail x xs rise) rise' (All-nil (λ y. has_index xs y ≡ true))
kept_are (x ∷ xs) (y ∷ ys) rise rise' all =
    let above : All (λ z. x < z) xs = rises_head x xs rise in
    let later : All (λ z. y < z) ys = rises_head y ys rise' in
    elim (eqb_tells y x) [
      | inl p ↦
          let rest = kept_are xs ys (rises_tail x xs rise) (rises_tail y ys rise')
          (λ k d h. has_skip x (get_or ys k d) xs (below_not x (get_or ys k d) (omega (arith, later k d h, p.1))) (all (suc k) d (omega (arith, h)))) in
          let same = filter_agree_on (has_index (y ∷ ys)) (has_index ys) xs
          (λ k d h. ap (λ b. b || has_index ys (get_or xs k d)) (below_not y (get_or xs k d) (omega (arith, above k d h, p.1)))) in
          ap (λ b. cond (b || has_index ys x) (x ∷ filter (has_index (y ∷ ys)) xs) (filter (has_index (y ∷ ys)) xs)) p.0
          ∙ ap (λ (zs : List ℕ). x ∷ zs) (same ∙ rest) ∙ ap (λ z. z ∷ ys) (sym p.1)
      | inr p ↦
          let other : (x == y) ≡ false = other_way x y p.1 in
          let first : x < y = member_above x y xs above (has_skip x y xs other (All-head (λ z. has_index (x ∷ xs) z ≡ true) y ys all)) in
          let none : has_index (y ∷ ys) x ≡ false
          = has_above x (y ∷ ys) (All-cons (λ z. x < z) y ys first (λ k d h. omega (arith, later k d h, first))) in
          ap (λ b. cond b (x ∷ filter (has_index (y ∷ ys)) xs) (filter (has_index (y ∷ ys)) xs)) none
          ∙ kept_are xs (y ∷ ys) (rises_tail x xs rise) rise'
          (All-cons (λ z. has_index xs z ≡ true) y ys (has_skip x y xs other (All-head (λ z. has_index (x ∷ xs) z ≡ true) y ys all))
          (λ k d h. has_skip x (get_or ys k d) xs (below_not x (get_or ys k d) (omega (arith, later k d h, first))) (all (suc k) d (omega (arith, h)))))
    ]

-- the marked ones, where what stands in a list was marked beside the marked ones before
pub joined_is : (old new : ℕ → Bool) (found xs : List ℕ) → ((index : ℕ) → new index ≡ (old index || has_index found index))
    → filter new xs ≡ joined xs (filter old xs) found
joined_is old new found xs are =
    filter_agree_on new (λ index. has_index (filter old xs) index || has_index found index) xs
    (λ k d h.
    let y = get_or xs k d in
    let kept : has_index (filter old xs) y ≡ old y = has_filtered old xs y ∙ ap (λ b. b && old y) (all_among xs k d h) in
    are y ∙ ap (λ b. b || has_index found y) (sym kept))
