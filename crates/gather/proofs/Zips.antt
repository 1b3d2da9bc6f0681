-- Two lists, place by place.
use Rattle.std.proofs.Common.{◌≡◌, ℕ, ◌+◌, ◌<◌, zero, suc, List, [], ◌∷◌, ◌++◌, length, take, arith, get_or, sym, subst}
use Rattle.std.specs.List.{AllZip}
use Rattle.std.proofs.lemmas.List.{take_more}
use Rattle.std.proofs.lemmas.Slice.Zip.{all_zipped_more}
use Rattle.gather.specs.Gathered.{GivesEach}

module _ {A B : Type 0} (R S : A → B → Type 0) (so : (x : A) (y : B) → R x y → S x y) where
  pub zip_so : (xs : List A) (ys : List B) → AllZip R xs ys → AllZip S xs ys
  zip_so [] [] h = tt
  zip_so [] (y ∷ ys) h = absurd h
  zip_so (x ∷ xs) [] h = absurd h
  zip_so (x ∷ xs) (y ∷ ys) h = (so x y h.0, zip_so xs ys h.1)

module _ {A B C : Type 0} (R : A → B → Type 0) (S : B → C → Type 0) (T : A → C → Type 0) (so : (x : A) (y : B) (z : C) → R x y → S y z → T x z) where
  -- what holds through a list between
  pub zip_through : (xs : List A) (ys : List B) (zs : List C) → AllZip R xs ys → AllZip S ys zs → AllZip T xs zs
  zip_through [] [] [] h k = tt
  zip_through [] [] (z ∷ zs) h k = absurd k
  zip_through [] (y ∷ ys) zs h k = absurd h
  zip_through (x ∷ xs) [] zs h k = absurd h
  zip_through (x ∷ xs) (y ∷ ys) [] h k = absurd k
  zip_through (x ∷ xs) (y ∷ ys) (z ∷ zs) h k = (so x y z h.0 k.0, zip_through xs ys zs h.1 k.1)

  -- the same, where the second is of what futures give
  pub zip_gives : (xs : List A) (ys : List B) (zs : List C) → AllZip R xs ys → GivesEach S ys zs → AllZip T xs zs
  zip_gives [] [] [] h g = tt
  zip_gives [] [] (z ∷ zs) h g = absurd (omega (arith, g.count))
  zip_gives [] (y ∷ ys) zs h g = absurd h
  zip_gives (x ∷ xs) [] zs h g = absurd h
  zip_gives (x ∷ xs) (y ∷ ys) [] h g = absurd (omega (arith, g.count))
  zip_gives (x ∷ xs) (y ∷ ys) (z ∷ zs) h g = (
    so x y z h.0 (g.each 0 y z (omega arith)),
    zip_gives xs ys zs h.1 (record {
      count = omega (arith, g.count);
      each = λ k d e below. g.each (suc k) d e (omega (arith, below));
    }),
  )

module _ {A B : Type 0} (R : A → B → Type 0) (P : B → Type 0) (so : (x : A) (y : B) → R x y → P y) where
  -- what holds of each of the second
  pub zip_all : (xs : List A) (ys : List B) → AllZip R xs ys → (k : ℕ) (d : B) → k < length ys → P (get_or ys k d)
  zip_all [] [] h k d below = absurd (omega (arith, below))
  zip_all [] (y ∷ ys) h k d below = absurd h
  zip_all (x ∷ xs) [] h k d below = absurd h
  zip_all (x ∷ xs) (y ∷ ys) h zero d below = so x y h.0
  zip_all (x ∷ xs) (y ∷ ys) h (suc k) d below = zip_all xs ys h.1 k d (omega (arith, below))

module _ {A B : Type 0} (R : A → B → Type 0) where
  -- one more of each, the first at its place in a list
  pub zip_more : (xs : List A) (i : ℕ) (d : A) (ys : List B) (y : B) → i < length xs → AllZip R (take i xs) ys → R (get_or xs i d) y → AllZip R (take (i + 1) xs) (ys ++ y ∷ [])
  zip_more xs i d ys y l before here =
      subst (λ (zs : List A). AllZip R zs (ys ++ y ∷ [])) (sym (take_more xs i d l)) (all_zipped_more R (take i xs) ys (get_or xs i d) y before here)
