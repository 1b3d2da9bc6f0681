-- Two spellings at the front of the same bytes.
use Rattle.std.proofs.Common.{◌≡◌, ◌≤◌, ℕ, ◌^◌, ◌/◌, ◌%◌, List, [], ◌∷◌, ◌++◌, length, take, drop, refl, ap, sym, ◌∙◌, append_assoc, arith, suc, zero, zero-le, replicate}
use Rattle.std.specs.Prelude.{All}
use Rattle.std.specs.List.{flat_map}
use Rattle.std.specs.Int.{w16, w32, w64, from_be_bytes}
use Rattle.std.proofs.lemmas.Nat.{from_be_bytes-to_be_bytes_2, from_be_bytes-to_be_bytes_4, from_be_bytes-to_be_bytes_8}
use Rattle.std.proofs.lemmas.List.{take_at, drop_at}
use Rattle.std.proofs.lemmas.List.Concat.{flat_map-cons}
use Rattle.record_rows.specs.Laws.{AreApart}
use Rattle.record_rows.specs.Numbers.{be8, be16, be32, be64, be128, listed, IsU8, IsU16, IsU32, IsU64, IsU128, IsHash}

pub pair_apart : {A B : Type 0} {f : A → List ℕ} {g : B → List ℕ} {F : A → Type 0} {G : B → Type 0}
    → AreApart f F → AreApart g G → AreApart {A = A × B} (λ p. f p.0 ++ g p.1) (λ p. F p.0 × G p.1)
pair_apart {f = f} {g = g} a b = record {
  one = λ x y r s fx fy e.
      let front = a.one x.0 y.0 (g x.1 ++ r) (g y.1 ++ s) fx.0 fy.0 (sym (append_assoc (f x.0) (g x.1) r) ∙ e ∙ append_assoc (f y.0) (g y.1) s) in
      let back = b.one x.1 y.1 r s fx.1 fy.1 front.1 in
      (ap (λ l. (l, x.1)) front.0 ∙ ap (λ l. (y.0, l)) back.0, back.1);
}

-- four fields before the rest
pub four_first : (a b c d rest : List ℕ) → a ++ (b ++ (c ++ (d ++ rest))) ≡ (a ++ (b ++ (c ++ d))) ++ rest
four_first a b c d rest = rw (append_assoc, append_assoc, append_assoc) refl

-- of what is made of parts, one way
pub made_apart : {A P : Type 0} {f : P → List ℕ} {F : P → Type 0} (parts : A → P) (G : A → Type 0)
    → AreApart f F → ((x : A) → G x → F (parts x)) → ((x y : A) → parts x ≡ parts y → x ≡ y) → AreApart (λ x. f (parts x)) G
made_apart parts G a fit one = record {
  one = λ x y r s fx fy e.
      let both = a.one (parts x) (parts y) r s (fit x fx) (fit y fy) e in
      (one x y both.0, both.1);
}

-- of spellings of one length, each of one value
pub fixed_apart : {A : Type 0} (f : A → List ℕ) (F : A → Type 0) (n : ℕ)
    → ((x : A) → F x → length (f x) ≡ n) → ((x y : A) → F x → F y → f x ≡ f y → x ≡ y) → AreApart f F
fixed_apart f F n long one = record {
  one = λ x y r s fx fy e.
      let lx = long x fx in
      let ly = long y fy in
      let front : f x ≡ f y = sym (take_at (f x) r n lx) ∙ ap (take n) e ∙ take_at (f y) s n ly in
      (one x y fx fy front, sym (drop_at (f x) r n lx) ∙ ap (drop n) e ∙ drop_at (f y) s n ly);
}

pub be8_apart : AreApart be8 IsU8
be8_apart = record { one = λ x y r s fx fy e. (cc, cc) }

pub be16_apart : AreApart be16 IsU16
unfolding be16
be16_apart = fixed_apart be16 IsU16 2 (λ x fx. refl)
    (λ x y fx fy e. sym (from_be_bytes-to_be_bytes_2 x fx) ∙ ap (from_be_bytes w16) e ∙ from_be_bytes-to_be_bytes_2 y fy)

pub be32_apart : AreApart be32 IsU32
unfolding be32
be32_apart = fixed_apart be32 IsU32 4 (λ x fx. refl)
    (λ x y fx fy e. sym (from_be_bytes-to_be_bytes_4 x fx) ∙ ap (from_be_bytes w32) e ∙ from_be_bytes-to_be_bytes_4 y fy)

pub be64_apart : AreApart be64 IsU64
unfolding be64
be64_apart = fixed_apart be64 IsU64 8 (λ x fx. refl)
    (λ x y fx fy e. sym (from_be_bytes-to_be_bytes_8 x fx) ∙ ap (from_be_bytes w64) e ∙ from_be_bytes-to_be_bytes_8 y fy)

-- a number is its halves
halves : (x y : ℕ) → ◌≡◌ {A = ℕ × ℕ} (x / 2 ^ 64, x % 2 ^ 64) (y / 2 ^ 64, y % 2 ^ 64) → x ≡ y
halves x y e = let high : x / 2 ^ 64 ≡ y / 2 ^ 64 = ap (λ p. p.0) e in let low : x % 2 ^ 64 ≡ y % 2 ^ 64 = ap (λ p. p.1) e in omega arith

pub be128_apart : AreApart be128 IsU128
unfolding be128
be128_apart = made_apart (λ n. (n / 2 ^ 64, n % 2 ^ 64)) IsU128 (pair_apart be64_apart be64_apart) (λ x fx. (omega arith, omega arith)) halves

pub hash_apart : AreApart (λ bytes. bytes) IsHash
hash_apart = fixed_apart (λ bytes. bytes) IsHash 32 (λ x fx. fx) (λ x y fx fy e. e)

items_apart : {A : Type 0} {f : A → List ℕ} {F : A → Type 0} → AreApart f F → (xs ys : List A) (r s : List ℕ)
    → length xs ≡ length ys → All F xs → All F ys → flat_map f xs ++ r ≡ flat_map f ys ++ s → (xs ≡ ys) × (r ≡ s)
items_apart a [] [] r s long fx fy e = (refl, e)
items_apart a [] (y ∷ ys) r s long fx fy e = absurd (omega (arith, long))
items_apart a (x ∷ xs) [] r s long fx fy e = absurd (omega (arith, long))
items_apart {f = f} a (x ∷ xs) (y ∷ ys) r s long fx fy e =
    let split = sym (append_assoc (f x) (flat_map f xs) r) ∙ ap (λ l. l ++ r) (sym (flat_map-cons f x xs)) ∙ e ∙ ap (λ l. l ++ s) (flat_map-cons f y ys) ∙ append_assoc (f y) (flat_map f ys) s in
    let front = a.one x y _ _ (fx zero x (omega arith)) (fy zero y (omega arith)) split in
    let back = items_apart a xs ys r s (omega (arith, long)) (λ k d lt. fx (suc k) d (omega arith)) (λ k d lt. fy (suc k) d (omega arith)) front.1 in
    (ap (λ z. z ∷ xs) front.0 ∙ ap (λ l. y ∷ l) back.0, back.1)

pub listed_apart : {A : Type 0} {f : A → List ℕ} {F : A → Type 0} (n : ℕ) → AreApart f F → AreApart (listed f) (λ xs. (length xs ≤ n) × All F xs)
listed_apart {f = f} n a = record {
  one = λ xs ys r s fx fy e.
      let long : length xs ≡ length ys = cc in
      let rest : flat_map f xs ++ r ≡ flat_map f ys ++ s = cc in
      items_apart a xs ys r s long fx.1 fy.1 rest;
}

pub nothing_listed : {A : Type 0} (n : ℕ) (F : A → Type 0) → (xs : List A) × ((length xs ≤ n) × All F xs)
nothing_listed n F = ([], (zero-le, λ k d lt. absurd (omega arith)))

pub some_hash : (bytes : List ℕ) × IsHash bytes
some_hash = (replicate 32 0, refl)
