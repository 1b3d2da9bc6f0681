-- Numbers of one width stand in the order of their bytes.
use Rattle.std.proofs.Common.{◌≡◌, ◌<◌, ◌+◌, ◌*◌, ◌/◌, ◌%◌, ◌^◌, ℕ, zero, suc, List, [], ◌∷◌, ◌++◌, length, refl, sym, ◌∙◌, ap, arith, lit<, length-append}
use Rattle.std.specs.Ordering.{nat_cmp, ordering_then, MatchOrdering}
use Rattle.std.specs.declared.cmp.Ordering.{Ordering}
use Rattle.std.specs.declared.cmp.Ordering.TheVariants.{Less, Equal, Greater}
use Rattle.std.specs.Cmp.{nat_cmp_is}
use Rattle.std.specs.Cmp.Lexicographic.{slice_cmp}
use Rattle.std.specs.Int.{byte_at, bytes_high_first}
use Rattle.std.proofs.lemmas.Cmp.{ranked, by_ranked}
use Rattle.std.proofs.Math.Arith.{mod-mul}
use Rattle.std.proofs.Math.Nat.{mod-one, mod-lt, mod-eq_of_lt, mul-le-mul_right, pow-succ'}
use Rattle.record_rows.specs.Laws.{StandByRank}
use Rattle.record_rows.specs.Numbers.{be32, be64, IsU32, IsU64}

weaker : (o : Ordering) {P Q R P' Q' R' : Type 0} → (P → P') → (Q → Q') → (R → R') → MatchOrdering o P Q R → MatchOrdering o P' Q' R'
weaker Less f g h m = f m
weaker Equal f g h m = g m
weaker Greater f g h m = h m

-- two digits to a base compare by the first, and then by the second
pub digits_cmp : (b x y p q : ℕ) → p < b → q < b → ordering_then (nat_cmp x y) (nat_cmp p q) ≡ nat_cmp (x * b + p) (y * b + q)
digits_cmp b x y p q low lower = by_ranked (x < y) (x ≡ y) (y < x) (nat_cmp x y) (ranked x y (nat_cmp x y) refl)
    (λ e lt. let wide = mul-le-mul_right b lt in let below : x * b + p < y * b + q = omega (arith, wide) in
    ap (λ o. ordering_then o (nat_cmp p q)) e ∙ nat_cmp_is (x * b + p) (y * b + q) Less below)
    (λ e same. let high = ap (λ n. n * b) same in
    ap (λ o. ordering_then o (nat_cmp p q)) e ∙ nat_cmp_is (x * b + p) (y * b + q) (nat_cmp p q)
    (weaker (nat_cmp p q) (λ lt. omega (arith, high, lt)) (λ eq. omega (arith, high, eq)) (λ lt. omega (arith, high, lt)) (ranked p q (nat_cmp p q) refl)))
    (λ e lt. let wide = mul-le-mul_right b lt in let below : y * b + q < x * b + p = omega (arith, wide) in
    ap (λ o. ordering_then o (nat_cmp p q)) e ∙ nat_cmp_is (x * b + p) (y * b + q) Greater below)

wide : (k : ℕ) → zero < 256 ^ k
wide zero = omega arith
wide (suc k) = let more = wide k in rw pow-succ' (omega (arith, more))

digit : (k n : ℕ) → byte_at k n ≡ n / 256 ^ k % 256
digit zero n = omega arith
digit (suc k) n = refl

-- the low digits of a number
low : (k n : ℕ) → n % 256 ^ suc k ≡ (byte_at k n) * 256 ^ k + n % 256 ^ k
low k n = ap (λ m. n % m) (pow-succ' 256 k) ∙ mod-mul n (lit< tt) (wide k) ∙ ap (λ d. d * 256 ^ k + n % 256 ^ k) (sym (digit k n))

bytes_cmp : (k x y : ℕ) → slice_cmp nat_cmp (bytes_high_first k x) (bytes_high_first k y) ≡ nat_cmp (x % 256 ^ k) (y % 256 ^ k)
bytes_cmp zero x y = sym (ap (λ n. nat_cmp n (y % 256 ^ 0)) (mod-one x) ∙ ap (λ n. nat_cmp 0 n) (mod-one y))
bytes_cmp (suc k) x y =
    ap (λ o. ordering_then (nat_cmp (byte_at k x) (byte_at k y)) o) (bytes_cmp k x y)
    ∙ digits_cmp (256 ^ k) (byte_at k x) (byte_at k y) (x % 256 ^ k) (y % 256 ^ k) (mod-lt x (wide k)) (mod-lt y (wide k))
    ∙ sym (ap (λ n. nat_cmp n (y % 256 ^ suc k)) (low k x) ∙ ap (λ n. nat_cmp (byte_at k x * 256 ^ k + x % 256 ^ k) n) (low k y))

whole_cmp : (k x y : ℕ) → x < 256 ^ k → y < 256 ^ k → slice_cmp nat_cmp (bytes_high_first k x) (bytes_high_first k y) ≡ nat_cmp x y
whole_cmp k x y fx fy = bytes_cmp k x y ∙ ap (λ n. nat_cmp n (y % 256 ^ k)) (mod-eq_of_lt fx) ∙ ap (λ n. nat_cmp x n) (mod-eq_of_lt fy)

pub be32_order : StandByRank be32 IsU32 (λ n. n)
unfolding be32
be32_order = record { long = λ x y. refl; order = λ x y fx fy. whole_cmp 4 x y fx fy }

pub be64_order : StandByRank be64 IsU64 (λ n. n)
unfolding be64
be64_order = record { long = λ x y. refl; order = λ x y fx fy. whole_cmp 8 x y fx fy }

-- of the same number of bytes each, fronts decide first
append_cmp : (xs ys rs ss : List ℕ) → length xs ≡ length ys
    → slice_cmp nat_cmp (xs ++ rs) (ys ++ ss) ≡ ordering_then (slice_cmp nat_cmp xs ys) (slice_cmp nat_cmp rs ss)
append_cmp [] [] rs ss long = refl
append_cmp [] (y ∷ ys) rs ss long = absurd (omega (arith, long))
append_cmp (x ∷ xs) [] rs ss long = absurd (omega (arith, long))
append_cmp (x ∷ xs) (y ∷ ys) rs ss long =
    ap (λ o. ordering_then (nat_cmp x y) o) (append_cmp xs ys rs ss (omega (arith, long))) ∙ regroup (nat_cmp x y) (slice_cmp nat_cmp xs ys) (slice_cmp nat_cmp rs ss)
  where
    regroup : (a b c : Ordering) → ordering_then a (ordering_then b c) ≡ ordering_then (ordering_then a b) c
    regroup Less b c = refl
    regroup Equal b c = refl
    regroup Greater b c = refl

-- what stands by its first part, and then by its second, which is below b
pub pair_order : {A B : Type 0} {f : A → List ℕ} {g : B → List ℕ} {F : A → Type 0} {G : B → Type 0} {rank : A → ℕ} {next : B → ℕ} (b : ℕ)
    → ((y : B) → G y → next y < b) → StandByRank f F rank → StandByRank g G next
    → StandByRank {A = A × B} (λ p. f p.0 ++ g p.1) (λ p. F p.0 × G p.1) (λ p. rank p.0 * b + next p.1)
pair_order {f = f} {g = g} {rank = rank} {next = next} b low first second = record {
  long = λ x y.
      length-append (f x.0) (g x.1) ∙ ap (λ n. n + length (g x.1)) (first.long x.0 y.0)
      ∙ ap (λ n. length (f y.0) + n) (second.long x.1 y.1) ∙ sym (length-append (f y.0) (g y.1));
  order = λ x y fx fy.
      append_cmp (f x.0) (f y.0) (g x.1) (g y.1) (first.long x.0 y.0)
      ∙ ap (λ o. ordering_then o (slice_cmp nat_cmp (g x.1) (g y.1))) (first.order x.0 y.0 fx.0 fy.0)
      ∙ ap (λ o. ordering_then (nat_cmp (rank x.0) (rank y.0)) o) (second.order x.1 y.1 fx.1 fy.1)
      ∙ digits_cmp b (rank x.0) (rank y.0) (next x.1) (next y.1) (low x.1 fx.1) (low y.1 fy.1);
}

-- what stands as its number does
pub number_order : {A : Type 0} {f : ℕ → List ℕ} {F : ℕ → Type 0} (number : A → ℕ) (G : A → Type 0) → ((x : A) → G x → F (number x))
    → StandByRank f F (λ n. n) → StandByRank (λ x. f (number x)) G number
number_order number G fit by = record {
  long = λ x y. by.long (number x) (number y);
  order = λ x y fx fy. by.order (number x) (number y) (fit x fx) (fit y fy);
}
