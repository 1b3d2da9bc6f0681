-- Rows of uses stand in the order of their keys exactly where they rise by serial.
use Rattle.std.proofs.Common.{◌≡◌, ◌<◌, ◌+◌, ◌*◌, ◌/◌, ◌%◌, ◌^◌, ℕ, zero, suc, List, [], ◌∷◌, map, T, refl, sym, ◌∙◌, ap, subst, arith, lit<}
use Rattle.std.specs.Ordering.{nat_cmp, ordering_then, is_lt, MatchOrdering}
use Rattle.std.specs.declared.cmp.Ordering.{Ordering}
use Rattle.std.specs.declared.cmp.Ordering.TheVariants.{Less, Equal, Greater}
use Rattle.std.specs.Cmp.{nat_cmp_is}
use Rattle.std.specs.Cmp.Lexicographic.{slice_cmp}
use Rattle.std.specs.FinMap.Entries.{below_all}
use Rattle.std.specs.Int.{byte_at, bytes_high_first}
use Rattle.std.proofs.lemmas.Cmp.{ranked, by_ranked}
use Rattle.std.proofs.Math.Arith.{mod-mul}
use Rattle.std.proofs.Math.Nat.{mod-one, mod-lt, mod-eq_of_lt, mul-le-mul_right, pow-succ'}
use Rattle.rows.specs.Rows.{Each, AllAbove, IsRising}
use Rattle.sat_base.specs.Rows.{Key, AreInOrder, entry, key_cmp, key_of}
use Rattle.sat_base.proofs.RowLists.{both, split}
use Rattle.order_uses.specs.Opening.{HasSerial}
use Rattle.order_uses.specs.Rows.{row_of_use, use_id}
use Rattle.order_uses.specs.Uses.{use_rank}
use Rattle.order_uses.specs.declared.row.OrderUse.{OrderUse}

-- ---- numbers stand in the order of their bytes

weaker : (o : Ordering) {P Q R P' Q' R' : Type 0} → (P → P') → (Q → Q') → (R → R') → MatchOrdering o P Q R → MatchOrdering o P' Q' R'
weaker Less f g h m = f m
weaker Equal f g h m = g m
weaker Greater f g h m = h m

-- two digits to a base compare by the first, and then by the second
digits_cmp : (b x y p q : ℕ) → p < b → q < b → ordering_then (nat_cmp x y) (nat_cmp p q) ≡ nat_cmp (x * b + p) (y * b + q)
digits_cmp b x y p q low lower = by_ranked (x < y) (x ≡ y) (y < x) (nat_cmp x y) (ranked x y (nat_cmp x y) refl)
    (λ e lt. let wide = mul-le-mul_right b lt in let below : x * b + p < y * b + q = omega (arith, wide) in
    ap (λ o. ordering_then o (nat_cmp p q)) e ∙ nat_cmp_is (x * b + p) (y * b + q) Less below)
    (λ e same. let high = ap (λ n. n * b) same in
    ap (λ o. ordering_then o (nat_cmp p q)) e ∙ nat_cmp_is (x * b + p) (y * b + q) (nat_cmp p q)
    (weaker (nat_cmp p q) (λ lt. omega (arith, high, lt)) (λ eq. omega (arith, high, eq)) (λ lt. omega (arith, high, lt)) (ranked p q (nat_cmp p q) refl)))
    (λ e lt. let wide = mul-le-mul_right b lt in let below : y * b + q < x * b + p = omega (arith, wide) in
    ap (λ o. ordering_then o (nat_cmp p q)) e ∙ nat_cmp_is (x * b + p) (y * b + q) Greater below)

wide : (k : ℕ) → zero < 256 ^ k
wide zero = omega arith
wide (suc k) = let more = wide k in rw pow-succ' (omega (arith, more))

digit : (k n : ℕ) → byte_at k n ≡ n / 256 ^ k % 256
digit zero n = omega arith
digit (suc k) n = refl

-- the low digits of a number
low : (k n : ℕ) → n % 256 ^ suc k ≡ (byte_at k n) * 256 ^ k + n % 256 ^ k
low k n = ap (λ m. n % m) (pow-succ' 256 k) ∙ mod-mul n (lit< tt) (wide k) ∙ ap (λ d. d * 256 ^ k + n % 256 ^ k) (sym (digit k n))

bytes_cmp : (k x y : ℕ) → slice_cmp nat_cmp (bytes_high_first k x) (bytes_high_first k y) ≡ nat_cmp (x % 256 ^ k) (y % 256 ^ k)
bytes_cmp zero x y = sym (ap (λ n. nat_cmp n (y % 256 ^ 0)) (mod-one x) ∙ ap (λ n. nat_cmp 0 n) (mod-one y))
bytes_cmp (suc k) x y =
    ap (λ o. ordering_then (nat_cmp (byte_at k x) (byte_at k y)) o) (bytes_cmp k x y)
    ∙ digits_cmp (256 ^ k) (byte_at k x) (byte_at k y) (x % 256 ^ k) (y % 256 ^ k) (mod-lt x (wide k)) (mod-lt y (wide k))
    ∙ sym (ap (λ n. nat_cmp n (y % 256 ^ suc k)) (low k x) ∙ ap (λ n. nat_cmp (byte_at k x * 256 ^ k + x % 256 ^ k) n) (low k y))

whole_cmp : (k x y : ℕ) → x < 256 ^ k → y < 256 ^ k → slice_cmp nat_cmp (bytes_high_first k x) (bytes_high_first k y) ≡ nat_cmp x y
whole_cmp k x y fx fy = bytes_cmp k x y ∙ ap (λ n. nat_cmp n (y % 256 ^ k)) (mod-eq_of_lt fx) ∙ ap (λ n. nat_cmp x n) (mod-eq_of_lt fy)

id_cmp : (x y : ℕ) → x < 2 ^ 64 → y < 2 ^ 64 → slice_cmp nat_cmp (use_id x) (use_id y) ≡ nat_cmp x y
unfolding use_id
id_cmp x y fx fy = whole_cmp 8 x y fx fy

-- ---- keys

abbrev pub use_key : OrderUse → Key
use_key one = key_of (row_of_use one)

pub keys_cmp : (a b : OrderUse) → HasSerial a → HasSerial b → key_cmp (use_key a) (use_key b) ≡ nat_cmp a.serial.0 b.serial.0
keys_cmp a b fa fb = id_cmp a.serial.0 b.serial.0 fa fb

lower : (x y : ℕ) → T (is_lt (nat_cmp x y)) → x < y
lower x y h =
    elim (nat_cmp x y) as (λ o. o ≡ nat_cmp x y → T (is_lt o) → x < y) [
      | Less ↦ λ e p. ranked x y Less e
      | Equal ↦ λ e p. absurd p
      | Greater ↦ λ e p. absurd p
    ] refl h

less : (x y : ℕ) → x < y → T (is_lt (nat_cmp x y))
less x y lt = subst (λ (o : Ordering). T (is_lt o)) (nat_cmp_is x y Less lt) tt

abbrev pub the_entries : List OrderUse → List (Key × List ℕ)
the_entries uses = map entry (map row_of_use uses)

above_of : (one : OrderUse) (rest : List OrderUse) → HasSerial one → Each HasSerial rest → T (below_all key_cmp (use_key one) (the_entries rest)) → AllAbove use_rank one.serial.0 rest
above_of one [] fits each h = tt
above_of one (next ∷ rest) fits each h =
    let s = split _ _ h in
    (lower one.serial.0 next.serial.0 (subst (λ (o : Ordering). T (is_lt o)) (keys_cmp one next fits each.0) s.0), above_of one rest fits each.1 s.1)

-- rows in the order of their keys rise
pub rising_of : (uses : List OrderUse) → Each HasSerial uses → AreInOrder (map row_of_use uses) → IsRising use_rank uses
rising_of [] each order = tt
rising_of (one ∷ rest) each order =
    let s = split _ _ order in
    (above_of one rest each.0 each.1 s.0, rising_of rest each.1 s.1)

below_of : (one : OrderUse) (rest : List OrderUse) → HasSerial one → Each HasSerial rest → AllAbove use_rank one.serial.0 rest → T (below_all key_cmp (use_key one) (the_entries rest))
below_of one [] fits each above = tt
below_of one (next ∷ rest) fits each above =
    both _ _ (subst (λ (o : Ordering). T (is_lt o)) (sym (keys_cmp one next fits each.0)) (less one.serial.0 next.serial.0 above.0)) (below_of one rest fits each.1 above.1)

-- and rows that rise stand in the order of their keys
pub order_of_rising : (uses : List OrderUse) → Each HasSerial uses → IsRising use_rank uses → AreInOrder (map row_of_use uses)
order_of_rising [] each rising = tt
order_of_rising (one ∷ rest) each rising = both _ _ (below_of one rest each.0 each.1 rising.0) (order_of_rising rest each.1 rising.1)

-- ---- the rows at the front of some
