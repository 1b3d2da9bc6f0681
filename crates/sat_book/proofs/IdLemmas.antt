-- Ids as bytes are told apart as their numbers are.
use Rattle.std.proofs.Common.{◌≡◌, ℕ, ◌+◌, ◌*◌, ◌<◌, ◌^◌, Bool, true, false, List, [], ◌++◌, refl, sym, ap, ◌∙◌, arith}
use Rattle.std.specs.Prelude.{◌==◌}
use Rattle.std.specs.declared.cmp.Ordering.TheVariants.{Equal}
use Rattle.std.specs.Cmp.{eq_by_cmp_equiv}
use Rattle.std.proofs.lemmas.Bool.Decides.{nat_tests}
use Rattle.sat_base.specs.Rows.{Key, key_cmp}
use Rattle.sat_base.proofs.KeyOrder.{keys_total}
use Rattle.record_rows.specs.Numbers.{be32, be64, ◌‖◌, IsU32, IsU64}
use Rattle.settlement.specs.declared.row.SettledRow.{SettledRow}
use Rattle.settlement.specs.Place.{place}
use Rattle.settlement.specs.Rows.{key}
use Rattle.record_rows.specs.Laws.Apart.{be32_apart, be64_apart}
use Rattle.sat_book.proofs.FindLemmas.{ties, tied}
use Rattle.sat_base.proofs.Tests.{equal}

-- a key ties with itself
pub own_tie : (key : Key) → ties key key ≡ true
own_tie key = (eq_by_cmp_equiv keys_total).refl key

-- a key stands where it stands
pub own_order : (key : Key) → key_cmp key key ≡ Equal
own_order key = equal (key_cmp key key) (own_tie key)

pub by_number : (kind : ℕ) (x y : List ℕ) (m n : ℕ) → (x ≡ y → m ≡ n) → (m ≡ n → x ≡ y) → ties (kind, x) (kind, y) ≡ (m == n)
by_number kind x y m n to back = go (m == n) refl
  where
    apart : (b : Bool) → ties (kind, x) (kind, y) ≡ b → (m == n) ≡ false → b ≡ false
    apart true tie other =
        let same : m ≡ n = to (ap (λ (k : Key). k.1) (tied (kind, x) (kind, y) tie)) in
        let no : (m == n) ≡ true = grind (arith, nat_tests, same) in
        sym no ∙ other
    apart false tie other = refl

    go : (b : Bool) → (m == n) ≡ b → ties (kind, x) (kind, y) ≡ b
    go true is =
        let same : m ≡ n = grind (arith, nat_tests, is) in
        ap (λ (l : List ℕ). ties (kind, x) (kind, l)) (sym (back same)) ∙ own_tie (kind, x)
    go false is = apart (ties (kind, x) (kind, y)) refl is

pub ids32 : (kind m n : ℕ) → IsU32 m → IsU32 n → ties (kind, be32 m) (kind, be32 n) ≡ (m == n)
ids32 kind m n fm fn = by_number kind (be32 m) (be32 n) m n (λ e. (be32_apart.one m n [] [] fm fn (ap (λ (l : List ℕ). l ++ []) e)).0) (ap be32)

pub ids64 : (kind m n : ℕ) → IsU64 m → IsU64 n → ties (kind, be64 m) (kind, be64 n) ≡ (m == n)
ids64 kind m n fm fn = by_number kind (be64 m) (be64 n) m n (λ e. (be64_apart.one m n [] [] fm fn (ap (λ (l : List ℕ). l ++ []) e)).0) (ap be64)

high : (m n a b : ℕ) → a < 2 ^ 32 → b < 2 ^ 32 → m * 2 ^ 32 + a ≡ n * 2 ^ 32 + b → m ≡ n
high m n a b fa fb e = omega arith

-- of two numbers, by the one that they make together
pub ids_of_two : (f : ℕ → List ℕ) (kind m n a b : ℕ) → ((x y : ℕ) → x ≡ m → y ≡ n → f x ++ be32 a ≡ f y ++ be32 b → (x ≡ y) × (be32 a ≡ be32 b)) → IsU32 a → IsU32 b
    → ties (kind, f m ‖ be32 a) (kind, f n ‖ be32 b) ≡ (m * 2 ^ 32 + a == n * 2 ^ 32 + b)
ids_of_two f kind m n a b apart fa fb =
    by_number kind (f m ‖ be32 a) (f n ‖ be32 b) (m * 2 ^ 32 + a) (n * 2 ^ 32 + b)
    (λ e. let parts = apart m n refl refl e in
    let low : a ≡ b = (be32_apart.one a b [] [] fa fb (ap (λ (l : List ℕ). l ++ []) parts.1)).0 in
    let top : m ≡ n = parts.0 in
    omega arith)
    (λ e. let top : m ≡ n = high m n a b fa fb e in
    let low : a ≡ b = omega arith in
    ap (λ (x : ℕ). f x ‖ be32 a) top ∙ ap (λ (x : ℕ). f n ‖ be32 x) low)

pub ids_64_32 : (kind m n a b : ℕ) → IsU64 m → IsU64 n → IsU32 a → IsU32 b → ties (kind, be64 m ‖ be32 a) (kind, be64 n ‖ be32 b) ≡ (m * 2 ^ 32 + a == n * 2 ^ 32 + b)
ids_64_32 kind m n a b fm fn fa fb = ids_of_two be64 kind m n a b (λ x y is_m is_n e. be64_apart.one x y (be32 a) (be32 b) (rw is_m fm) (rw is_n fn) e) fa fb

pub ids_32_32 : (kind m n a b : ℕ) → IsU32 m → IsU32 n → IsU32 a → IsU32 b → ties (kind, be32 m ‖ be32 a) (kind, be32 n ‖ be32 b) ≡ (m * 2 ^ 32 + a == n * 2 ^ 32 + b)
ids_32_32 kind m n a b fm fn fa fb = ids_of_two be32 kind m n a b (λ x y is_m is_n e. be32_apart.one x y (be32 a) (be32 b) (rw is_m fm) (rw is_n fn) e) fa fb

pub ids_of_rows : (kind : ℕ) (x y : SettledRow) → IsU64 x.serial.0 → IsU64 y.serial.0 → IsU32 x.node.0 → IsU32 y.node.0
    → ties (kind, be64 x.serial.0 ‖ be32 x.node.0) (kind, be64 y.serial.0 ‖ be32 y.node.0) ≡ (key x == key y)
unfolding place
ids_of_rows kind x y fm fn fa fb = ids_64_32 kind x.serial.0 y.serial.0 x.node.0 y.node.0 fm fn fa fb
