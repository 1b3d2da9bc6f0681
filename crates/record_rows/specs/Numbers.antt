-- Numbers as bytes, the most significant one first, and fields one behind the other.
use Rattle.std.specs.Prelude.{◌≡◌, ℕ, ◌/◌, ◌%◌, ◌^◌, ◌<◌, List, [], ◌∷◌, ◌++◌, length}
use Rattle.std.specs.List.{flat_map}
use Rattle.std.specs.Int.{w16, w32, w64, to_be_bytes}

infixr 65 ◌‖◌
-- a field, and the fields behind it
abbrev pub ◌‖◌ : List ℕ → List ℕ → List ℕ
field ‖ rest = field ++ rest

-- a number in 1 byte, in 2, in 4, in 8, and in 16
abbrev pub be8 : ℕ → List ℕ
be8 n = n ∷ []

unfoldable pub be16 : ℕ → List ℕ
be16 n = to_be_bytes w16 n

unfoldable pub be32 : ℕ → List ℕ
be32 n = to_be_bytes w32 n

unfoldable pub be64 : ℕ → List ℕ
be64 n = to_be_bytes w64 n

unfoldable pub be128 : ℕ → List ℕ
be128 n = be64 (n / 2 ^ 64) ‖ be64 (n % 2 ^ 64)

-- a list: how many items it has, and the items
abbrev pub listed : {A : Type 0} → (A → List ℕ) → List A → List ℕ
listed spelling items = be8 (length items) ‖ flat_map spelling items

-- what a type holds
abbrev pub IsU8 : ℕ → Type 0
IsU8 n = n < 2 ^ 8

abbrev pub IsU16 : ℕ → Type 0
IsU16 n = n < 2 ^ 16

abbrev pub IsU32 : ℕ → Type 0
IsU32 n = n < 2 ^ 32

abbrev pub IsU64 : ℕ → Type 0
IsU64 n = n < 2 ^ 64

abbrev pub IsU128 : ℕ → Type 0
IsU128 n = n < 2 ^ 128

abbrev pub IsHash : List ℕ → Type 0
IsHash bytes = length bytes ≡ 32
