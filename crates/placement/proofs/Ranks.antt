-- How many of the first flags are set, in each block and where one is set down.
use Rattle.std.proofs.Common.{◌≡◌, ℕ, zero, suc, ◌+◌, ◌-◌, ◌*◌, ◌/◌, ◌<◌, ◌≤◌, Bool, true, false, List, [], ◌∷◌, length, get_or, set, refl, sym, ap, inl, inr, arith, length-set, get_or-set_same, get_or-set_other, ◌∙◌, take, drop, zero-add, min}
use Rattle.std.specs.Prelude.{◌==◌, if◌then◌else◌, nat_lt, slice_index}
use Rattle.std.proofs.lemmas.Bool.{cases_eq, cases_lt, eq-eqb, ne_eqb}
use Rattle.std.proofs.lemmas.List.{get_or_read}
use Rattle.std.proofs.lemmas.Bool.Decides.{nat_tests}
use Rattle.placement.specs.Flags.{rank, count, IsCounted}

pub rank_past : (j : ℕ) (flags : List Bool) → length flags ≤ j → rank j flags ≡ count flags
rank_past zero [] le = refl
rank_past (suc j) [] le = refl
rank_past zero (flag ∷ flags) le = absurd (omega arith)
rank_past (suc j) (true ∷ flags) le = ap suc (rank_past j flags (omega arith))
rank_past (suc j) (false ∷ flags) le = rank_past j flags (omega arith)

pub rank-le : (i j : ℕ) (flags : List Bool) → i ≤ j → rank i flags ≤ rank j flags
rank-le zero j flags le = omega arith
rank-le (suc i) zero flags le = absurd (omega arith)
rank-le (suc i) (suc j) [] le = omega arith
rank-le (suc i) (suc j) (true ∷ flags) le = let rest = rank-le i j flags (omega arith) in omega arith
rank-le (suc i) (suc j) (false ∷ flags) le = rank-le i j flags (omega arith)

-- one more of the flags
rank_more : (i : ℕ) (flags : List Bool) → rank (i + 1) flags ≡ rank i flags + (if get_or flags i false then 1 else 0)
rank_more zero [] = refl
rank_more (suc i) [] = let next : suc i + 1 ≡ suc (i + 1) = omega arith in rw next refl
rank_more zero (true ∷ flags) = refl
rank_more zero (false ∷ flags) = refl
rank_more (suc i) (true ∷ flags) = let next : suc i + 1 ≡ suc (i + 1) = omega arith in let rest = rank_more i flags in rw next (omega arith)
rank_more (suc i) (false ∷ flags) = let next : suc i + 1 ≡ suc (i + 1) = omega arith in rw next (rank_more i flags)

pub rank_more_yes : (i : ℕ) (flags : List Bool) → get_or flags i false ≡ true → rank (i + 1) flags ≡ rank i flags + 1
rank_more_yes i flags is = rank_more i flags ∙ rw is refl

pub rank_more_no : (i : ℕ) (flags : List Bool) → get_or flags i false ≡ false → rank (i + 1) flags ≡ rank i flags
rank_more_no i flags is = rank_more i flags ∙ rw is (omega arith)

rank_none : (j : ℕ) → rank j [] ≡ 0
rank_none zero = refl
rank_none (suc j) = refl

rank_first : (n : ℕ) (flags : List Bool) → rank n flags ≡ count (take n flags)
rank_first zero flags = refl
rank_first (suc n) [] = refl
rank_first (suc n) (true ∷ flags) = ap suc (rank_first n flags)
rank_first (suc n) (false ∷ flags) = rank_first n flags

-- a part of the flags
pub rank_part : (i n : ℕ) (flags : List Bool) → rank (i + n) flags ≡ rank i flags + count (take n (drop i flags))
rank_part zero n flags = rw zero-add (rank_first n flags ∙ sym (zero-add _))
rank_part (suc i) n [] = rank_none (suc i + n) ∙ rw (← rank_first n [], rank_none n) refl
rank_part (suc i) n (true ∷ flags) = let next : suc i + n ≡ suc (i + n) = omega arith in let rest = rank_part i n flags in rw next (omega arith)
rank_part (suc i) n (false ∷ flags) = let next : suc i + n ≡ suc (i + n) = omega arith in rw next (rank_part i n flags)

-- the flags of a block, which may be the last one
pub rank_block : (block end n : ℕ) (flags : List Bool) → block * 256 ≤ length flags → end ≡ min (length flags) (block * 256 + 256) → n ≡ count (take (end - block * 256) (drop (block * 256) flags)) → rank (256 * block) flags + n ≡ rank (256 * (block + 1)) flags
rank_block block end n flags le end_is n_is =
    let to : ℕ → ℕ = λ j. rank j flags in
    let start : to (256 * block) ≡ to (block * 256) = ap to (omega arith) in
    let part = rank_part (block * 256) (end - block * 256) flags in
    let parts : to (block * 256 + (end - block * 256)) ≡ to end = ap to (omega arith) in
    let whole : to end ≡ to (256 * (block + 1)) = elim (cases_lt (block * 256 + 256) (length flags)) [
      | inl within ↦ ap to (omega arith)
      | inr past ↦ ap to (omega arith) ∙ sym (rank_past (256 * (block + 1)) flags (omega arith))
    ] in
    omega arith

pub count-le : (flags : List Bool) → count flags ≤ length flags
count-le [] = omega arith
count-le (true ∷ flags) = let rest = count-le flags in omega arith
count-le (false ∷ flags) = let rest = count-le flags in omega arith

pub rank-le-length : (j : ℕ) (flags : List Bool) → rank j flags ≤ length flags
rank-le-length j flags =
    let all = count-le flags in
    elim (cases_lt j (length flags)) [
      | inl within ↦ let le = rank-le j (length flags) flags (omega arith) in omega arith
      | inr past ↦ rw (rank_past j flags past) all
    ]

-- 1 where a place is among the first j
abbrev pub one_below : ℕ → ℕ → ℕ
one_below at j = if nat_lt at j then 1 else 0

-- a flag that was set is set down
pub rank_cleared : (j : ℕ) (flags : List Bool) (at : ℕ) → get_or flags at false ≡ true → rank j (set flags at false) + one_below at j ≡ rank j flags
rank_cleared zero flags at is = grind (arith, nat_tests)
rank_cleared (suc j) [] at is = cc
rank_cleared (suc j) (true ∷ flags) zero is = grind (arith, nat_tests)
rank_cleared (suc j) (false ∷ flags) zero is = cc
rank_cleared (suc j) (true ∷ flags) (suc at) is = let rest = rank_cleared j flags at is in grind (arith, nat_tests, rest)
rank_cleared (suc j) (false ∷ flags) (suc at) is = let rest = rank_cleared j flags at is in grind (arith, nat_tests, rest)

-- a place is in one block
pub one_in_block : (at b : ℕ) → one_below at (256 * (b + 1)) ≡ one_below at (256 * b) + (if b == at / 256 then 1 else 0)
one_in_block at b = grind (arith, nat_tests)

index_set : (xs : List ℕ) (i v b : ℕ) → i < length xs → slice_index (set xs i v) b ≡ (if b == i then v else slice_index xs b)
index_set xs i v b lt = elim (cases_eq b i) [
  | inl same ↦ rw (same, get_or-set_same xs i v 0 lt, eq-eqb i i refl) refl
  | inr other ↦ rw (get_or-set_other xs i b v 0 other, ne_eqb b i other) refl
]

-- a place at which fewer than all are set before it is one of the flags
pub within-count : (j : ℕ) (flags : List Bool) → rank j flags < count flags → j < length flags
within-count j flags lt = elim (cases_lt j (length flags)) [ inl within ↦ within | inr past ↦ let all = rank_past j flags past in absurd (omega arith) ]

-- what holds where a flag that was set is set down, and n was the count of its block
pub record AreCleared (flags : List Bool) (counts : List ℕ) (total at n : ℕ) : Type 0 where
  pub some : 1 ≤ n
  pub one : 1 ≤ total
  pub counted : IsCounted (set flags at false) (set counts (at / 256) (n - 1)) (total - 1)

pub counted-cleared : (flags : List Bool) (counts : List ℕ) (total at n : ℕ) (flag : Bool) → IsCounted flags counts total → at < length flags → flag ≡ get_or flags at flag → flag ≡ true → n ≡ get_or counts (at / 256) n → AreCleared flags counts total at n
counted-cleared flags counts total at n flag counted lt read was read_n =
    let is : get_or flags at false ≡ true = sym (get_or_read flags at flag lt read false) ∙ was in
    let covered = counted.covered in
    let within : at / 256 < length counts = omega arith in
    let n_is : n ≡ slice_index counts (at / 256) = get_or_read counts (at / 256) n within read_n 0 in
    let below : (j : ℕ) → rank j (set flags at false) + one_below at j ≡ rank j flags = λ j. rank_cleared j flags at is in
    let some : 1 ≤ n = grind (arith, nat_tests, n_is, counted.blocks (at / 256), rank-le (256 * (at / 256)) (256 * (at / 256 + 1)) (set flags at false) (omega arith), below (256 * (at / 256)), below (256 * (at / 256 + 1))) in
    record {
      some = some;
      one = grind (arith, nat_tests, counted.all, below (length flags));
      counted = record {
        all = grind (arith, nat_tests, counted.all, below (length flags), length-set flags at false);
        covered = simp length-set covered;
        blocks = λ b. grind (arith, nat_tests, some, n_is, counted.blocks b, below (256 * b), below (256 * (b + 1)), one_in_block at b, index_set counts (at / 256) (n - 1) b within);
      };
    }
