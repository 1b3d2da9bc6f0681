-- The rows of all blocks, by one of them.
use Rattle.std.proofs.Common.{◌≡◌, ℕ, suc, zero, ◌+◌, ◌-◌, ◌<◌, ◌≤◌, List, [], ◌∷◌, ◌++◌, length, take, drop, get_or, Some, None, length-append, refl, sym, ap, ◌∙◌, subst, arith}
use Rattle.std.specs.Prelude.{slice_get, slice_set, insert, remove}
use Rattle.std.proofs.lemmas.List.{drop_more, take-append-drop, append_assoc, set_split, take_more_set, take-set-le, drop-set-lt, nil_from_length}
use Rattle.std.proofs.lemmas.Option.{slice_get_read}
use Rattle.std.specs.Option.{option_or}
use Rattle.rows.specs.Rows.{RowList, row_at, first_above, added, without, AllAbove, IsRising}
use Rattle.rows.specs.Blocks.{all_rows, IsBlock, AreBlocks, BeginsBy, BeginsAbove, IsHolder}
use Rattle.rows.proofs.OrderLemmas.{above_behind, rising_behind, below_front, above_begin, row_within, next_within, added_within, without_within, rising_front}

module _ {R : Type 0} where
  pub all_rows-append : (xs ys : List (RowList R)) → all_rows (xs ++ ys) ≡ all_rows xs ++ all_rows ys
  all_rows-append [] ys = refl
  all_rows-append (x ∷ xs) ys = ap (λ (l : List R). x.rows ++ l) (all_rows-append xs ys) ∙ sym (append_assoc x.rows (all_rows xs) (all_rows ys))

  pub blocks_behind : (n : ℕ) (blocks : List (RowList R)) → AreBlocks blocks → AreBlocks (drop n blocks)
  blocks_behind zero blocks are = are
  blocks_behind (suc n) [] are = tt
  blocks_behind (suc n) (b ∷ rest) are = blocks_behind n rest are.1

  pub cut_at : (blocks : List (RowList R)) (at : ℕ) (b : RowList R) → at < length blocks → b ≡ get_or blocks at b → drop at blocks ≡ b ∷ drop (at + 1) blocks
  cut_at blocks at b lt is = rw (drop_more blocks at b lt, ← is) refl

  pub block_at : (blocks : List (RowList R)) (at : ℕ) (b : RowList R) → at < length blocks → b ≡ get_or blocks at b → AreBlocks blocks → IsBlock b
  block_at blocks at b lt is are = (subst AreBlocks (cut_at blocks at b lt is) (blocks_behind at blocks are)).0

  front_of : (xs ys : List R) → 1 ≤ length xs → slice_get (xs ++ ys) 0 ≡ slice_get xs 0
  front_of [] ys some = let no : 1 ≤ 0 = some in grind (arith)
  front_of (x ∷ xs) ys some = refl

  -- the first row of a block and those behind it
  pub first_at : (blocks : List (RowList R)) (at : ℕ) (b : RowList R) → at < length blocks → b ≡ get_or blocks at b → AreBlocks blocks
      → slice_get (all_rows (drop at blocks)) 0 ≡ slice_get b.rows 0
  first_at blocks at b lt is are =
      rw (cut_at blocks at b lt is) (front_of b.rows (all_rows (drop (at + 1) blocks)) (block_at blocks at b lt is are).some)

  pub rows_at : (blocks : List (RowList R)) (at : ℕ) (b : RowList R) → at < length blocks → b ≡ get_or blocks at b
      → all_rows blocks ≡ all_rows (take at blocks) ++ (b.rows ++ all_rows (drop (at + 1) blocks))
  rows_at blocks at b lt is =
      ap (λ (l : List (RowList R)). all_rows l) (sym (take-append-drop at blocks)) ∙ all_rows-append (take at blocks) (drop at blocks)
      ∙ ap (λ (l : List (RowList R)). all_rows (take at blocks) ++ all_rows l) (cut_at blocks at b lt is)

  pub rows_cut : (n : ℕ) (blocks : List (RowList R)) → all_rows blocks ≡ all_rows (take n blocks) ++ all_rows (drop n blocks)
  rows_cut n blocks = ap (λ (l : List (RowList R)). all_rows l) (sym (take-append-drop n blocks)) ∙ all_rows-append (take n blocks) (drop n blocks)

  module _ (rank : R → ℕ) where
    all_above : (k : ℕ) (blocks : List (RowList R)) → AllAbove rank k (all_rows blocks) → AllAbove rank k (all_rows (drop 1 blocks))
    all_above k [] above = tt
    all_above k (b ∷ rest) above = above_behind rank k b.rows (all_rows rest) above

    pub held : (k : ℕ) (blocks : List (RowList R)) (until at : ℕ) → at ≡ until - 1 → IsRising rank (all_rows blocks)
        → (1 ≤ until → BeginsBy rank k (all_rows (drop (until - 1) blocks))) → BeginsAbove rank k (all_rows (drop until blocks)) → IsHolder rank k blocks at
    held k blocks zero at is rising by above =
        let none : at ≡ 0 = omega (arith, is) in
        rw none (record { below = tt; above = all_above k blocks (above_begin rank k (all_rows blocks) rising above) })
    held k blocks (suc n) at is rising by above =
        let same : at ≡ n = omega (arith, is) in
        let less : suc n - 1 ≡ n = omega arith in
        let front : BeginsBy rank k (all_rows (drop n blocks)) = subst (λ (m : ℕ). BeginsBy rank k (all_rows (drop m blocks))) less (by (omega arith)) in
        let next : suc n ≡ n + 1 = omega arith in
        let behind = above_begin rank k (all_rows (drop (suc n) blocks)) (rising_behind rank (all_rows (take (suc n) blocks)) (all_rows (drop (suc n) blocks)) (subst (IsRising rank) (rows_cut (suc n) blocks) rising)) above in
        let here : IsHolder rank k blocks n = record {
          below = below_front rank k (all_rows (take n blocks)) (all_rows (drop n blocks)) (subst (IsRising rank) (rows_cut n blocks) rising) front;
          above = subst (λ (m : ℕ). AllAbove rank k (all_rows (drop m blocks))) next behind;
        } in
        subst (λ (m : ℕ). IsHolder rank k blocks m) (sym same) here

    module _ (k : ℕ) (blocks : List (RowList R)) (at : ℕ) (b : RowList R) (lt : at < length blocks) (is : b ≡ get_or blocks at b) (holds : IsHolder rank k blocks at) where
      pub row_held : row_at rank (all_rows blocks) k ≡ row_at rank b.rows k
      row_held = rw (rows_at blocks at b lt is) (row_within rank k (all_rows (take at blocks)) b.rows (all_rows (drop (at + 1) blocks)) holds.below holds.above)

      pub next_held : first_above rank (all_rows blocks) k ≡ option_or (first_above rank b.rows k) (slice_get (all_rows (drop (at + 1) blocks)) 0)
      next_held = rw (rows_at blocks at b lt is) (next_within rank k (all_rows (take at blocks)) b.rows (all_rows (drop (at + 1) blocks)) holds.below holds.above)

  pub blocks_front : (n : ℕ) (blocks : List (RowList R)) → AreBlocks blocks → AreBlocks (take n blocks)
  blocks_front zero blocks are = tt
  blocks_front (suc n) [] are = tt
  blocks_front (suc n) (b ∷ rest) are = (are.0, blocks_front n rest are.1)

  pub blocks_more : (xs ys : List (RowList R)) → AreBlocks xs → AreBlocks ys → AreBlocks (xs ++ ys)
  blocks_more [] ys front behind = behind
  blocks_more (x ∷ xs) ys front behind = (front.0, blocks_more xs ys front.1 behind)

  -- a block in place of another, and one more behind it
  module _ (blocks : List (RowList R)) (at : ℕ) (lt : at < length blocks) where
    set_is : (new : RowList R) → slice_set blocks at new ≡ take at blocks ++ (new ∷ drop (at + 1) blocks)
    set_is new = let next : suc at ≡ at + 1 = omega arith in set_split blocks at new lt ∙ ap (λ (n : ℕ). take at blocks ++ (new ∷ drop n blocks)) next

    set_rows : (new : RowList R) → all_rows (slice_set blocks at new) ≡ all_rows (take at blocks) ++ (new.rows ++ all_rows (drop (at + 1) blocks))
    set_rows new = ap (λ (l : List (RowList R)). all_rows l) (set_is new) ∙ all_rows-append (take at blocks) (new ∷ drop (at + 1) blocks)

    pub set_blocks : (new : RowList R) → AreBlocks blocks → IsBlock new → AreBlocks (slice_set blocks at new)
    set_blocks new are is = rw (set_is new) (blocks_more (take at blocks) (new ∷ drop (at + 1) blocks) (blocks_front at blocks are) (is, blocks_behind (at + 1) blocks are))

    cut_is : (new : RowList R) → remove (slice_set blocks at new) at ≡ take at blocks ++ drop (at + 1) blocks
    cut_is new =
        let next : suc at ≡ at + 1 = omega arith in
        rw (take-set-le at blocks at new (omega arith), next, drop-set-lt (at + 1) blocks at new (omega arith)) refl

    pub cut_blocks : (new : RowList R) → AreBlocks blocks → AreBlocks (remove (slice_set blocks at new) at)
    cut_blocks new are = rw (cut_is new) (blocks_more (take at blocks) (drop (at + 1) blocks) (blocks_front at blocks are) (blocks_behind (at + 1) blocks are))

    -- how many rows, by those of one block
    length_at : (b : RowList R) → b ≡ get_or blocks at b → (mid : List R)
        → length (all_rows (take at blocks) ++ (mid ++ all_rows (drop (at + 1) blocks))) + length b.rows ≡ length (all_rows blocks) + length mid
    length_at b is mid = rw (rows_at blocks at b lt is) (simp length-append (omega arith))

    pub length_set : (b : RowList R) → b ≡ get_or blocks at b → (new : RowList R)
        → length (all_rows (slice_set blocks at new)) + length b.rows ≡ length (all_rows blocks) + length new.rows
    length_set b is new = rw (set_rows new) (length_at b is new.rows)

    pub length_cut : (b : RowList R) → b ≡ get_or blocks at b → (new : RowList R)
        → length (all_rows (remove (slice_set blocks at new) at)) + length b.rows ≡ length (all_rows blocks)
    length_cut b is new = rw (cut_is new, all_rows-append (take at blocks) (drop (at + 1) blocks)) (omega (arith, length_at b is []))

    split_is : (low up : RowList R) → insert (slice_set blocks at low) (at + 1) up ≡ (take at blocks ++ (low ∷ [])) ++ (up ∷ drop (at + 1) blocks)
    split_is low up = rw (take_more_set blocks at low lt, drop-set-lt (at + 1) blocks at low (omega arith)) refl

    split_rows : (low up : RowList R) → all_rows (insert (slice_set blocks at low) (at + 1) up)
        ≡ all_rows (take at blocks) ++ ((low.rows ++ up.rows) ++ all_rows (drop (at + 1) blocks))
    split_rows low up =
        ap (λ (l : List (RowList R)). all_rows l) (split_is low up ∙ append_assoc (take at blocks) (low ∷ []) (up ∷ drop (at + 1) blocks))
        ∙ all_rows-append (take at blocks) (low ∷ up ∷ drop (at + 1) blocks)
        ∙ ap (λ (l : List R). all_rows (take at blocks) ++ l) (sym (append_assoc low.rows up.rows (all_rows (drop (at + 1) blocks))))

    pub split_blocks : (low up : RowList R) → AreBlocks blocks → IsBlock low → IsBlock up → AreBlocks (insert (slice_set blocks at low) (at + 1) up)
    split_blocks low up are is_low is_up =
        rw (split_is low up) (blocks_more (take at blocks ++ (low ∷ [])) (up ∷ drop (at + 1) blocks)
        (blocks_more (take at blocks) (low ∷ []) (blocks_front at blocks are) (is_low, tt)) (is_up, blocks_behind (at + 1) blocks are))

    -- a row more in the block that it belongs to
    module _ (rank : R → ℕ) (row : R) (b : RowList R) (is : b ≡ get_or blocks at b) (holds : IsHolder rank (rank row) blocks at) where
      more_rows : (mid : List R) → mid ≡ added rank row b.rows
          → all_rows (take at blocks) ++ (mid ++ all_rows (drop (at + 1) blocks)) ≡ added rank row (all_rows blocks)
      more_rows mid more =
          rw (more, rows_at blocks at b lt is) (sym (added_within rank row (all_rows (take at blocks)) b.rows (all_rows (drop (at + 1) blocks)) holds.below holds.above))

      pub set_added : (new : RowList R) → new.rows ≡ added rank row b.rows → all_rows (slice_set blocks at new) ≡ added rank row (all_rows blocks)
      set_added new more = set_rows new ∙ more_rows new.rows more

      pub split_added : (low up : RowList R) → low.rows ++ up.rows ≡ added rank row b.rows
          → all_rows (insert (slice_set blocks at low) (at + 1) up) ≡ added rank row (all_rows blocks)
      split_added low up more = split_rows low up ∙ more_rows (low.rows ++ up.rows) more

      pub held_absent : row_at rank (all_rows blocks) (rank row) ≡ None → row_at rank b.rows (rank row) ≡ None
      held_absent none = sym (row_held rank (rank row) blocks at b lt is holds) ∙ none

    -- a row less in the block that it belongs to, which goes where it has no other
    module _ (rank : R → ℕ) (k : ℕ) (b : RowList R) (is : b ≡ get_or blocks at b) (holds : IsHolder rank k blocks at) where
      fewer_rows : (mid : List R) → mid ≡ without rank b.rows k
          → all_rows (take at blocks) ++ (mid ++ all_rows (drop (at + 1) blocks)) ≡ without rank (all_rows blocks) k
      fewer_rows mid less =
          rw (less, rows_at blocks at b lt is) (sym (without_within rank k (all_rows (take at blocks)) b.rows (all_rows (drop (at + 1) blocks)) holds.below holds.above))

      pub set_without : (new : RowList R) → new.rows ≡ without rank b.rows k → all_rows (slice_set blocks at new) ≡ without rank (all_rows blocks) k
      set_without new less = set_rows new ∙ fewer_rows new.rows less

      pub cut_without : (new : RowList R) → new.rows ≡ without rank b.rows k → length new.rows ≡ 0 → all_rows (remove (slice_set blocks at new) at) ≡ without rank (all_rows blocks) k
      cut_without new less none =
          ap (λ (l : List (RowList R)). all_rows l) (cut_is new) ∙ all_rows-append (take at blocks) (drop (at + 1) blocks)
          ∙ ap (λ (l : List R). all_rows (take at blocks) ++ (l ++ all_rows (drop (at + 1) blocks))) (sym (nil_from_length new.rows none)) ∙ fewer_rows new.rows less

    pub held_rising : (rank : R → ℕ) (b : RowList R) → b ≡ get_or blocks at b → IsRising rank (all_rows blocks) → IsRising rank b.rows
    held_rising rank b is rising =
        rising_front rank b.rows (all_rows (drop (at + 1) blocks)) (rising_behind rank (all_rows (take at blocks)) (b.rows ++ all_rows (drop (at + 1) blocks))
        (subst (IsRising rank) (rows_at blocks at b lt is) rising))

  pub same_at : (blocks : List (RowList R)) (at : ℕ) (b c : RowList R) → at < length blocks → b ≡ get_or blocks at b → c ≡ get_or blocks at c → b ≡ c
  same_at [] at b c lt is_b is_c = absurd (omega arith)
  same_at (x ∷ xs) zero b c lt is_b is_c = is_b ∙ sym is_c
  same_at (x ∷ xs) (suc at) b c lt is_b is_c = same_at xs at b c (omega arith) is_b is_c

  -- ---- the row at a place

  get_front : (xs ys : List R) (k : ℕ) → k < length xs → slice_get (xs ++ ys) k ≡ slice_get xs k
  get_front [] ys k lt = absurd (omega arith)
  get_front (x ∷ xs) ys zero lt = refl
  get_front (x ∷ xs) ys (suc k) lt = get_front xs ys k (omega arith)

  get_behind : (xs ys : List R) (k n : ℕ) → k ≡ length xs + n → slice_get (xs ++ ys) k ≡ slice_get ys n
  get_behind [] ys k n is = let same : k ≡ n = omega (arith, is) in ap (λ (i : ℕ). slice_get ys i) same
  get_behind (x ∷ xs) ys zero n is = absurd (omega (arith, is))
  get_behind (x ∷ xs) ys (suc k) n is = get_behind xs ys k n (omega (arith, is))

  module _ (blocks : List (RowList R)) (at : ℕ) (b : RowList R) (lt : at < length blocks) (is : b ≡ get_or blocks at b) where
    -- in a block
    pub nth_here : (k : ℕ) (row : R) → k < length b.rows → row ≡ get_or b.rows k row → slice_get (all_rows (drop at blocks)) k ≡ Some row
    nth_here k row within row_is =
        ap (λ (l : List (RowList R)). slice_get (all_rows l) k) (cut_at blocks at b lt is)
        ∙ get_front b.rows (all_rows (drop (at + 1) blocks)) k within ∙ slice_get_read b.rows (length b.rows) k row refl within row_is

    -- and behind it
    pub nth_behind : (k : ℕ) → length b.rows ≤ k → slice_get (all_rows (drop at blocks)) k ≡ slice_get (all_rows (drop (at + 1) blocks)) (k - length b.rows)
    nth_behind k past =
        ap (λ (l : List (RowList R)). slice_get (all_rows l) k) (cut_at blocks at b lt is)
        ∙ get_behind b.rows (all_rows (drop (at + 1) blocks)) k (k - length b.rows) (omega arith)
