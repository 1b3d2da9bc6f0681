-- What a segment that is put or removed does to the bytes that a node stores.
use Rattle.std.proofs.Common.{◌≡◌, ℕ, ◌+◌, ◌<◌, ◌≤◌, Bool, true, false, not, List, [], ◌∷◌, Some, None, refl, sym, ap, ◌∙◌, arith}
use Rattle.std.specs.Prelude.{if◌then◌else◌, ◌==◌, nat_lt, filter}
use Rattle.std.specs.List.{sum_by}
use Rattle.std.proofs.lemmas.List.Sums.{sum_by-cons}
use Rattle.std.proofs.lemmas.Bool.Decides.{nat_tests}
use Rattle.rows.specs.Rows.{row_at, without, AllAbove, IsRising}
use Rattle.rows.specs.Slots.{with_row}
use Rattle.node_registry.specs.declared.node.Node.{Node}
use Rattle.segment_core.specs.Record.{SegmentRecord, segment_rank}
use Rattle.machine_step.specs.Tables.{Setup}
use Rattle.machine_step.specs.PlanRules.{is_exited}
use Rattle.machine_step.specs.Stored.{piece_bytes, lies_at, stored_bytes, share_of}

module _ {X : Type 0} (f : X → ℕ) where
  weighed : (p : X → Bool) (xs : List X) → sum_by f (filter p xs) ≡ sum_by (λ x. if p x then f x else 0) xs
  weighed p [] = refl
  weighed p (x ∷ xs) = go (p x) refl (weighed p xs) (sum_by-cons (λ y. if p y then f y else 0) x xs)
    where
      go : (b : Bool) → p x ≡ b → sum_by f (filter p xs) ≡ sum_by (λ y. if p y then f y else 0) xs
          → sum_by (λ y. if p y then f y else 0) (x ∷ xs) ≡ (if p x then f x else 0) + sum_by (λ y. if p y then f y else 0) xs
          → sum_by f (if b then x ∷ filter p xs else filter p xs) ≡ sum_by (λ y. if p y then f y else 0) (x ∷ xs)
      go true e h cons = let kept = sum_by-cons f x (filter p xs) in grind (arith, nat_tests, e, h, cons, kept)
      go false e h cons = grind (arith, nat_tests, e, h, cons)

  module _ (rank : X → ℕ) where
    none-above : (xs : List X) (n k : ℕ) → AllAbove rank n xs → k ≤ n → row_at rank xs k ≡ None
    none-above [] n k above le = refl
    none-above (x ∷ xs) n k above le = grind (arith, nat_tests, above.0, le, none-above xs n k above.1 le)

    pub all-stay : (xs : List X) (n k : ℕ) → AllAbove rank n xs → k ≤ n → without rank xs k ≡ xs
    all-stay [] n k above le = refl
    all-stay (x ∷ xs) n k above le = grind (arith, nat_tests, above.0, le, all-stay xs n k above.1 le)

    -- a row more
    pub sum-put : (xs : List X) (x : X) → row_at rank xs (rank x) ≡ None → sum_by f (with_row rank xs x) ≡ sum_by f xs + f x
    sum-put [] x none = omega (arith, sum_by-cons f x [])
    sum-put (y ∷ ys) x none = go (nat_lt (rank x) (rank y)) (rank x == rank y) refl (λ h. sum-put ys x h)
      where
        taken : (rank x == rank y) ≡ true → ⊥
        taken is = grind (arith, nat_tests, none, is)

        go : (lower same : Bool) → (rank x == rank y) ≡ same → (row_at rank ys (rank x) ≡ None → sum_by f (with_row rank ys x) ≡ sum_by f ys + f x)
            → sum_by f (if lower then x ∷ y ∷ ys else if same then x ∷ ys else y ∷ with_row rank ys x) ≡ sum_by f (y ∷ ys) + f x
        go true same e later = omega (arith, sum_by-cons f x (y ∷ ys))
        go false true e later = absurd (taken e)
        go false false e later =
            let rest : row_at rank ys (rank x) ≡ None = grind (arith, nat_tests, none, e) in
            omega (arith, later rest, sum_by-cons f y (with_row rank ys x), sum_by-cons f y ys)

    -- a row in place of another
    sum-set : (xs : List X) (x old : X) → IsRising rank xs → row_at rank xs (rank x) ≡ Some old → sum_by f (with_row rank xs x) + f old ≡ sum_by f xs + f x
    sum-set [] x old rising at = cc
    sum-set (y ∷ ys) x old rising at = go (nat_lt (rank x) (rank y)) (rank x == rank y) refl refl (λ h. sum-set ys x old rising.1 h)
      where
        lost : rank x < rank y → ⊥
        lost lt = let none = none-above ys (rank y) (rank x) rising.0 (omega arith) in grind (arith, nat_tests, at, lt, none)

        first : (rank x == rank y) ≡ true → y ≡ old
        first e = grind (arith, nat_tests, at, e)

        go : (lower same : Bool) → nat_lt (rank x) (rank y) ≡ lower → (rank x == rank y) ≡ same → (row_at rank ys (rank x) ≡ Some old → sum_by f (with_row rank ys x) + f old ≡ sum_by f ys + f x)
            → sum_by f (if lower then x ∷ y ∷ ys else if same then x ∷ ys else y ∷ with_row rank ys x) + f old ≡ sum_by f (y ∷ ys) + f x
        go true same l e later = absurd (lost (grind (arith, nat_tests, l)))
        go false true l e later = let is : f y ≡ f old = ap f (first e) in omega (arith, is, sum_by-cons f x ys, sum_by-cons f y ys)
        go false false l e later =
            let rest : row_at rank ys (rank x) ≡ Some old = grind (arith, nat_tests, at, e) in
            omega (arith, later rest, sum_by-cons f y (with_row rank ys x), sum_by-cons f y ys)

    -- a row less
    pub sum-less : (xs : List X) (k : ℕ) (old : X) → IsRising rank xs → row_at rank xs k ≡ Some old → sum_by f (without rank xs k) + f old ≡ sum_by f xs
    sum-less [] k old rising at = cc
    sum-less (y ∷ ys) k old rising at = go (rank y == k) refl at (λ h. sum-less ys k old rising.1 h)
      where
        go : (b : Bool) → (rank y == k) ≡ b → (if b then Some y else row_at rank ys k) ≡ Some old → (row_at rank ys k ≡ Some old → sum_by f (without rank ys k) + f old ≡ sum_by f ys)
            → sum_by f (if not b then y ∷ without rank ys k else without rank ys k) + f old ≡ sum_by f (y ∷ ys)
        go true e h later =
            let is : f y ≡ f old = ap f (same y old h) in
            let le : k ≤ rank y = grind (arith, nat_tests, e) in
            let stay : sum_by f (without rank ys k) ≡ sum_by f ys = ap (sum_by f) (all-stay ys (rank y) k rising.0 le) in
            omega (arith, is, stay, sum_by-cons f y ys)
          where
            same : (a b : X) → Some a ≡ Some b → a ≡ b
            same a b e = cc
        go false e h later = omega (arith, later h, sum_by-cons f y (without rank ys k), sum_by-cons f y ys)

-- the bytes that a node stores are the sum of its shares of the segments
pub stored-shares : (setup : Setup) (segments : List SegmentRecord) (node : Node) → is_exited node.status ≡ false → stored_bytes setup segments node ≡ sum_by (share_of setup node.id) segments
unfolding stored_bytes
stored-shares setup segments node stays =
    ap (λ (b : Bool). if b then 0 else sum_by (piece_bytes setup) (filter (lies_at node.id) segments)) stays ∙ weighed (piece_bytes setup) (lies_at node.id) segments

module _ (setup : Setup) (segments : List SegmentRecord) (node : Node) (stays : is_exited node.status ≡ false) where
  pub stored-put : (segment : SegmentRecord) → row_at segment_rank segments (segment_rank segment) ≡ None → stored_bytes setup (with_row segment_rank segments segment) node ≡ stored_bytes setup segments node + share_of setup node.id segment
  stored-put segment none =
      stored-shares setup (with_row segment_rank segments segment) node stays ∙ (sum-put (share_of setup node.id) segment_rank segments segment none
      ∙ ap (λ (n : ℕ). n + share_of setup node.id segment) (sym (stored-shares setup segments node stays)))

  pub stored-set : (segment old : SegmentRecord) → IsRising segment_rank segments → row_at segment_rank segments (segment_rank segment) ≡ Some old
      → stored_bytes setup (with_row segment_rank segments segment) node + share_of setup node.id old ≡ stored_bytes setup segments node + share_of setup node.id segment
  stored-set segment old rising at =
      ap (λ (n : ℕ). n + share_of setup node.id old) (stored-shares setup (with_row segment_rank segments segment) node stays) ∙ (sum-set (share_of setup node.id) segment_rank segments segment old rising at
      ∙ ap (λ (n : ℕ). n + share_of setup node.id segment) (sym (stored-shares setup segments node stays)))

  pub stored-less : (k : ℕ) (old : SegmentRecord) → IsRising segment_rank segments → row_at segment_rank segments k ≡ Some old → stored_bytes setup (without segment_rank segments k) node + share_of setup node.id old ≡ stored_bytes setup segments node
  stored-less k old rising at =
      ap (λ (n : ℕ). n + share_of setup node.id old) (stored-shares setup (without segment_rank segments k) node stays) ∙ (sum-less (share_of setup node.id) segment_rank segments k old rising at
      ∙ sym (stored-shares setup segments node stays))
