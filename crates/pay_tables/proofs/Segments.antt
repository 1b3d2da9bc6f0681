-- Stored bytes go by the segments.
use Rattle.std.proofs.Common.{◌≡◌, ℕ, ◌+◌, ◌*◌, ◌^◌, ◌<◌, ◌≤◌, Bool, true, false, not, List, [], ◌∷◌, length, Some, None, refl, sym, ap, ◌∙◌, arith}
use Rattle.std.specs.Prelude.{if◌then◌else◌, ◌==◌, ◌&&◌, nat_lt, filter}
use Rattle.std.specs.List.{list_any, sum_by}
use Rattle.std.proofs.Math.Nat.{mul-le-mul_left, mul-le-mul_right}
use Rattle.std.proofs.lemmas.Grind.{div_ceil_times}
use Rattle.std.proofs.lemmas.List.Sums.{sum_by-cons}
use Rattle.std.proofs.lemmas.Bool.Decides.{nat_tests}
use Rattle.sat_base.specs.Scheme.{IsScheme, stripe_count}
use Rattle.sat_base.specs.declared.ids.NodeId.{NodeId}
use Rattle.rows.specs.Rows.{Each, row_at, without, AllAbove, IsRising}
use Rattle.rows.specs.Slots.{with_row}
use Rattle.node_registry.specs.declared.node.Node.{Node}
use Rattle.segment_core.specs.Record.{SegmentRecord, segment_rank}
use Rattle.month_pay.proofs.Amounts.{sum-most}
use Rattle.machine_step.specs.Tables.{Setup}
use Rattle.machine_step.specs.Containment.{is_live}
use Rattle.machine_step.specs.Calls.PlanExit.{lies_on}
use Rattle.machine_step.specs.PlanRules.{is_exited}
use Rattle.machine_step.specs.Stored.{piece_bytes, lies_at, stored_bytes, share_of}
use Rattle.machine_step.proofs.StoredLemmas.{all-stay, sum-put, sum-less, stored-shares}
use Rattle.pay_tables.specs.declared.balance.Balance.{Balance}
use Rattle.pay_tables.specs.Amounts.{amount_at, bytes_at, live_bytes, GoBySegments}
use Rattle.pay_tables.specs.InStep.{IsShort}
use Rattle.pay_tables.proofs.Pieces.{each-lies}

-- a segment's share is what its pieces weigh
pub share-is : (setup : Setup) (segment : SegmentRecord) (node : NodeId) → bytes_at node segment.pieces (live_bytes setup segment) ≡ share_of setup node segment
share-is setup segment node = go (is_live segment) (list_any (lies_on node) segment.pieces)
  where
    go : (live lies : Bool) → (if lies then (if live then piece_bytes setup segment else 0) else 0) ≡ (if live && lies then piece_bytes setup segment else 0)
    go true true = refl
    go true false = refl
    go false true = refl
    go false false = refl

module _ (setup : Setup) (segments : List SegmentRecord) (old new : List Balance) (segment : SegmentRecord) (go_by : GoBySegments setup old segments) where
  -- a segment more
  pub segment-put : row_at segment_rank segments (segment_rank segment) ≡ None
      → ((node : NodeId) → amount_at new node ≡ amount_at old node + bytes_at node segment.pieces (live_bytes setup segment))
      → GoBySegments setup new (with_row segment_rank segments segment)
  segment-put none amounts node =
      omega (arith, amounts node, go_by node, share-is setup segment node, sum-put (share_of setup node) segment_rank segments segment none)

  -- a segment less
  pub segment-less : IsRising segment_rank segments → row_at segment_rank segments (segment_rank segment) ≡ Some segment
      → ((node : NodeId) → amount_at new node + bytes_at node segment.pieces (live_bytes setup segment) ≡ amount_at old node)
      → GoBySegments setup new (without segment_rank segments (segment_rank segment))
  segment-less rising at amounts node =
      omega (arith, amounts node, go_by node, share-is setup segment node, sum-less (share_of setup node) segment_rank segments (segment_rank segment) segment rising at)

-- ---- a segment in place of another

module _ {R : Type 0} (rank : R → ℕ) where
  before-all : (rows : List R) (row : R) (n : ℕ) → AllAbove rank n rows → rank row ≡ n → with_row rank rows row ≡ row ∷ rows
  before-all [] row n above is = refl
  before-all (first ∷ rest) row n above is = grind (arith, nat_tests, above.0, is)

  pub put-again : (rows : List R) (row : R) → IsRising rank rows → with_row rank (without rank rows (rank row)) row ≡ with_row rank rows row
  put-again [] row rising = refl
  put-again (first ∷ rest) row rising =
      go (nat_lt (rank row) (rank first)) (rank row == rank first) (rank first == rank row) refl refl refl (put-again rest row rising.1)
    where
      go : (lower same is : Bool) → nat_lt (rank row) (rank first) ≡ lower → (rank row == rank first) ≡ same → (rank first == rank row) ≡ is
          → with_row rank (without rank rest (rank row)) row ≡ with_row rank rest row
          → with_row rank (if not is then first ∷ without rank rest (rank row) else without rank rest (rank row)) row ≡ (if lower then row ∷ first ∷ rest else if same then row ∷ rest else first ∷ with_row rank rest row)
      go true same true l e f later = absurd (grind (arith, nat_tests, l, f))
      go true same false l e f later =
          let le : rank row ≤ rank first = grind (arith, nat_tests, l) in
          let stay : without rank rest (rank row) ≡ rest = all-stay (λ (x : R). 0) rank rest (rank first) (rank row) rising.0 le in
          grind (arith, nat_tests, l, stay)
      go false true true l e f later =
          let is : rank row ≡ rank first = grind (arith, nat_tests, e) in
          let stay : without rank rest (rank row) ≡ rest = all-stay (λ (x : R). 0) rank rest (rank first) (rank row) rising.0 (omega arith) in
          ap (λ (rows : List R). with_row rank rows row) stay ∙ before-all rest row (rank first) rising.0 is
      go false true false l e f later = absurd (grind (arith, nat_tests, e, f))
      go false false true l e f later = absurd (grind (arith, nat_tests, e, f))
      go false false false l e f later = grind (arith, nat_tests, l, e, later)

  -- a row that is removed is not there
  pub none-after : (rows : List R) (k : ℕ) → row_at rank (without rank rows k) k ≡ None
  none-after [] k = refl
  none-after (first ∷ rest) k = grind (arith, nat_tests, none-after rest k)

-- ---- how much there can be

module _ (setup : Setup) (scheme : IsScheme setup.k setup.m setup.o setup.n setup.share) where
  piece-most : (segment : SegmentRecord) → IsShort segment → piece_bytes setup segment ≤ 2 ^ 41
  piece-most segment short =
      let count = stripe_count setup.k setup.share segment.len in
      let wide : setup.share ≤ setup.k * setup.share = omega (arith, mul-le-mul_right setup.share scheme.rebuilds) in
      let times : count * (setup.k * setup.share) < segment.len + setup.k * setup.share = (div_ceil_times segment.len (setup.k * setup.share) (omega (arith, wide, scheme.some_bytes))).1 in
      let few : setup.k ≤ 128 = omega (arith, scheme.repairs_in_time, scheme.wants_more, scheme.tries_enough, scheme.few_pieces) in
      let narrow : setup.k * setup.share ≤ 128 * setup.share = mul-le-mul_right setup.share few in
      let bytes : count * setup.share ≤ count * (setup.k * setup.share) = mul-le-mul_left count wide in
      omega (arith, times, narrow, bytes, scheme.few_bytes, short)

  live-most : (segment : SegmentRecord) → IsShort segment → live_bytes setup segment ≤ 2 ^ 41
  live-most segment short = go (is_live segment) (piece-most segment short)
    where
      go : (b : Bool) → piece_bytes setup segment ≤ 2 ^ 41 → (if b then piece_bytes setup segment else 0) ≤ 2 ^ 41
      go true most = most
      go false most = omega arith

  share-most : (node : NodeId) (segment : SegmentRecord) → IsShort segment → share_of setup node segment ≤ 2 ^ 41
  share-most node segment short = go (is_live segment && list_any (lies_on node) segment.pieces) (piece-most segment short)
    where
      go : (b : Bool) → piece_bytes setup segment ≤ 2 ^ 41 → (if b then piece_bytes setup segment else 0) ≤ 2 ^ 41
      go true most = most
      go false most = omega arith

  shares-most : (node : NodeId) (segments : List SegmentRecord) → Each IsShort segments → Each (λ segment. share_of setup node segment ≤ 2 ^ 41) segments
  shares-most node [] short = tt
  shares-most node (segment ∷ rest) short = (share-most node segment short.0, shares-most node rest short.1)

  -- what a node stores of fewer than 2^64 segments, and one more
  pub amount-room : (stored : List Balance) (segments : List SegmentRecord) (segment : SegmentRecord) (node : NodeId) → GoBySegments setup stored segments → Each IsShort segments → length segments < 2 ^ 64 → IsShort segment
      → amount_at stored node + live_bytes setup segment < 2 ^ 128
  amount-room stored segments segment node go_by short few one =
      let most = sum-most (share_of setup node) (2 ^ 41) segments (shares-most node segments short) in
      let within : length segments ≤ 2 ^ 64 = omega (arith, few) in
      let count = mul-le-mul_right (2 ^ 41) within in
      omega (arith, go_by node, most, count, live-most segment one)

-- a row is among those that are summed
sum-has : {X : Type 0} (f : X → ℕ) (rank : X → ℕ) (xs : List X) (k : ℕ) (x : X) → row_at rank xs k ≡ Some x → f x ≤ sum_by f xs
sum-has {X = X} f rank [] k x at = cc
sum-has {X = X} f rank (y ∷ ys) k x at = go (rank y == k) at (λ h. sum-has f rank ys k x h)
  where
    go : (b : Bool) → (if b then Some y else row_at rank ys k) ≡ Some x → (row_at rank ys k ≡ Some x → f x ≤ sum_by f ys) → f x ≤ sum_by f (y ∷ ys)
    go true h later = let same : f y ≡ f x = ap f (one y x h) in omega (arith, same, sum_by-cons f y ys)
      where
        one : (a b : X) → Some a ≡ Some b → a ≡ b
        one a b e = cc
    go false h later = omega (arith, later h, sum_by-cons f y ys)

-- what a segment weighs is among what its nodes store
pub amount-has : (setup : Setup) (stored : List Balance) (segments : List SegmentRecord) (segment : SegmentRecord) → GoBySegments setup stored segments → row_at segment_rank segments (segment_rank segment) ≡ Some segment
    → Each (λ piece. live_bytes setup segment ≤ amount_at stored piece.node) segment.pieces
amount-has setup stored segments segment go_by at =
    each-lies (λ piece. live_bytes setup segment ≤ amount_at stored piece.node) segment.pieces (λ piece lies.
    let here : bytes_at piece.node segment.pieces (live_bytes setup segment) ≡ live_bytes setup segment = ap (λ (b : Bool). if b then live_bytes setup segment else 0) lies in
    omega (arith, here, share-is setup segment piece.node, go_by piece.node, sum-has (share_of setup piece.node) segment_rank segments (segment_rank segment) segment at))

-- what is kept of a node that hasn't left is what it stores
pub stored-is : (setup : Setup) (segments : List SegmentRecord) (stored : List Balance) (node : Node) → GoBySegments setup stored segments → stored_bytes setup segments node ≡ (if is_exited node.status then 0 else amount_at stored node.id)
unfolding stored_bytes
stored-is setup segments stored node go_by = go (is_exited node.status) (λ stays. stored-shares setup segments node stays ∙ sym (go_by node.id)) refl
  where
    go : (b : Bool) → (is_exited node.status ≡ false → stored_bytes setup segments node ≡ amount_at stored node.id) → is_exited node.status ≡ b
        → (if b then 0 else sum_by (piece_bytes setup) (filter (lies_at node.id) segments)) ≡ (if b then 0 else amount_at stored node.id)
    go true same e = refl
    go false same e = sym (ap (λ (b : Bool). if b then 0 else sum_by (piece_bytes setup) (filter (lies_at node.id) segments)) e) ∙ same e
