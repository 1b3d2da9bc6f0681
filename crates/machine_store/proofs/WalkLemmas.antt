-- A walk over the segments at a node comes to the first one that can be rebuilt.
use Rattle.std.proofs.Common.{◌≡◌, ℕ, ◌-◌, ◌<◌, ◌≤◌, Bool, true, false, ◌&&◌, List, [], ◌∷◌, Option, Some, None, refl, sym, ap, subst, ◌∙◌, arith}
use Rattle.std.specs.Prelude.{filter, find, nat_le, nat_lt, if◌then◌else◌}
use Rattle.std.specs.List.{list_any}
use Rattle.std.proofs.lemmas.Bool.Decides.{nat_tests}
use Rattle.sat_base.specs.declared.ids.NodeId.{NodeId}
use Rattle.rows.specs.Rows.{row_at, IsRising}
use Rattle.rows.proofs.Rising.{none_above}
use Rattle.segment_core.specs.Record.{SegmentRecord, segment_rank}
use Rattle.segment_index.specs.Segments.{lies_at, first_at, next_at}
use Rattle.segment_index.proofs.Found.{found_behind, find_none, find_some, find_like}
use Rattle.machine_step.specs.Bounds.{IsValid}
use Rattle.machine_step.specs.Calls.PlanExit.{lies_on, is_movable}
use Rattle.machine_step.specs.Containment.{is_live}
use Rattle.machine_step.specs.Health.{healthy_count, first_of}
use Rattle.machine_step.specs.Rules.{is_sound_segment}
use Rattle.machine_step.specs.Tables.{Tables, segment_at}
use Rattle.machine_step.proofs.GrowthLemmas.{fine}
use Rattle.machine_step.proofs.RowLemmas.{all-found, capped-all}

-- ---- the first row that passes a test

module _ {R : Type 0} (rank : R → ℕ) (test : R → Bool) where
  find_never : (rows : List R) (k : ℕ) (row : R) → find test rows ≡ None → row_at rank rows k ≡ Some row → test row ≡ false
  find_never [] k row none found = absurd cc
  find_never (first ∷ rest) k row none found = grind (arith, nat_tests, none, found, find_never rest k row)

  find_passes : (rows : List R) (row : R) → find test rows ≡ Some row → test row ≡ true
  find_passes [] row is = absurd cc
  find_passes (first ∷ rest) row is = grind (arith, nat_tests, is, find_passes rest row)

  find_there : (rows : List R) (row : R) → IsRising rank rows → find test rows ≡ Some row → row_at rank rows (rank row) ≡ Some row
  find_there [] row rising is = absurd cc
  find_there (first ∷ rest) row rising is =
      let behind : find test rest ≡ Some row → row_at rank (first ∷ rest) (rank row) ≡ Some row = λ there. found_behind rank first rest row rising.0 (find_there rest row rising.1 there) in
      go (test first) is (behind)
    where
      go : (b : Bool) → (if b then Some first else find test rest) ≡ Some row → (find test rest ≡ Some row → row_at rank (first ∷ rest) (rank row) ≡ Some row) → row_at rank (first ∷ rest) (rank row) ≡ Some row
      go true is behind = let same : first ≡ row = cc in subst (λ (r : R). row_at rank (first ∷ rest) (rank r) ≡ Some r) same (grind (arith, nat_tests))
      go false is behind = behind is

  find_least : (rows : List R) (row other : R) (k : ℕ) → IsRising rank rows → find test rows ≡ Some row → row_at rank rows k ≡ Some other → test other ≡ true → rank row ≤ k
  find_least [] row other k rising is found passes = absurd cc
  find_least (first ∷ rest) row other k rising is found passes =
      let none : k ≤ rank first → row_at rank rest k ≡ None = λ le. none_above rank rest (rank first) k rising.0 le in
      grind (arith, nat_tests, is, found, passes, none, find_least rest row other k rising.1)

  pub first_found : (rows : List R) → first_of (filter test rows) ≡ find test rows
  first_found [] = refl
  first_found (first ∷ rest) = grind (arith, first_found rest)

-- ---- the walk

module _ (t : Tables) (node : NodeId) where
  -- a segment that was come to
  abbrev pub IsLying : Option SegmentRecord → Type 0
  IsLying None = Unit {0}
  IsLying (Some s) = (segment_at t.segments s.id.0 ≡ Some s) × (lies_at node s ≡ true)

  -- the first segment from it on that can be rebuilt
  abbrev pub movable_from : Option SegmentRecord → Option SegmentRecord
  movable_from None = None
  movable_from (Some s) = find (λ segment. nat_le s.id.0 segment.id.0 && is_movable t node segment) t.segments

  pub record IsAlong (at : Option SegmentRecord) : Type 0 where
    pub lies : IsLying at
    pub leads : first_of (filter (is_movable t node) t.segments) ≡ movable_from at

  -- the ids below the least new one that are not behind
  abbrev pub ids_left : Option SegmentRecord → ℕ
  ids_left None = 0
  ids_left (Some s) = t.marks.segment - s.id.0

  movable-lies : (s : SegmentRecord) → is_movable t node s ≡ true → lies_at node s ≡ true
  movable-lies s h = grind (arith, h)

  pub movable-here : (s : SegmentRecord) → IsAlong (Some s) → t.setup.k ≤ healthy_count t s → is_movable t node s ≡ true
  movable-here s along le = let lies : lies_at node s ≡ true = along.lies.1 in grind (arith, nat_tests, lies, le)

  pub movable-later : (s : SegmentRecord) → healthy_count t s < t.setup.k → is_movable t node s ≡ false
  movable-later s lt = few (is_live s) (list_any (lies_on node) s.pieces) t.setup.k (healthy_count t s) lt
    where
      few : (a b : Bool) (k count : ℕ) → count < k → (a && (b && nat_le k count)) ≡ false
      few a b k count lt = grind (arith, nat_tests, lt)

  module _ (rising : IsRising segment_rank t.segments) where
    -- from the first segment past a bound
    module _ (past : ℕ → Bool) (up : (m n : ℕ) → past m ≡ true → m ≤ n → past n ≡ true) where
      none-left : find (λ segment. past segment.id.0 && lies_at node segment) t.segments ≡ None → find (λ segment. past segment.id.0 && is_movable t node segment) t.segments ≡ None
      none-left none =
          find_none segment_rank _ t.segments rising (λ s found.
          let never : (past s.id.0 && lies_at node s) ≡ false = find_never segment_rank _ t.segments s.id.0 s none found in
          grind (arith, never, movable-lies s))

      some-left : (at : SegmentRecord) → find (λ segment. past segment.id.0 && lies_at node segment) t.segments ≡ Some at
          → find (λ segment. past segment.id.0 && is_movable t node segment) t.segments ≡ movable_from (Some at)
      some-left at is =
          let passes : (past at.id.0 && lies_at node at) ≡ true = find_passes segment_rank _ t.segments at is in
          find_like segment_rank _ _ t.segments rising (λ s found.
          let least : (past s.id.0 && lies_at node s) ≡ true → at.id.0 ≤ s.id.0 = λ h. find_least segment_rank _ t.segments at s s.id.0 rising is found h in
          grind (arith, nat_tests, passes, least, movable-lies s, up at.id.0 s.id.0))

      from-past : (at : Option SegmentRecord) → find (λ segment. past segment.id.0 && lies_at node segment) t.segments ≡ at
          → IsLying at × (find (λ segment. past segment.id.0 && is_movable t node segment) t.segments ≡ movable_from at)
      from-past None is = (tt, none-left is)
      from-past (Some s) is =
          let passes : (past s.id.0 && lies_at node s) ≡ true = find_passes segment_rank _ t.segments s is in
          ((find_there segment_rank _ t.segments s rising is, grind (arith, passes)), some-left s is)

    -- the walk begins at the first segment at the node
    pub walk-begun : (at : Option SegmentRecord) → at ≡ first_at node t.segments → IsAlong at
    walk-begun at is =
        let begun = from-past (λ n. true) (λ m n h le. refl) at (sym is) in
        record { lies = begun.0; leads = first_found segment_rank (is_movable t node) t.segments ∙ begun.1 }

    same-found : (s other : SegmentRecord) → segment_at t.segments s.id.0 ≡ Some s → segment_at t.segments other.id.0 ≡ Some other → s.id.0 ≡ other.id.0 → s ≡ other
    same-found s other here there e = some_same (sym here ∙ ap (λ (n : ℕ). segment_at t.segments n) e ∙ there)
      where
        some_same : Some s ≡ Some other → s ≡ other
        some_same e = cc

    -- and goes on where a segment can't be rebuilt
    pub walk-on : (s : SegmentRecord) (at : Option SegmentRecord) → IsAlong (Some s) → is_movable t node s ≡ false → at ≡ next_at node s.id.0 t.segments → IsAlong at
    walk-on s at along stays is =
        let next = from-past (λ n. nat_lt s.id.0 n) (λ m n h le. grind (arith, nat_tests, h, le)) at (sym is) in
        record {
          lies = next.0;
          leads = along.leads ∙ find_like segment_rank _ _ t.segments rising (λ other found.
              let here : s.id.0 ≡ other.id.0 → is_movable t node other ≡ false = λ e. subst (λ (o : SegmentRecord). is_movable t node o ≡ false) (same-found s other along.lies.0 found e) stays in
              grind (arith, nat_tests, here)) ∙ next.1;
        }

    -- it ends where one can be
    pub walk-found : (s : SegmentRecord) → IsAlong (Some s) → is_movable t node s ≡ true → Some s ≡ first_of (filter (is_movable t node) t.segments)
    walk-found s along moves = sym (along.leads ∙ find_here)
      where
        find_here : find (λ segment. nat_le s.id.0 segment.id.0 && is_movable t node segment) t.segments ≡ Some s
        find_here = find_some segment_rank _ t.segments s rising along.lies.0 (grind (arith, nat_tests, moves)) (λ other found h. grind (arith, nat_tests, h))

    numbered : IsValid t → (s : SegmentRecord) → IsAlong (Some s) → s.id.0 < t.marks.segment
    numbered valid s along =
        let all = capped-all t.setup.caps.segments (is_sound_segment t.setup t.marks t.nodes t.customers) t.segments 0 valid.rules.segments in
        let below = (fine t.setup t.marks t.nodes t.customers s (all-found segment_rank (is_sound_segment t.setup t.marks t.nodes t.customers) t.segments s.id.0 s all along.lies.0)).below in
        grind (arith, nat_tests, below)

    -- each step leaves fewer ids
    pub walk-fewer : IsValid t → (s : SegmentRecord) (at : Option SegmentRecord) → IsAlong (Some s) → at ≡ next_at node s.id.0 t.segments → ids_left at < ids_left (Some s)
    walk-fewer valid s None along is = let low = numbered valid s along in omega (arith, low)
    walk-fewer valid s (Some next) along is =
        let low = numbered valid s along in
        let passes : (nat_lt s.id.0 next.id.0 && lies_at node next) ≡ true = find_passes segment_rank (λ segment. nat_lt s.id.0 segment.id.0 && lies_at node segment) t.segments next (sym is) in
        let later : s.id.0 < next.id.0 = grind (arith, nat_tests, passes) in
        omega (arith, low, later)
