-- The segments that are asked for, by the pairs and the ids that are kept.
use Rattle.std.proofs.Common.{◌≡◌, ℕ, ◌<◌, ◌≤◌, Bool, true, false, ◌&&◌, List, [], Option, Some, None, refl, sym, ap, ◌∙◌, subst, arith}
use Rattle.std.specs.Prelude.{nat_lt, filter, slice_get, if◌then◌else◌}
use Rattle.std.specs.Option.{option_map}
use Rattle.std.proofs.lemmas.Bool.Decides.{nat_tests}
use Rattle.std.proofs.lemmas.Option.{slice_get-map}
use Rattle.sat_base.specs.declared.ids.NodeId.{NodeId}
use Rattle.rows.specs.Rows.{IsRising}
use Rattle.rows.proofs.Found.{row_got, rank-found}
use Rattle.rows.proofs.Rising.{rising-filter}
use Rattle.segment_core.specs.Record.{SegmentRecord, segment_rank}
use Rattle.segment_index.specs.declared.health.Limits.{Limits}
use Rattle.segment_index.specs.declared.live.LiveId.{LiveId}
use Rattle.segment_index.specs.declared.pairs.Pair.{Pair}
use Rattle.segment_index.specs.Pairs.{has, IsFirst, IsNext}
use Rattle.segment_index.specs.Segments.{segment_at, is_live, live_segments, healthy_count, needs_repair, least_by, to_repair, lies_at, first_at, next_at}
use Rattle.segment_index.specs.Keys.{IsByNode, IsByNeed, has_piece, is_key, live_id, live_ids, live_pieces, repair_key}
use Rattle.segment_index.proofs.Found.{found_kept, found_passes, kept_found, find_none, find_some, find_like, filter_none, least_some}

module _ (rows : List SegmentRecord) (rising : IsRising segment_rank rows) where
  -- ---- live segments, by place

  live_there : (place : ℕ) (at : Option SegmentRecord) (live : LiveId) → slice_get (live_segments rows) place ≡ at → option_map live_id at ≡ Some live → segment_at rows live.id ≡ at
  live_there place None live is e = absurd cc
  live_there place (Some s) live is e =
      let same : live_id s ≡ live = cc in
      let found = found_kept segment_rank is_live rows s.id.0 s rising (row_got segment_rank (live_segments rows) (rising-filter segment_rank is_live rows rising) place s is) in
      subst (λ (l : LiveId). segment_at rows l.id ≡ Some s) same found

  pub live_some : (place : ℕ) (live : LiveId) → slice_get (live_ids rows) place ≡ Some live → segment_at rows live.id ≡ slice_get (live_segments rows) place
  live_some place live is = live_there place (slice_get (live_segments rows) place) live refl (sym (slice_get-map live_id (live_segments rows) place) ∙ is)

  none_mapped : {A B : Type 0} (f : A → B) (at : Option A) → option_map f at ≡ None → None ≡ at
  none_mapped f None e = refl
  none_mapped f (Some x) e = absurd cc

  pub live_none : (place : ℕ) → slice_get (live_ids rows) place ≡ None → None ≡ slice_get (live_segments rows) place
  live_none place is = none_mapped live_id (slice_get (live_segments rows) place) (sym (slice_get-map live_id (live_segments rows) place) ∙ is)

  -- ---- the segment to repair

  module _ (limits : Limits) (gone : List NodeId) (needs : List Pair) (by_need : IsByNeed limits gone rows needs) where
    keyed : (at : Option SegmentRecord) (healthy : ℕ) → is_key (repair_key limits gone at) healthy ≡ true
        → (s : SegmentRecord) × (at ≡ Some s) × (needs_repair limits gone s ≡ true) × (healthy_count gone s ≡ healthy)
    keyed None healthy h = absurd cc
    keyed (Some s) healthy h = go (needs_repair limits gone s) refl h
      where
        go : (b : Bool) → needs_repair limits gone s ≡ b → is_key (if b then Some (healthy_count gone s) else None) healthy ≡ true
            → (t : SegmentRecord) × (Some s ≡ Some t) × (needs_repair limits gone t ≡ true) × (healthy_count gone t ≡ healthy)
        go true e h = (s, refl, e, grind (arith, nat_tests, h))
        go false e h = absurd cc

    has_key : (s : SegmentRecord) → segment_at rows s.id.0 ≡ Some s → needs_repair limits gone s ≡ true → has needs (record { high = healthy_count gone s; low = s.id.0 }) ≡ true
    has_key s found h = by_need (healthy_count gone s) s.id.0 ∙ ap (λ (o : Option SegmentRecord). is_key (repair_key limits gone o) (healthy_count gone s)) found ∙ go (needs_repair limits gone s) h
      where
        go : (b : Bool) → b ≡ true → is_key (if b then Some (healthy_count gone s) else None) (healthy_count gone s) ≡ true
        go true e = grind (arith, nat_tests)
        go false e = cc

    pub repair_some : (pair : Pair) → IsFirst needs (Some pair) → segment_at rows pair.low ≡ to_repair limits gone rows
    repair_some pair first =
        let k = keyed (segment_at rows pair.low) pair.high (sym (by_need pair.high pair.low) ∙ first.0) in
        let id : k.0.id.0 ≡ pair.low = rank-found segment_rank rows pair.low k.0 k.1 in
        let there : segment_at rows k.0.id.0 ≡ Some k.0 = subst (λ (n : ℕ). segment_at rows n ≡ Some k.0) (sym id) k.1 in
        k.1 ∙ sym (least_some segment_rank (healthy_count gone) (filter (needs_repair limits gone) rows) k.0 (rising-filter segment_rank (needs_repair limits gone) rows rising)
        (kept_found segment_rank (needs_repair limits gone) rows k.0.id.0 k.0 there k.2)
        (λ other found.
        let there : segment_at rows other.id.0 ≡ Some other = found_kept segment_rank (needs_repair limits gone) rows other.id.0 other rising found in
        let later = first.1 (record { high = healthy_count gone other; low = other.id.0 }) (has_key other there (found_passes segment_rank (needs_repair limits gone) rows other.id.0 other found)) in
        no_later pair.high pair.low (healthy_count gone k.0) k.0.id.0 (healthy_count gone other) other.id.0 k.3 id later.0 later.1))
      where
        no_later : (high low h i n o : ℕ) → h ≡ high → i ≡ low → high ≤ n → (high ≡ n → low ≤ o) → (h ≤ n) × (h ≡ n → i ≤ o)
        no_later high low h i n o eh ei le tie = (omega (arith, eh, le), λ e. omega (arith, ei, tie (sym eh ∙ e)))

    pub repair_none : IsFirst needs None → None ≡ to_repair limits gone rows
    repair_none none = ap (λ (l : List SegmentRecord). least_by (healthy_count gone) l) (sym (filter_none segment_rank (needs_repair limits gone) rows rising (λ s found. go s found (needs_repair limits gone s) refl)))
      where
        go : (s : SegmentRecord) → segment_at rows s.id.0 ≡ Some s → (b : Bool) → needs_repair limits gone s ≡ b → b ≡ false
        go s found true e = let h = has_key s found e in let never = none (record { high = healthy_count gone s; low = s.id.0 }) in cc (h, never)
        go s found false e = refl

  -- ---- the segments at a node

  module _ (node : NodeId) (nodes : List Pair) (by_node : IsByNode rows nodes) where
    lies-piece : (s : SegmentRecord) → has_piece node.0 (live_pieces (Some s)) ≡ lies_at node s
    lies-piece s = go (is_live s)
      where
        go : (b : Bool) → has_piece node.0 (if b then s.pieces else []) ≡ (b && has_piece node.0 s.pieces)
        go true = refl
        go false = refl

    lying : (at : Option SegmentRecord) → has_piece node.0 (live_pieces at) ≡ true → (s : SegmentRecord) × (at ≡ Some s) × (lies_at node s ≡ true)
    lying None h = absurd cc
    lying (Some s) h = (s, refl, sym (lies-piece s) ∙ h)

    -- a segment lies at the node where its pair is there
    has_lying : (s : SegmentRecord) → segment_at rows s.id.0 ≡ Some s → has nodes (record { high = node.0; low = s.id.0 }) ≡ lies_at node s
    has_lying s found = by_node node.0 s.id.0 ∙ ap (λ (o : Option SegmentRecord). has_piece node.0 (live_pieces o)) found ∙ lies-piece s

    pub next_some : (above id : ℕ) → IsNext nodes node.0 above (Some id) → segment_at rows id ≡ next_at node above rows
    next_some above id is =
        let k = lying (segment_at rows id) (sym (by_node node.0 id) ∙ is.1) in
        let at : k.0.id.0 ≡ id = rank-found segment_rank rows id k.0 k.1 in
        let there : segment_at rows k.0.id.0 ≡ Some k.0 = subst (λ (n : ℕ). segment_at rows n ≡ Some k.0) (sym at) k.1 in
        k.1 ∙ sym (find_some segment_rank (λ segment. nat_lt above segment.id.0 && lies_at node segment) rows k.0 rising there
        (grind (arith, nat_tests, is.0, at, k.2))
        (λ other found h. first_of_them other found (passes_lt above other.id.0 (lies_at node other) h) (passes_at above other.id.0 (lies_at node other) h) k.0.id.0 at))
      where
        passes_lt : (a b : ℕ) (c : Bool) → (nat_lt a b && c) ≡ true → a < b
        passes_lt a b c h = grind (arith, nat_tests, h)

        passes_at : (a b : ℕ) (c : Bool) → (nat_lt a b && c) ≡ true → c ≡ true
        passes_at a b c h = grind (arith, nat_tests, h)

        first_of_them : (other : SegmentRecord) → segment_at rows other.id.0 ≡ Some other → above < other.id.0 → lies_at node other ≡ true → (n : ℕ) → n ≡ id → n ≤ other.id.0
        first_of_them other found lt h n e = omega (arith, e, is.2 other.id.0 lt (has_lying other found ∙ h))

    pub next_none : (above : ℕ) → IsNext nodes node.0 above None → None ≡ next_at node above rows
    next_none above is = sym (find_none segment_rank (λ segment. nat_lt above segment.id.0 && lies_at node segment) rows rising (λ s found. go s.id.0 (lies_at node s) (λ lt. sym (has_lying s found) ∙ is s.id.0 lt)))
      where
        go : (n : ℕ) (b : Bool) → (above < n → b ≡ false) → (nat_lt above n && b) ≡ false
        go n b none = grind (arith, nat_tests, none)

    pub first_some : has nodes (record { high = node.0; low = 0 }) ≡ true → segment_at rows 0 ≡ first_at node rows
    first_some h =
        let k = lying (segment_at rows 0) (sym (by_node node.0 0) ∙ h) in
        let at : k.0.id.0 ≡ 0 = rank-found segment_rank rows 0 k.0 k.1 in
        let there : segment_at rows k.0.id.0 ≡ Some k.0 = subst (λ (n : ℕ). segment_at rows n ≡ Some k.0) (sym at) k.1 in
        k.1 ∙ sym (find_some segment_rank (lies_at node) rows k.0 rising there k.2 (λ other found lies. omega (arith, at)))

    pub first_none : has nodes (record { high = node.0; low = 0 }) ≡ false → next_at node 0 rows ≡ first_at node rows
    first_none h = find_like segment_rank (λ segment. nat_lt 0 segment.id.0 && lies_at node segment) (lies_at node) rows rising (λ s found. go s.id.0 (lies_at node s) (λ e. sym (has_lying s found) ∙ subst (λ (n : ℕ). has nodes (record { high = node.0; low = n }) ≡ false) (sym e) h))
      where
        go : (n : ℕ) (b : Bool) → (n ≡ 0 → b ≡ false) → (nat_lt 0 n && b) ≡ b
        go n b none = grind (arith, nat_tests, none)
