-- The index of segments counts the healthy pieces as the tables do.
use Rattle.std.proofs.Common.{◌≡◌, ℕ, Bool, true, false, not, ◌||◌, List, [], ◌∷◌, length, Option, Some, None, IfSome, refl, sym, ap, ◌∙◌}
use Rattle.std.specs.Prelude.{filter, nat_le, is_some, if◌then◌else◌}
use Rattle.std.specs.List.{list_all}
use Rattle.std.proofs.lemmas.Bool.{and_parts}
use Rattle.sat_base.specs.declared.ids.NodeId.{NodeId}
use Rattle.sat_base.specs.declared.records.At.{At}
use Rattle.node_registry.specs.declared.node.Node.{Node}
use Rattle.node_registry.specs.Registry.{node_at}
use Rattle.node_registry.specs.Standing.{is_counted}
use Rattle.segment_core.specs.Health.{is_counting, is_healthy}
use Rattle.segment_core.specs.Record.{SegmentRecord}
use Rattle.segment_index.specs.declared.health.Limits.{Limits}
use Rattle.segment_index.specs.Segments as indexed
use Rattle.machine_step.specs.Bounds.{Each, IsValid}
use Rattle.machine_step.specs.Calls.PlanRepair.{needs_repair, lesser, least_by, to_repair}
use Rattle.machine_step.specs.Health.{healthy_count}
use Rattle.machine_step.specs.Rules.{are_known, is_known, is_sound_segment}
use Rattle.machine_step.proofs.GrowthLemmas.{fine}
use Rattle.machine_step.proofs.RowLemmas.{capped-all}
use Rattle.machine_store.specs.declared.store.Store.{Store}
use Rattle.machine_store.specs.Store.{tables_of, is_lost, GoesByTables}

-- ---- tests and numbers that agree on rows

module _ {R : Type 0} where
  pub filter-like : (p q : R → Bool) (rows : List R) → Each (λ row. p row ≡ q row) rows → filter p rows ≡ filter q rows
  filter-like p q [] like = refl
  filter-like p q (row ∷ rest) like =
      ap (λ (b : Bool). if b then row ∷ filter p rest else filter p rest) like.0 ∙ ap (λ (rows : List R). if q row then row ∷ rows else rows) (filter-like p q rest like.1)

  each-left : (P : R → Type 0) (p : R → Bool) (rows : List R) → Each P rows → Each P (filter p rows)
  each-left P p [] each = tt
  each-left P p (row ∷ rest) each = go (p row) (each-left P p rest each.1)
    where
      go : (b : Bool) → Each P (filter p rest) → Each P (if b then row ∷ filter p rest else filter p rest)
      go true behind = (each.0, behind)
      go false behind = behind

  module _ (f g : R → ℕ) where
    chosen : (b : Bool) (row other : R) → f row ≡ g row → f other ≡ g other → f (if b then row else other) ≡ g (if b then row else other)
    chosen true row other here there = here
    chosen false row other here there = there

    lesser-like : (row : R) (at : Option R) → f row ≡ g row → IfSome at (λ other. f other ≡ g other) → (indexed.lesser f row at ≡ lesser g row at) × (f (indexed.lesser f row at) ≡ g (indexed.lesser f row at))
    lesser-like row None here there = (refl, here)
    lesser-like row (Some other) here there =
        (ap (λ (n : ℕ). if nat_le n (f other) then row else other) here ∙ ap (λ (n : ℕ). if nat_le (g row) n then row else other) there, chosen (nat_le (f row) (f other)) row other here there)

    least-both : (rows : List R) → Each (λ row. f row ≡ g row) rows → (indexed.least_by f rows ≡ least_by g rows) × IfSome (indexed.least_by f rows) (λ row. f row ≡ g row)
    least-both [] like = (refl, tt)
    least-both (row ∷ rest) like =
        let behind = least-both rest like.1 in
        let here = lesser-like row (indexed.least_by f rest) like.0 behind.1 in
        (ap Some (here.0 ∙ ap (lesser g row) behind.0), here.1)

  pub least-like : (f g : R → ℕ) (p q : R → Bool) (rows : List R) → Each (λ row. p row ≡ q row) rows → Each (λ row. f row ≡ g row) rows → indexed.least_by f (filter p rows) ≡ least_by g (filter q rows)
  least-like f g p q rows tests numbers =
      (least-both f g (filter p rows) (each-left (λ row. f row ≡ g row) p rows numbers)).0 ∙ ap (least_by g) (filter-like p q rows tests)

-- ---- pieces

-- an index that has no node to count
module _ (nodes : List Node) (gone : List NodeId) (knows : (id : NodeId) → indexed.is_gone gone id ≡ is_lost (node_at nodes id)) where
  counts : (at : Option Node) → is_some at ≡ true → not (is_lost at) ≡ is_counting at
  counts None known = absurd cc
  counts (Some node) known = twice (is_counted node.status)
    where
      twice : (b : Bool) → not (not b) ≡ b
      twice true = refl
      twice false = refl

  each-healthy : (pieces : List At) → are_known nodes pieces ≡ true → Each (λ piece. not (indexed.is_gone gone piece.node) ≡ is_healthy nodes piece) pieces
  each-healthy [] known = tt
  each-healthy (piece ∷ rest) known =
      let parts = and_parts (is_known nodes piece.node) (are_known nodes rest) known in
      (ap not (knows piece.node) ∙ counts (node_at nodes piece.node) parts.0, each-healthy rest parts.1)

  pub healthy-like : (segment : SegmentRecord) → are_known nodes segment.pieces ≡ true → indexed.healthy_count gone segment ≡ length (filter (is_healthy nodes) segment.pieces)
  healthy-like segment known = ap length (filter-like _ _ segment.pieces (each-healthy segment.pieces known))

-- ---- segments

module _ (s : Store) (valid : IsValid (tables_of s)) (own : GoesByTables s) (fresh : s.segments.pending ≡ []) where
  knows : (id : NodeId) → indexed.is_gone s.segments.gone id ≡ is_lost (node_at s.nodes.nodes id)
  knows id = or_false (indexed.is_gone s.segments.gone id) (indexed.is_gone s.segments.pending id) (ap (λ (p : List NodeId). indexed.is_gone p id) fresh) ∙ own.lost id
    where
      or_false : (a b : Bool) → b ≡ false → a ≡ (a || b)
      or_false true b e = refl
      or_false false b e = sym e

  limits-k : s.segments.limits.k ≡ s.settings.scheme.k
  limits-k = ap (λ (l : Limits). l.k) own.limits

  limits-m : s.segments.limits.m ≡ s.settings.scheme.m
  limits-m = ap (λ (l : Limits). l.m) own.limits

  count-like : (segment : SegmentRecord) → is_sound_segment (tables_of s).setup s.marks s.nodes.nodes s.customers.rows segment ≡ true → indexed.healthy_count s.segments.gone segment ≡ healthy_count (tables_of s) segment
  count-like segment sound = healthy-like s.nodes.nodes s.segments.gone knows segment (fine (tables_of s).setup s.marks s.nodes.nodes s.customers.rows segment sound).known

  need-like : (segment : SegmentRecord) → indexed.healthy_count s.segments.gone segment ≡ healthy_count (tables_of s) segment → indexed.needs_repair s.segments.limits s.segments.gone segment ≡ needs_repair (tables_of s) segment
  need-like segment count = rw (limits-k, limits-m, count) refl

  each-count : (rows : List SegmentRecord) → list_all (is_sound_segment (tables_of s).setup s.marks s.nodes.nodes s.customers.rows) rows ≡ true
      → Each (λ segment. indexed.healthy_count s.segments.gone segment ≡ healthy_count (tables_of s) segment) rows
  each-count [] sound = tt
  each-count (segment ∷ rest) sound =
      let parts = and_parts (is_sound_segment (tables_of s).setup s.marks s.nodes.nodes s.customers.rows segment) (list_all (is_sound_segment (tables_of s).setup s.marks s.nodes.nodes s.customers.rows) rest) sound in
      (count-like segment parts.0, each-count rest parts.1)

  each-need : (rows : List SegmentRecord) → Each (λ segment. indexed.healthy_count s.segments.gone segment ≡ healthy_count (tables_of s) segment) rows
      → Each (λ segment. indexed.needs_repair s.segments.limits s.segments.gone segment ≡ needs_repair (tables_of s) segment) rows
  each-need [] each = tt
  each-need (segment ∷ rest) each = (need-like segment each.0, each-need rest each.1)

  -- the segment that needs repair most
  pub repair-like : indexed.to_repair s.segments.limits s.segments.gone s.segments.rows ≡ to_repair (tables_of s)
  repair-like =
      let sound = capped-all s.settings.caps.segments (is_sound_segment (tables_of s).setup s.marks s.nodes.nodes s.customers.rows) s.segments.rows 0 valid.rules.segments in
      let counts = each-count s.segments.rows sound in
      least-like (indexed.healthy_count s.segments.gone) (healthy_count (tables_of s)) (indexed.needs_repair s.segments.limits s.segments.gone) (needs_repair (tables_of s)) s.segments.rows (each-need s.segments.rows counts) counts
