-- What is kept of all segments when one of them changes, and when more nodes are gone.
use Rattle.std.proofs.Common.{◌≡◌, ℕ, ◌<◌, ◌^◌, Bool, true, false, ◌&&◌, List, [], ◌∷◌, length, Option, Some, None, refl, sym, ap, ◌∙◌, arith}
use Rattle.std.specs.Prelude.{◌==◌, nat_le, nat_lt, if◌then◌else◌}
use Rattle.std.proofs.lemmas.Bool.Decides.{nat_tests}
use Rattle.sat_base.specs.declared.ids.NodeId.{NodeId}
use Rattle.sat_base.specs.declared.records.At.{At}
use Rattle.rows.specs.Rows.{without}
use Rattle.rows.specs.Slots.{with_row}
use Rattle.rows.proofs.Found.{row_at-with_row, row_at-without}
use Rattle.rows.proofs.Rising.{rising-with_row, rising-without}
use Rattle.segment_core.specs.Record.{SegmentRecord, segment_rank}
use Rattle.segment_index.specs.declared.health.Limits.{Limits}
use Rattle.segment_index.specs.declared.live.LiveId.{LiveId}
use Rattle.segment_index.specs.declared.pairs.Pair.{Pair}
use Rattle.segment_index.specs.Pairs.{has}
use Rattle.segment_index.specs.Segments.{segment_at, is_live, is_gone, healthy_of}
use Rattle.segment_index.specs.Keys.{AreIds, IsIndexed, has_piece, is_key, live_id, live_pieces, live_rank, repair_key}
use Rattle.segment_index.proofs.LiveLemmas.{live-put, live-remove}

low-put : (rows : List SegmentRecord) (s : SegmentRecord) → AreIds rows → s.id.0 < 2 ^ 64 → AreIds (with_row segment_rank rows s)
low-put [] s low lt = (lt, tt)
low-put (first ∷ rest) s low lt = grind (arith, nat_tests, low.0, low.1, lt, low-put rest s low.1 lt)

low-remove : (rows : List SegmentRecord) (k : ℕ) → AreIds rows → AreIds (without segment_rank rows k)
low-remove [] k low = tt
low-remove (first ∷ rest) k low = grind (arith, nat_tests, low.0, low.1, low-remove rest k low.1)

-- a test of the row at an id, after that at another one changed
changed : {X : Type 0} (test : X → Bool) (a b : ℕ) (x y : X) (old : Bool) → old ≡ test y → (if b == a then test x else old) ≡ test (if a == b then x else y)
changed test a b x y old e = grind (arith, nat_tests, e)

module _ (limits : Limits) (gone : List NodeId) (rows : List SegmentRecord) (ids : List LiveId) (nodes needs : List Pair) (was : IsIndexed limits gone rows ids nodes needs) where
  pub kept-put : (s : SegmentRecord) (ids' : List LiveId) (nodes' needs' : List Pair) → s.id.0 < 2 ^ 64
      → ids' ≡ (if is_live s then with_row live_rank ids (live_id s) else without live_rank ids s.id.0)
      → ((node id : ℕ) → has nodes' (record { high = node; low = id }) ≡ (if id == s.id.0 then has_piece node (live_pieces (Some s)) else has nodes (record { high = node; low = id })))
      → ((healthy id : ℕ) → has needs' (record { high = healthy; low = id }) ≡ (if id == s.id.0 then is_key (repair_key limits gone (Some s)) healthy else has needs (record { high = healthy; low = id })))
      → IsIndexed limits gone (with_row segment_rank rows s) ids' nodes' needs'
  kept-put s ids' nodes' needs' lt live moved needed = record {
    rising = rising-with_row segment_rank rows s was.rising;
    low = low-put rows s was.low lt;
    live = live ∙ ap (λ (l : List LiveId). if is_live s then with_row live_rank l (live_id s) else without live_rank l s.id.0) was.live ∙ sym (live-put rows s was.rising);
    by_node = λ node id. moved node id
        ∙ changed (λ (o : Option SegmentRecord). has_piece node (live_pieces o)) s.id.0 id (Some s) (segment_at rows id) (has nodes (record { high = node; low = id })) (was.by_node node id)
        ∙ ap (λ (o : Option SegmentRecord). has_piece node (live_pieces o)) (sym (row_at-with_row segment_rank rows s id));
    by_need = λ healthy id. needed healthy id
        ∙ changed (λ (o : Option SegmentRecord). is_key (repair_key limits gone o) healthy) s.id.0 id (Some s) (segment_at rows id) (has needs (record { high = healthy; low = id })) (was.by_need healthy id)
        ∙ ap (λ (o : Option SegmentRecord). is_key (repair_key limits gone o) healthy) (sym (row_at-with_row segment_rank rows s id));
  }

  pub kept-remove : (k : ℕ) (ids' : List LiveId) (nodes' needs' : List Pair)
      → ids' ≡ without live_rank ids k
      → ((node id : ℕ) → has nodes' (record { high = node; low = id }) ≡ (if id == k then false else has nodes (record { high = node; low = id })))
      → ((healthy id : ℕ) → has needs' (record { high = healthy; low = id }) ≡ (if id == k then false else has needs (record { high = healthy; low = id })))
      → IsIndexed limits gone (without segment_rank rows k) ids' nodes' needs'
  kept-remove k ids' nodes' needs' live moved needed = record {
    rising = rising-without segment_rank rows k was.rising;
    low = low-remove rows k was.low;
    live = live ∙ ap (λ (l : List LiveId). without live_rank l k) was.live ∙ sym (live-remove rows k);
    by_node = λ node id. moved node id
        ∙ changed (λ (o : Option SegmentRecord). has_piece node (live_pieces o)) k id None (segment_at rows id) (has nodes (record { high = node; low = id })) (was.by_node node id)
        ∙ ap (λ (o : Option SegmentRecord). has_piece node (live_pieces o)) (sym (row_at-without segment_rank rows k id));
    by_need = λ healthy id. needed healthy id
        ∙ changed (λ (o : Option SegmentRecord). is_key (repair_key limits gone o) healthy) k id None (segment_at rows id) (has needs (record { high = healthy; low = id })) (was.by_need healthy id)
        ∙ ap (λ (o : Option SegmentRecord). is_key (repair_key limits gone o) healthy) (sym (row_at-without segment_rank rows k id));
  }

-- ---- more nodes are gone

-- no piece lies at a node that is counted
healthy_beside : (node : NodeId) (gone : List NodeId) (pieces : List At) → has_piece node.0 pieces ≡ false → healthy_of (node ∷ gone) pieces ≡ healthy_of gone pieces
healthy_beside node gone [] none = refl
healthy_beside node gone (piece ∷ rest) none = grind (arith, nat_tests, none, healthy_beside node gone rest)

-- the key, by the healthy pieces
abbrev key_of : Limits → Bool → List At → Option ℕ
key_of limits live pieces = if live && (nat_le limits.k (length pieces) && nat_lt (length pieces) limits.m) then Some (length pieces) else None

pub key_beside : (limits : Limits) (node : NodeId) (gone : List NodeId) (at : Option SegmentRecord) → has_piece node.0 (live_pieces at) ≡ false → repair_key limits (node ∷ gone) at ≡ repair_key limits gone at
key_beside limits node gone None none = refl
key_beside limits node gone (Some s) none = go (is_live s) none
  where
    go : (live : Bool) → has_piece node.0 (if live then s.pieces else []) ≡ false → key_of limits live (healthy_of (node ∷ gone) s.pieces) ≡ key_of limits live (healthy_of gone s.pieces)
    go true none = ap (λ (pieces : List At). key_of limits true pieces) (healthy_beside node gone s.pieces none)
    go false none = refl

-- the same nodes are gone
healthy_like : (g h : List NodeId) (pieces : List At) → ((node : NodeId) → is_gone g node ≡ is_gone h node) → healthy_of g pieces ≡ healthy_of h pieces
healthy_like g h [] like = refl
healthy_like g h (piece ∷ rest) like = grind (arith, nat_tests, like piece.node, healthy_like g h rest like)

pub key_like : (limits : Limits) (g h : List NodeId) (at : Option SegmentRecord) → ((node : NodeId) → is_gone g node ≡ is_gone h node) → repair_key limits g at ≡ repair_key limits h at
key_like limits g h None like = refl
key_like limits g h (Some s) like = ap (λ (pieces : List At). key_of limits (is_live s) pieces) (healthy_like g h s.pieces like)
