-- The ids of the live segments after each change.
use Rattle.std.proofs.Common.{◌≡◌, ℕ, ◌≤◌, true, List, [], ◌∷◌, None, is_some, refl, ap, arith}
use Rattle.std.specs.Prelude.{if◌then◌else◌}
use Rattle.std.proofs.lemmas.Bool.Decides.{nat_tests}
use Rattle.rows.specs.Rows.{row_at, added, without, AllAbove, IsRising}
use Rattle.rows.specs.Slots.{with_row}
use Rattle.rows.proofs.EntryLemmas.{put_front}
use Rattle.rows.proofs.Lengths.{without_above}
use Rattle.rows.proofs.Rising.{above_less, none_above}
use Rattle.segment_core.specs.Record.{SegmentRecord, segment_rank}
use Rattle.segment_index.specs.declared.live.LiveId.{LiveId}
use Rattle.segment_index.specs.Segments.{is_live}
use Rattle.segment_index.specs.Keys.{live_id, live_ids, live_rank}

-- a row of a new rank is put where it would be added
pub added_new : {R : Type 0} (rank : R → ℕ) (rows : List R) (row : R) → row_at rank rows (rank row) ≡ None → added rank row rows ≡ with_row rank rows row
added_new rank [] row none = refl
added_new rank (first ∷ rest) row none = grind (arith, nat_tests, none, added_new rank rest row)

-- an id that is there is put to no effect
pub put_again : (ids : List LiveId) (id : ℕ) → IsRising live_rank ids → is_some (row_at live_rank ids id) ≡ true → with_row live_rank ids (record { id = id }) ≡ ids
put_again [] id rising there = absurd cc
put_again (first ∷ rest) id rising there =
    let behind : id ≤ first.id → row_at live_rank rest id ≡ None = λ le. none_above live_rank rest first.id id rising.0 le in
    let same : id ≡ first.id → record { id = id } ∷ rest ≡ first ∷ rest = λ e. ap (λ (n : ℕ). record { id = n } ∷ rest) e in
    grind (arith, nat_tests, there, behind, same, put_again rest id rising.1)

above_live : (rows : List SegmentRecord) (n : ℕ) → AllAbove segment_rank n rows → AllAbove live_rank n (live_ids rows)
above_live [] n above = tt
above_live (first ∷ rest) n above = grind (arith, nat_tests, above.0, above_live rest n above.1)

pub live-put : (rows : List SegmentRecord) (s : SegmentRecord) → IsRising segment_rank rows
    → live_ids (with_row segment_rank rows s) ≡ (if is_live s then with_row live_rank (live_ids rows) (live_id s) else without live_rank (live_ids rows) s.id.0)
live-put [] s rising = grind (arith, nat_tests)
live-put (first ∷ rest) s rising =
    let above : s.id.0 ≤ first.id.0 → AllAbove live_rank s.id.0 (live_ids rest) = λ le. above_live rest s.id.0 (above_less segment_rank first.id.0 s.id.0 rest le rising.0) in
    let front : s.id.0 ≤ first.id.0 → with_row live_rank (live_ids rest) (live_id s) ≡ live_id s ∷ live_ids rest = λ le. put_front live_rank (live_ids rest) (live_id s) (above le) in
    let stay : s.id.0 ≤ first.id.0 → without live_rank (live_ids rest) s.id.0 ≡ live_ids rest = λ le. without_above live_rank (live_ids rest) first.id.0 s.id.0 (above_live rest first.id.0 rising.0) le in
    grind (arith, nat_tests, front, stay, live-put rest s rising.1)

pub live-remove : (rows : List SegmentRecord) (k : ℕ) → live_ids (without segment_rank rows k) ≡ without live_rank (live_ids rows) k
live-remove [] k = refl
live-remove (first ∷ rest) k = grind (arith, nat_tests, live-remove rest k)
