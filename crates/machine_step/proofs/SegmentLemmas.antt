-- How segments may change: no number comes again, and a version has one list of pieces.
use Rattle.std.proofs.Common.{◌≡◌, ℕ, ◌<◌, ◌≤◌, Bool, true, false, List, Some, refl, sym, ap, subst, ◌∙◌, arith}
use Rattle.std.specs.Prelude.{◌==◌}
use Rattle.std.proofs.lemmas.Bool.Decides.{nat_tests}
use Rattle.rows.specs.Rows.{without}
use Rattle.rows.specs.Slots.{with_row}
use Rattle.segment_core.specs.Record.{SegmentRecord, segment_rank}
use Rattle.machine_step.specs.Tables.{segment_at}
use Rattle.machine_step.proofs.RowLemmas.{row_at-with_row, row_left}

-- a segment as it may become
pub record IsNext (old new : SegmentRecord) : Type 0 where
  pub len : new.len ≡ old.len
  pub version : old.version ≤ new.version
  pub same : new.version ≡ old.version → new ≡ old

pub next_self : (s : SegmentRecord) → IsNext s s
next_self s = record { len = refl; version = omega arith; same = λ e. refl }

pub next_trans : (a b c : SegmentRecord) → IsNext a b → IsNext b c → IsNext a c
next_trans a b c f g = record {
  len = g.len ∙ f.len;
  version = omega (arith, f.version, g.version);
  same = λ e. let first : b.version ≡ a.version = omega (arith, f.version, g.version, e) in g.same (e ∙ sym first) ∙ f.same first;
}

-- a segment of a later table is the next one of that in an earlier table
pub record HasBefore (old : List SegmentRecord) (id : ℕ) (new : SegmentRecord) : Type 0 where
  pub before : SegmentRecord
  pub at : segment_at old id ≡ Some before
  pub next : IsNext before new

-- so is each with a number below the one where new segments begin
abbrev pub SegmentsGrow : ℕ → List SegmentRecord → List SegmentRecord → Type 0
SegmentsGrow from old new = (id : ℕ) (s : SegmentRecord) → id < from → segment_at new id ≡ Some s → HasBefore old id s

pub segments_self : (from : ℕ) (rows : List SegmentRecord) → SegmentsGrow from rows rows
segments_self from rows id s lt at = record { before = s; at = at; next = next_self s }

pub segments_trans : (from later : ℕ) (a b c : List SegmentRecord) → from ≤ later → SegmentsGrow from a b → SegmentsGrow later b c → SegmentsGrow from a c
segments_trans from later a b c le f g id s lt at =
    let second = g id s (omega (arith, le, lt)) at in
    let first = f id second.before lt second.at in
    record { before = first.before; at = first.at; next = next_trans first.before second.before s first.next second.next }

-- a new segment
pub segments_new : (from : ℕ) (rows : List SegmentRecord) (row : SegmentRecord) → from ≤ row.id.0 → SegmentsGrow from rows (with_row segment_rank rows row)
segments_new from rows row le id s lt at =
    let kept : segment_at rows id ≡ Some s = grind (arith, nat_tests, at, lt, le, row_at-with_row segment_rank rows row id) in
    record { before = s; at = kept; next = next_self s }

-- a segment in place of an earlier version
pub segments_set : (from : ℕ) (rows : List SegmentRecord) (row found : SegmentRecord) → segment_at rows row.id.0 ≡ Some found → IsNext found row → SegmentsGrow from rows (with_row segment_rank rows row)
segments_set from rows row found there next id s lt at = go (row.id.0 == id) refl
  where
    go : (b : Bool) → (row.id.0 == id) ≡ b → HasBefore rows id s
    go true is =
        let same : row ≡ s = grind (arith, nat_tests, at, is, row_at-with_row segment_rank rows row id) in
        let own : row.id.0 ≡ id = grind (arith, nat_tests, is) in
        record { before = found; at = ap (λ (k : ℕ). segment_at rows k) (sym own) ∙ there; next = subst (λ (x : SegmentRecord). IsNext found x) same next }
    go false is =
        let kept : segment_at rows id ≡ Some s = grind (arith, nat_tests, at, is, row_at-with_row segment_rank rows row id) in
        record { before = s; at = kept; next = next_self s }

-- a segment less
pub segments_less : (from : ℕ) (rows : List SegmentRecord) (gone : ℕ) → SegmentsGrow from rows (without segment_rank rows gone)
segments_less from rows gone id s lt at = record { before = s; at = row_left segment_rank rows gone id s at; next = next_self s }
