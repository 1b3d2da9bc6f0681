-- What is placed beside what pay goes by, as that changes.
use Rattle.std.proofs.Common.{◌≡◌, ◌<◌, true, List, sym, subst, arith}
use Rattle.std.proofs.lemmas.Bool.Decides.{nat_tests}
use Rattle.sat_base.specs.declared.ids.NodeId.{NodeId}
use Rattle.sat_base.specs.declared.records.At.{At}
use Rattle.segment_core.specs.Record.{SegmentRecord}
use Rattle.segment_index.specs.Indexed.{Indexed, IsPlaced as IsSegmentPlaced}
use Rattle.settlement.specs.declared.row.SettledRow.{SettledRow}
use Rattle.settlement.specs.Rows.{Kept}
use Rattle.tally_payout.specs.declared.amounts.Statement.{Statement}
use Rattle.tally_payout.specs.declared.amounts.Tally.{Tally}
use Rattle.tally_payout.specs.Ranks.{tally_rank, statement_rank}
use Rattle.machine_calls.specs.declared.change.RecChange.{RecChange}
use Rattle.machine_calls.specs.declared.change.RecChange.TheVariants as changes
use Rattle.sat_base.specs.declared.records.Key.TheVariants as keys
use Rattle.sat_base.specs.declared.ids.SegId.{SegId}
use Rattle.pay_tables.specs.declared.tables.PayTables.{PayTables}
use Rattle.pay_tables.specs.Placed.{IsOrderPlaced, IsTallyPlaced, IsStatementPlaced, ArePiecesPlaced, KeepsPlaces}
use Rattle.machine_store.specs.declared.store.Store.{Store}
use Rattle.machine_store.specs.Store.{StaysLost, IsRowPlaced, IsPlaced, spares}

-- where all that pay goes by stays placed, all else does
module _ (s : Store) (pay : PayTables) (keeps : KeepsPlaces s.pay pay) where
  pub kept-paid : (c : RecChange) → IsPlaced s c → IsPlaced (record s { pay = pay }) c
  kept-paid (changes.Segment r) placed = record { index = placed.index; pieces = keeps.pieces r.pieces placed.pieces; short = placed.short }
  kept-paid (changes.SettledRow r) placed = record { row = placed.row; order = keeps.order r placed.order }
  kept-paid (changes.Tally r) placed = keeps.tally r placed
  kept-paid (changes.Statement r) placed = keeps.statement r placed
  kept-paid c placed = placed

  -- beside other settled orders
  module _ (settled : Kept) where
    pub kept-settled : ((row : SettledRow) → IsRowPlaced s.settled row → IsRowPlaced settled row) → (c : RecChange) → IsPlaced s c → IsPlaced (record s { settled = settled; pay = pay }) c
    kept-settled rows (changes.Segment r) placed = record { index = placed.index; pieces = keeps.pieces r.pieces placed.pieces; short = placed.short }
    kept-settled rows (changes.SettledRow r) placed = record { row = rows r placed.row; order = keeps.order r placed.order }
    kept-settled rows (changes.Tally r) placed = keeps.tally r placed
    kept-settled rows (changes.Statement r) placed = keeps.statement r placed
    kept-settled rows c placed = placed

    -- behind an order
    pub kept-order : (one : SettledRow) (c : RecChange) → spares (changes.SettledRow one) c ≡ true → IsPlaced s c → IsPlaced (record s { settled = settled; pay = pay }) c
    kept-order one (changes.Segment r) spared placed = record { index = placed.index; pieces = keeps.pieces r.pieces placed.pieces; short = placed.short }
    kept-order one (changes.SettledRow r) spared placed = cc
    kept-order one (changes.Tally r) spared placed = keeps.tally r placed
    kept-order one (changes.Statement r) spared placed = keeps.statement r placed
    kept-order one c spared placed = placed

  -- beside another index of segments
  module _ (index : Indexed) (gone : index.gone ≡ s.segments.gone) where
    pub kept-index : ((segment : SegmentRecord) → IsSegmentPlaced s.segments segment → IsSegmentPlaced index segment) → (c : RecChange) → IsPlaced s c → IsPlaced (record s { pay = pay; segments = index }) c
    kept-index others (changes.Node r) placed = (placed.0, subst (λ (g : List NodeId). StaysLost g r) (sym gone) placed.1)
    kept-index others (changes.Segment r) placed = record { index = others r placed.index; pieces = keeps.pieces r.pieces placed.pieces; short = placed.short }
    kept-index others (changes.SettledRow r) placed = record { row = placed.row; order = keeps.order r placed.order }
    kept-index others (changes.Tally r) placed = keeps.tally r placed
    kept-index others (changes.Statement r) placed = keeps.statement r placed
    kept-index others c placed = placed

    -- behind a segment
    pub kept-segment : (one : SegmentRecord) (c : RecChange) → spares (changes.Segment one) c ≡ true → IsPlaced s c → IsPlaced (record s { pay = pay; segments = index }) c
    kept-segment one (changes.Node r) spared placed = (placed.0, subst (λ (g : List NodeId). StaysLost g r) (sym gone) placed.1)
    kept-segment one (changes.Segment r) spared placed = cc
    kept-segment one (changes.SettledRow r) spared placed = record { row = placed.row; order = keeps.order r placed.order }
    kept-segment one (changes.Tally r) spared placed = keeps.tally r placed
    kept-segment one (changes.Statement r) spared placed = keeps.statement r placed
    kept-segment one c spared placed = placed

    -- behind the removal of one
    pub kept-removed : (id : SegId) (c : RecChange) → spares (changes.Remove (keys.Segment id)) c ≡ true → IsPlaced s c → IsPlaced (record s { pay = pay; segments = index }) c
    kept-removed id (changes.Node r) spared placed = (placed.0, subst (λ (g : List NodeId). StaysLost g r) (sym gone) placed.1)
    kept-removed id (changes.Segment r) spared placed = cc
    kept-removed id (changes.SettledRow r) spared placed = record { row = placed.row; order = keeps.order r placed.order }
    kept-removed id (changes.Tally r) spared placed = keeps.tally r placed
    kept-removed id (changes.Statement r) spared placed = keeps.statement r placed
    kept-removed id c spared placed = placed

-- behind a tally, another one stays placed
module _ (s : Store) (pay : PayTables) (tally : Tally) where
  pub kept-tally : ((row : SettledRow) → IsOrderPlaced s.pay row → IsOrderPlaced pay row) → ((other : Tally) → (tally_rank tally ≡ tally_rank other → ⊥) → IsTallyPlaced s.pay other → IsTallyPlaced pay other)
      → ((other : Statement) → IsStatementPlaced s.pay other → IsStatementPlaced pay other) → ((pieces : List At) → ArePiecesPlaced s.pay pieces → ArePiecesPlaced pay pieces)
      → (c : RecChange) → spares (changes.Tally tally) c ≡ true → IsPlaced s c → IsPlaced (record s { pay = pay }) c
  kept-tally order others statement pieces (changes.Segment r) spared placed = record { index = placed.index; pieces = pieces r.pieces placed.pieces; short = placed.short }
  kept-tally order others statement pieces (changes.SettledRow r) spared placed = record { row = placed.row; order = order r placed.order }
  kept-tally order others statement pieces (changes.Tally r) spared placed = others r (λ same. absurd (grind (arith, nat_tests, same, spared))) placed
  kept-tally order others statement pieces (changes.Statement r) spared placed = statement r placed
  kept-tally order others statement pieces c spared placed = placed

-- behind a statement, a later one stays placed
module _ (s : Store) (pay : PayTables) (statement : Statement) where
  pub kept-statement : ((other : Statement) → statement_rank statement < statement_rank other → IsStatementPlaced s.pay other → IsStatementPlaced pay other) → ((pieces : List At) → ArePiecesPlaced s.pay pieces → ArePiecesPlaced pay pieces)
      → (c : RecChange) → spares (changes.Statement statement) c ≡ true → IsPlaced s c → IsPlaced (record s { pay = pay }) c
  kept-statement later pieces (changes.Segment r) spared placed = record { index = placed.index; pieces = pieces r.pieces placed.pieces; short = placed.short }
  kept-statement later pieces (changes.SettledRow r) spared placed = cc
  kept-statement later pieces (changes.Tally r) spared placed = cc
  kept-statement later pieces (changes.Statement r) spared placed = later r (grind (arith, nat_tests, spared)) placed
  kept-statement later pieces c spared placed = placed
