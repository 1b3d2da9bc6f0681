-- Room that is gone stays so while other room is given back.
use Rattle.std.proofs.Common.{◌≡◌, ℕ, List, [], ◌∷◌, ◌++◌, sym, ap, subst, ◌∙◌}
use Rattle.sat_base.specs.declared.records.At.{At}
use Rattle.sat_base.specs.Ranks.{containment_rank, customer_rank, kept_rank, tariff_rank}
use Rattle.rows.specs.Rows.{Each, row_at}
use Rattle.rows.specs.Slots.{Slots}
use Rattle.node_registry.specs.Left.{left_rank}
use Rattle.segment_core.specs.Record.{SegmentRecord}
use Rattle.segment_index.specs.Indexed.{Room, Indexed, IsReleased, HasNoMoreRoom}
use Rattle.tally_payout.specs.Ranks.{month_place, tally_rank, statement_rank}
use Rattle.month_pay.specs.Months.{month_at, month_of_hour}
use Rattle.month_pay.proofs.ListFacts.{each-weaker}
use Rattle.month_sums.specs.Open.{open_rank}
use Rattle.machine_calls.specs.declared.change.RecChange.{RecChange}
use Rattle.machine_calls.specs.declared.change.RecChange.TheVariants as changes
use Rattle.machine_step.specs.Tables.{Tables}
use Rattle.pay_tables.specs.declared.balance.Balance.{Balance}
use Rattle.pay_tables.specs.Amounts.{balance_rank}
use Rattle.pay_tables.specs.Placed.{IsFreed, HasNoMore, KeepsRows}
use Rattle.machine_store.specs.declared.store.Store.{Store}
use Rattle.machine_store.specs.Store.{tables_of}
use Rattle.machine_store.specs.Freed.{IsTight, IsPlainFreed, IsPaidFreed, HasNoRoom, HasNoMoreRooms}

-- ---- one table

module _ {R : Type 0} (rank : R → ℕ) (old new : Slots R) (k : ℕ) (same : new.rows ≡ old.rows) where
  -- a slot that is gone where there was no row, beside the rows as they are now
  pub tight : IsFreed rank old new k → IsTight rank new k
  tight freed = λ none. freed (ap (λ (rows : List R). row_at rank rows k) (sym same) ∙ none)

  -- no slot comes again
  pub tight-kept : HasNoMore old new → IsTight rank old k → IsTight rank new k
  tight-kept fewer was = λ none. fewer k (was (ap (λ (rows : List R). row_at rank rows k) (sym same) ∙ none))

module _ (old new : Slots Balance) (same : new.rows ≡ old.rows) where
  pub pieces-tight : (pieces : List At) → Each (λ piece. IsFreed balance_rank old new piece.node.0) pieces → Each (λ piece. IsTight balance_rank new piece.node.0) pieces
  pieces-tight pieces freed =
      each-weaker (λ piece. IsFreed balance_rank old new piece.node.0) (λ piece. IsTight balance_rank new piece.node.0) (λ piece. tight balance_rank old new piece.node.0 same) pieces freed

  pub pieces-kept : HasNoMore old new → (pieces : List At) → Each (λ piece. IsTight balance_rank old piece.node.0) pieces → Each (λ piece. IsTight balance_rank new piece.node.0) pieces
  pieces-kept fewer pieces was =
      each-weaker (λ piece. IsTight balance_rank old piece.node.0) (λ piece. IsTight balance_rank new piece.node.0) (λ piece. tight-kept balance_rank old new piece.node.0 same fewer) pieces was

-- ---- the index of segments

pub released-kept : (index : Indexed) (room : Room) (segment : SegmentRecord) → HasNoMoreRoom index.room room → IsReleased index segment → IsReleased (record index { room = room }) segment
released-kept index room segment fewer was =
    record {
      row = λ none. fewer.segments _ (was.row none);
      nodes = λ node lies apart. fewer.by_node _ (was.nodes node lies apart);
      need = λ healthy key apart. fewer.by_need _ (was.need healthy key apart);
    }

-- ---- all tables, where no row changes and no room comes

module _ (s t : Store) (tables : tables_of t ≡ tables_of s) (index : t.segments ≡ record s.segments { room = t.segments.room }) (rows : KeepsRows s.pay t.pay) (fewer : HasNoMoreRooms s t) where
  plain-kept : (c : RecChange) → IsPlainFreed s c → IsPlainFreed t c
  plain-kept (changes.Customer r) was = tight-kept customer_rank s.customers t.customers (customer_rank r) (ap (λ (u : Tables). u.customers) tables) fewer.customers was
  plain-kept (changes.Containment r) was = tight-kept containment_rank s.containments t.containments (containment_rank r) (ap (λ (u : Tables). u.containments) tables) fewer.containments was
  plain-kept (changes.Kept r) was = tight-kept kept_rank s.kept t.kept (kept_rank r) (ap (λ (u : Tables). u.kept) tables) fewer.kept was
  plain-kept (changes.Left r) was = tight-kept left_rank s.left t.left (left_rank r) (ap (λ (u : Tables). u.left) tables) fewer.left was
  plain-kept (changes.Tariff r) was = tight-kept tariff_rank s.tariffs t.tariffs (tariff_rank r) (ap (λ (u : Tables). u.tariffs) tables) fewer.tariffs was
  plain-kept c was = was

  paid-kept : (c : RecChange) → IsPaidFreed s c → IsPaidFreed t c
  paid-kept (changes.Segment r) was = record {
    index = subst (λ (i : Indexed). IsReleased i r) (sym index) (released-kept s.segments t.segments.room r fewer.segments was.index);
    bytes = pieces-kept s.pay.stored t.pay.stored rows.stored fewer.pay.stored r.pieces was.bytes;
  }
  paid-kept (changes.SettledRow r) was = tight-kept open_rank s.pay.sums t.pay.sums (month_place (month_at r.at) r.node.0) rows.sums fewer.pay.sums was
  paid-kept (changes.Tally r) was = λ early. record {
    row = tight-kept tally_rank s.pay.tallies t.pay.tallies (tally_rank r) rows.tallies fewer.pay.tallies (was early).row;
    sum = tight-kept open_rank s.pay.sums t.pay.sums (month_place (month_of_hour r.hour.0) r.node.0) rows.sums fewer.pay.sums (was early).sum;
  }
  paid-kept (changes.Statement r) was = record {
    row = tight-kept statement_rank s.pay.statements t.pay.statements (statement_rank r) rows.statements fewer.pay.statements was.row;
    pot = tight-kept balance_rank s.pay.pots t.pay.pots r.node.0 rows.pots fewer.pay.pots was.pot;
  }
  paid-kept c was = was

  pub each-kept : (cs : List RecChange) → Each (HasNoRoom s) cs → Each (HasNoRoom t) cs
  each-kept cs was = each-weaker (HasNoRoom s) (HasNoRoom t) (λ c had. record { plain = plain-kept c had.plain; paid = paid-kept c had.paid }) cs was

-- and one more
pub each-freed : (s : Store) (cs : List RecChange) (c : RecChange) → Each (HasNoRoom s) cs → HasNoRoom s c → Each (HasNoRoom s) (cs ++ c ∷ [])
each-freed s [] c each one = (one, tt)
each-freed s (d ∷ cs) c each one = (each.0, each-freed s cs c each.1 one)
