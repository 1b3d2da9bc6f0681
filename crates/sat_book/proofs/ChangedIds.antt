-- Ids stay within what their types hold as records change.
use Rattle.std.proofs.Common.{List, [], ◌∷◌}
use Rattle.sat_base.specs.declared.records.Key.TheVariants as keys
use Rattle.sat_base.specs.Ranks.{containment_rank, customer_rank, kept_rank, tariff_rank}
use Rattle.node_registry.specs.Registry.{node_rank}
use Rattle.node_registry.specs.Left.{left_rank}
use Rattle.segment_core.specs.Record.{segment_rank}
use Rattle.settlement.specs.Rows.{key}
use Rattle.tally_payout.specs.Ranks.{tally_rank, statement_rank}
use Rattle.machine_calls.specs.declared.change.RecChange.{RecChange}
use Rattle.machine_calls.specs.declared.change.RecChange.TheVariants as changes
use Rattle.machine_step.specs.Tables.{Tables, changed, all_changed}
use Rattle.machine_step.specs.Bounds.{Each}
use Rattle.machine_step.proofs.RowLemmas.{each-with_row, each-without}
use Rattle.sat_book.specs.Ids.{AreIds, HasId, HasIds, Table}
use Rattle.sat_book.specs.Ids.Table.{nodes_table, customers_table, segments_table, settled_table, tallies_table, statements_table, containments_table, kept_table, left_table, tariffs_table}

module _ (t : Tables) (ids : AreIds t) where
  -- a change that puts or removes a row leaves the ids of the other tables
  ids_in : (change : RecChange) → HasId change → (x : Table) → HasIds (changed t change) x
  ids_in (changes.Node one) id nodes_table = each-with_row node_rank _ t.nodes one (ids.all nodes_table) id
  ids_in (changes.Customer one) id customers_table = each-with_row customer_rank _ t.customers one (ids.all customers_table) id
  ids_in (changes.Segment one) id segments_table = each-with_row segment_rank _ t.segments one (ids.all segments_table) id
  ids_in (changes.SettledRow one) id settled_table = each-with_row key _ t.settled one (ids.all settled_table) id
  ids_in (changes.Tally one) id tallies_table = each-with_row tally_rank _ t.tallies one (ids.all tallies_table) id
  ids_in (changes.Statement one) id statements_table = each-with_row statement_rank _ t.statements one (ids.all statements_table) id
  ids_in (changes.Containment one) id containments_table = each-with_row containment_rank _ t.containments one (ids.all containments_table) id
  ids_in (changes.Kept one) id kept_table = each-with_row kept_rank _ t.kept one (ids.all kept_table) id
  ids_in (changes.Left one) id left_table = each-with_row left_rank _ t.left one (ids.all left_table) id
  ids_in (changes.Tariff one) id tariffs_table = each-with_row tariff_rank _ t.tariffs one (ids.all tariffs_table) id
  ids_in (changes.Remove (keys.Segment segment)) id segments_table = each-without segment_rank _ t.segments segment.0 (ids.all segments_table)
  ids_in (changes.Remove (keys.Containment node)) id containments_table = each-without containment_rank _ t.containments node.0 (ids.all containments_table)
  ids_in (changes.Remove (keys.Plan kind)) id nodes_table = ids.all nodes_table
  ids_in _ id x = ids.all x

  -- and ids stay within what their types hold
  pub ids_put : (change : RecChange) → HasId change → AreIds (changed t change)
  ids_put change id = record { all = ids_in change id }

pub ids_all : (t : Tables) (cs : List RecChange) → AreIds t → Each HasId cs → AreIds (all_changed t cs)
ids_all t [] ids each = ids
ids_all t (change ∷ cs) ids each = ids_all (changed t change) cs (ids_put t ids change each.0) each.1
