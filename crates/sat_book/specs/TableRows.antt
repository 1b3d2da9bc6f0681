-- The rows of tables: those of their records, kind by kind.
use Rattle.std.specs.Prelude.{List, [], ◌∷◌, ◌++◌, map, option_to_list}
use Rattle.std.specs.FinMap.{from_entries}
use Rattle.sat_base.specs.declared.kinds.TheConstants as kinds
use Rattle.sat_base.specs.declared.rows.Row.{Row}
use Rattle.sat_base.specs.Rows.{Rows, entry}
use Rattle.record_kinds.specs.declared.rec.Rec.{Rec}
use Rattle.record_kinds.specs.declared.rec.Rec.TheVariants as records
use Rattle.record_rows.specs.Settings.{settings_bytes}
use Rattle.record_rows.specs.Spelling.{row_of}
use Rattle.machine_step.specs.Tables.{Setup, Tables}

-- the row of what a store is set up with
abbrev pub setup_row : Setup → Row
setup_row setup = record {
  kind = kinds.SETTINGS;
  id = [];
  body = settings_bytes setup.secret setup.k setup.m setup.o setup.n setup.share setup.vet setup.fresh setup.caps setup.first_month;
}

-- the rows of records of one kind
abbrev pub rows_in : {R : Type 0} → (R → Rec) → List R → List Row
rows_in record_of all = map (λ one. row_of (record_of one)) all

-- the rows of each kind, in the order of the kinds
abbrev pub row_lists : Tables → List (List Row)
row_lists t =
    (setup_row t.setup ∷ [])
    ∷ rows_in records.Marks (t.marks ∷ [])
    ∷ rows_in records.Node t.nodes
    ∷ rows_in records.Customer t.customers
    ∷ rows_in records.Segment t.segments
    ∷ rows_in records.SettledRow t.settled
    ∷ rows_in records.Tally t.tallies
    ∷ rows_in records.Statement t.statements
    ∷ rows_in records.AuditPlan (option_to_list t.audit)
    ∷ rows_in records.RecheckPlan (option_to_list t.recheck)
    ∷ rows_in records.RepairPlan (option_to_list t.repair)
    ∷ rows_in records.Containment t.containments
    ∷ rows_in records.Kept t.kept
    ∷ rows_in records.ExitPlan (option_to_list t.exit)
    ∷ rows_in records.Left t.left
    ∷ rows_in records.Tariff t.tariffs
    ∷ []

-- lists, one behind the other
abbrev pub joined : {A : Type 0} → List (List A) → List A
joined [] = []
joined (first ∷ rest) = first ++ joined rest

-- the rows of all records, in the order of their kinds and then of their ids
abbrev pub row_list : Tables → List Row
row_list t = joined (row_lists t)

-- the rows as a keeper has them. That the machine was stopped is no record
abbrev pub rows : Tables → Rows
rows t = from_entries (map entry (row_list t))
