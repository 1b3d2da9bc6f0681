-- The rows of tables after one record of them changed are the rows with that row changed.
use Rattle.std.proofs.Common.{◌≡◌, ℕ, inl, inr, true, cond, List, [], ◌∷◌, ◌++◌, take, drop, Option, Some, None, refl, sym, ap, subst, ◌∙◌, arith}
use Rattle.std.specs.Prelude.{map, option_to_list, ◌==◌}
use Rattle.std.specs.FinMap.{get}
use Rattle.std.specs.FinMap as maps
use Rattle.std.proofs.lemmas.Bool.Decides.{nat_tests}
use Rattle.sat_base.specs.declared.kinds.TheConstants as kinds
use Rattle.sat_base.specs.declared.rows.Row.{Row}
use Rattle.sat_base.specs.declared.rows.Change.TheVariants.{Put, Remove}
use Rattle.sat_base.specs.declared.records.Key.TheVariants as keys
use Rattle.sat_base.specs.Ranks.{containment_rank, customer_rank, kept_rank, tariff_rank}
use Rattle.sat_base.specs.Rows.{Key, key_of, entry, change_of, changed as rows_changed}
use Rattle.sat_base.proofs.KeyOrder.{keys_total, keys_exact}
use Rattle.node_registry.specs.Registry.{node_rank}
use Rattle.node_registry.specs.Left.{left_rank}
use Rattle.segment_core.specs.Record.{segment_rank}
use Rattle.settlement.specs.Rows.{key}
use Rattle.tally_payout.specs.Ranks.{tally_rank, statement_rank}
use Rattle.record_kinds.specs.declared.rec.Rec.{Rec}
use Rattle.record_kinds.specs.declared.rec.Rec.TheVariants as records
use Rattle.record_rows.specs.Numbers.{be32, be64}
use Rattle.record_kinds.specs.Kinds.{kind_of}
use Rattle.record_rows.specs.Spelling.{row_of}
use Rattle.rows.specs.Rows.{without}
use Rattle.rows.specs.Slots.{with_row}
use Rattle.machine_calls.specs.declared.change.RecChange.{RecChange}
use Rattle.machine_calls.specs.declared.change.RecChange.TheVariants as changes
use Rattle.machine_step.specs.Tables.{Tables, changed, all_changed}
use Rattle.machine_step.specs.Bounds.{Each}
use Rattle.machine_step.specs.Writable.{IsWritable, IsPlanKind}
use Rattle.sat_book.specs.TableRows.{setup_row, rows_in, row_lists, row_list, rows}
use Rattle.sat_book.specs.Changes.{row_change}
use Rattle.sat_book.specs.Ids.{AreIds, HasId}
use Rattle.sat_book.specs.Ids.Table.{nodes_table, customers_table, segments_table, settled_table, tallies_table, statements_table, containments_table, kept_table, left_table, tariffs_table}
use Rattle.sat_book.proofs.ChangedIds.{ids_put}
use Rattle.sat_book.proofs.FindLemmas.{ties, at_key, IsTold, entries_of, at_with_row, at_without, cond_same}
use Rattle.sat_book.proofs.BlockLemmas.{Entries, Block, all_entries, all_apart, Puts, puts_among, puts_only, joined_entries}
use Rattle.sat_book.proofs.IdLemmas.{ids32, ids64, ids_64_32, ids_32_32, ids_of_rows}

-- ---- the rows of tables, in blocks

each_own : {R : Type 0} (kind : ℕ) (record_of : R → Rec) → ((one : R) → kind_of (record_of one) ≡ kind) → (all : List R)
    → Each (λ e. e.0.0 ≡ kind) (map entry (rows_in record_of all))
each_own kind record_of own [] = tt
each_own kind record_of own (one ∷ rest) = (own one, each_own kind record_of own rest)

abbrev block_of : {R : Type 0} (kind : ℕ) (record_of : R → Rec) → ((one : R) → kind_of (record_of one) ≡ kind) → List R → Block
block_of kind record_of own all = record { kind = kind; entries = map entry (rows_in record_of all); own = each_own kind record_of own all }

abbrev blocks : Tables → List Block
blocks t =
    record { kind = kinds.SETTINGS; entries = entry (setup_row t.setup) ∷ []; own = (refl, tt) }
    ∷ block_of kinds.MARKS records.Marks (λ one. refl) (t.marks ∷ [])
    ∷ block_of kinds.NODE records.Node (λ one. refl) t.nodes
    ∷ block_of kinds.CUSTOMER records.Customer (λ one. refl) t.customers
    ∷ block_of kinds.SEGMENT records.Segment (λ one. refl) t.segments
    ∷ block_of kinds.SETTLED_ROW records.SettledRow (λ one. refl) t.settled
    ∷ block_of kinds.TALLY records.Tally (λ one. refl) t.tallies
    ∷ block_of kinds.STATEMENT records.Statement (λ one. refl) t.statements
    ∷ block_of kinds.AUDIT_PLAN records.AuditPlan (λ one. refl) (option_to_list t.audit)
    ∷ block_of kinds.RECHECK_PLAN records.RecheckPlan (λ one. refl) (option_to_list t.recheck)
    ∷ block_of kinds.REPAIR_PLAN records.RepairPlan (λ one. refl) (option_to_list t.repair)
    ∷ block_of kinds.CONTAINMENT records.Containment (λ one. refl) t.containments
    ∷ block_of kinds.KEPT records.Kept (λ one. refl) t.kept
    ∷ block_of kinds.EXIT_PLAN records.ExitPlan (λ one. refl) (option_to_list t.exit)
    ∷ block_of kinds.LEFT records.Left (λ one. refl) t.left
    ∷ block_of kinds.TARIFF records.Tariff (λ one. refl) t.tariffs
    ∷ []

-- what the rows answer at a key
at_rows : (t : Tables) (q : Key) → maps.get (rows t) q ≡ at_key q (all_entries (blocks t))
at_rows t q = maps.get-from_entries keys_total (map entry (row_list t)) q ∙ ap (at_key q) (joined_entries (row_lists t))

put_is : (t t' : Tables) (row : Row) → Puts (key_of row) (Some row.body) (all_entries (blocks t)) (all_entries (blocks t')) → rows t' ≡ change_of (Put row) (rows t)
put_is t t' row puts = maps.same_map keys_total keys_exact (rows t') (change_of (Put row) (rows t)) (λ q.
    at_rows t' q ∙ puts q ∙ sym (maps.get-insert keys_total (rows t) (key_of row) row.body q ∙ ap (cond (ties q (key_of row)) (Some row.body)) (at_rows t q)))

remove_is : (t t' : Tables) (kind : ℕ) (id : List ℕ) → Puts (kind, id) None (all_entries (blocks t)) (all_entries (blocks t')) → rows t' ≡ change_of (Remove kind id) (rows t)
remove_is t t' kind id puts = maps.same_map keys_total keys_exact (rows t') (change_of (Remove kind id) (rows t)) (λ q.
    at_rows t' q ∙ puts q ∙ sym (maps.get-remove keys_total (rows t) (kind, id) q ∙ ap (cond (ties q (kind, id)) None) (at_rows t q)))

-- each record of a list, told apart from one
each_told : {R : Type 0} (P Q : R → Type 0) (all : List R) → ((first : R) → P first → Q first) → Each P all → Each Q all
each_told P Q [] tell each = tt
each_told P Q (first ∷ rest) tell each = (tell first each.0, each_told P Q rest tell each.1)

turned : (m n : ℕ) → (m == n) ≡ (n == m)
turned m n = grind (arith, nat_tests)

-- ---- one block among the others

module _ {R : Type 0} (kind : ℕ) (record_of : R → Rec) (own : (one : R) → kind_of (record_of one) ≡ kind) (rank : R → ℕ)
    (before after : List Block) (apart : all_apart kind before ≡ true) (behind : all_apart kind after ≡ true) where
  abbrev row_at : R → Row
  row_at one = row_of (record_of one)

  abbrev around : List R → List Block
  around all = before ++ block_of kind record_of own all ∷ after

  changes_around : (k : Key) (v : Option (List ℕ)) (old new : List R) → k.0 ≡ kind → Puts k v (entries_of rank row_at old) (entries_of rank row_at new)
      → Puts k v (all_entries (around old)) (all_entries (around new))
  changes_around k v old new is puts =
      puts_among k v before (block_of kind record_of own old) (block_of kind record_of own new) after
      (ap (λ (n : ℕ). all_apart n before) is ∙ apart) (ap (λ (n : ℕ). all_apart n after) is ∙ behind) puts

  moved : (k : Key) (v : Option (List ℕ)) (a a' b b' : Entries) → a ≡ a' → b ≡ b' → Puts k v a' b' → Puts k v a b
  moved k v a a' b b' is is' puts q = ap (at_key q) is' ∙ puts q ∙ ap (λ (es : Entries). cond (ties q k) v (at_key q es)) (sym is)

  -- a record is put among those of its kind
  put_one : (t t' : Tables) (all : List R) (one : R) → all_entries (blocks t) ≡ all_entries (around all) → all_entries (blocks t') ≡ all_entries (around (with_row rank all one))
      → Each (λ first. IsTold rank row_at first one) all → rows t' ≡ change_of (Put (row_at one)) (rows t)
  put_one t t' all one is is' told =
      put_is t t' (row_at one) (moved (key_of (row_at one)) (Some (row_at one).body) _ _ _ _ is is'
      (changes_around (key_of (row_at one)) (Some (row_at one).body) all (with_row rank all one) (own one) (λ q. at_with_row rank row_at all one q told (λ first. turned (rank one) (rank first)))))

  -- or removed
  remove_one : (t t' : Tables) (all : List R) (id : List ℕ) (k : ℕ) → all_entries (blocks t) ≡ all_entries (around all) → all_entries (blocks t') ≡ all_entries (around (without rank all k))
      → Each (λ first. ties (key_of (row_at first)) (kind, id) ≡ (rank first == k)) all → rows t' ≡ change_of (Remove kind id) (rows t)
  remove_one t t' all id k is is' told =
      remove_is t t' kind id (moved (kind, id) None _ _ _ _ is is' (changes_around (kind, id) None all (without rank all k) refl (λ q. at_without rank row_at all (kind, id) k q told)))

  -- one takes the place of the one that was there, if there was one
  put_only : (t t' : Tables) (old : List R) (one : R) → all_entries (blocks t) ≡ all_entries (around old) → all_entries (blocks t') ≡ all_entries (around (one ∷ []))
      → Each (λ e. e.0 ≡ key_of (row_at one)) (entries_of rank row_at old) → rows t' ≡ change_of (Put (row_at one)) (rows t)
  put_only t t' old one is is' alike =
      put_is t t' (row_at one) (moved (key_of (row_at one)) (Some (row_at one).body) _ _ _ _ is is'
      (changes_around (key_of (row_at one)) (Some (row_at one).body) old (one ∷ []) (own one) (λ q. puts_only (key_of (row_at one)) (Some (row_at one).body) (entries_of rank row_at old) (entries_of rank row_at (one ∷ [])) alike q refl)))

  -- or goes
  remove_only : (t t' : Tables) (old : List R) → all_entries (blocks t) ≡ all_entries (around old) → all_entries (blocks t') ≡ all_entries (around [])
      → Each (λ e. e.0 ≡ (kind, [])) (entries_of rank row_at old) → rows t' ≡ change_of (Remove kind []) (rows t)
  remove_only t t' old is is' alike =
      remove_is t t' kind [] (moved (kind, []) None _ _ _ _ is is' (changes_around (kind, []) None old [] refl (λ q. puts_only (kind, []) None (entries_of rank row_at old) [] alike q (cond_same (ties q (kind, [])) None))))

-- ---- each change

-- of an open plan there is one at most
each_plan : {R : Type 0} (kind : ℕ) (row : R → Row) → ((one : R) → key_of (row one) ≡ (kind, [])) → (o : Option R) → Each (λ e. e.0 ≡ (kind, [])) (entries_of (λ _. 0) row (option_to_list o))
each_plan kind row key_is None = tt
each_plan kind row key_is (Some one) = (key_is one, tt)

module _ (t : Tables) (ids : AreIds t) where
  pub rows_put : (change : RecChange) → HasId change → IsWritable change → rows (changed t change) ≡ change_of (row_change change) (rows t)
  rows_put (changes.Settings one) id fit = absurd fit
  rows_put (changes.Marks one) id fit =
      put_only kinds.MARKS records.Marks (λ _. refl) (λ _. 0) (take 1 (blocks t)) (drop 2 (blocks t)) refl refl t (changed t (changes.Marks one)) (t.marks ∷ []) one refl refl (refl, tt)
  rows_put (changes.Node one) id fit =
      put_one kinds.NODE records.Node (λ _. refl) node_rank (take 2 (blocks t)) (drop 3 (blocks t)) refl refl t (changed t (changes.Node one)) t.nodes one refl refl
      (each_told _ _ t.nodes (λ first f. ids32 kinds.NODE first.id.0 one.id.0 f id) (ids.all nodes_table))
  rows_put (changes.Customer one) id fit =
      put_one kinds.CUSTOMER records.Customer (λ _. refl) customer_rank (take 3 (blocks t)) (drop 4 (blocks t)) refl refl t (changed t (changes.Customer one)) t.customers one refl refl
      (each_told _ _ t.customers (λ first f. ids32 kinds.CUSTOMER first.id.0 one.id.0 f id) (ids.all customers_table))
  rows_put (changes.Segment one) id fit =
      put_one kinds.SEGMENT records.Segment (λ _. refl) segment_rank (take 4 (blocks t)) (drop 5 (blocks t)) refl refl t (changed t (changes.Segment one)) t.segments one refl refl
      (each_told _ _ t.segments (λ first f. ids64 kinds.SEGMENT first.id.0 one.id.0 f id) (ids.all segments_table))
  rows_put (changes.SettledRow one) id fit =
      put_one kinds.SETTLED_ROW records.SettledRow (λ _. refl) key (take 5 (blocks t)) (drop 6 (blocks t)) refl refl t (changed t (changes.SettledRow one)) t.settled one refl refl
      (each_told _ _ t.settled (λ first f. ids_of_rows kinds.SETTLED_ROW first one f.0 id.0 f.1 id.1) (ids.all settled_table))
  rows_put (changes.Tally one) id fit =
      put_one kinds.TALLY records.Tally (λ _. refl) tally_rank (take 6 (blocks t)) (drop 7 (blocks t)) refl refl t (changed t (changes.Tally one)) t.tallies one refl refl
      (each_told _ _ t.tallies (λ first f. ids_64_32 kinds.TALLY first.hour.0 one.hour.0 first.node.0 one.node.0 f.0 id.0 f.1 id.1) (ids.all tallies_table))
  rows_put (changes.Statement one) id fit =
      put_one kinds.STATEMENT records.Statement (λ _. refl) statement_rank (take 7 (blocks t)) (drop 8 (blocks t)) refl refl t (changed t (changes.Statement one)) t.statements one refl refl
      (each_told _ _ t.statements (λ first f. ids_32_32 kinds.STATEMENT first.month.0 one.month.0 first.node.0 one.node.0 f.0 id.0 f.1 id.1) (ids.all statements_table))
  rows_put (changes.Containment one) id fit =
      put_one kinds.CONTAINMENT records.Containment (λ _. refl) containment_rank (take 11 (blocks t)) (drop 12 (blocks t)) refl refl t (changed t (changes.Containment one)) t.containments one refl refl
      (each_told _ _ t.containments (λ first f. ids32 kinds.CONTAINMENT first.node.0 one.node.0 f id) (ids.all containments_table))
  rows_put (changes.Kept one) id fit =
      put_one kinds.KEPT records.Kept (λ _. refl) kept_rank (take 12 (blocks t)) (drop 13 (blocks t)) refl refl t (changed t (changes.Kept one)) t.kept one refl refl
      (each_told _ _ t.kept (λ first f. ids32 kinds.KEPT first.caller.0 one.caller.0 f id) (ids.all kept_table))
  rows_put (changes.Left one) id fit =
      put_one kinds.LEFT records.Left (λ _. refl) left_rank (take 14 (blocks t)) (drop 15 (blocks t)) refl refl t (changed t (changes.Left one)) t.left one refl refl
      (each_told _ _ t.left (λ first f. ids32 kinds.LEFT first.node.0 one.node.0 f id) (ids.all left_table))
  rows_put (changes.Tariff one) id fit =
      put_one kinds.TARIFF records.Tariff (λ _. refl) tariff_rank (take 15 (blocks t)) (drop 16 (blocks t)) refl refl t (changed t (changes.Tariff one)) t.tariffs one refl refl
      (each_told _ _ t.tariffs (λ first f. ids32 kinds.TARIFF first.from.0 one.from.0 f id) (ids.all tariffs_table))
  rows_put (changes.AuditPlan one) id fit =
      put_only kinds.AUDIT_PLAN records.AuditPlan (λ _. refl) (λ _. 0) (take 8 (blocks t)) (drop 9 (blocks t)) refl refl t (changed t (changes.AuditPlan one)) (option_to_list t.audit) one refl refl
      (each_plan kinds.AUDIT_PLAN (λ plan. row_of (records.AuditPlan plan)) (λ _. refl) t.audit)
  rows_put (changes.RecheckPlan one) id fit =
      put_only kinds.RECHECK_PLAN records.RecheckPlan (λ _. refl) (λ _. 0) (take 9 (blocks t)) (drop 10 (blocks t)) refl refl t (changed t (changes.RecheckPlan one)) (option_to_list t.recheck) one refl refl
      (each_plan kinds.RECHECK_PLAN (λ plan. row_of (records.RecheckPlan plan)) (λ _. refl) t.recheck)
  rows_put (changes.RepairPlan one) id fit =
      put_only kinds.REPAIR_PLAN records.RepairPlan (λ _. refl) (λ _. 0) (take 10 (blocks t)) (drop 11 (blocks t)) refl refl t (changed t (changes.RepairPlan one)) (option_to_list t.repair) one refl refl
      (each_plan kinds.REPAIR_PLAN (λ plan. row_of (records.RepairPlan plan)) (λ _. refl) t.repair)
  rows_put (changes.ExitPlan one) id fit =
      put_only kinds.EXIT_PLAN records.ExitPlan (λ _. refl) (λ _. 0) (take 13 (blocks t)) (drop 14 (blocks t)) refl refl t (changed t (changes.ExitPlan one)) (option_to_list t.exit) one refl refl
      (each_plan kinds.EXIT_PLAN (λ plan. row_of (records.ExitPlan plan)) (λ _. refl) t.exit)
  rows_put (changes.Remove (keys.Segment segment)) id fit =
      remove_one kinds.SEGMENT records.Segment (λ _. refl) segment_rank (take 4 (blocks t)) (drop 5 (blocks t)) refl refl t (changed t (changes.Remove (keys.Segment segment))) t.segments (be64 segment.0) segment.0 refl refl
      (each_told _ _ t.segments (λ first f. ids64 kinds.SEGMENT first.id.0 segment.0 f id) (ids.all segments_table))
  rows_put (changes.Remove (keys.Containment node)) id fit =
      remove_one kinds.CONTAINMENT records.Containment (λ _. refl) containment_rank (take 11 (blocks t)) (drop 12 (blocks t)) refl refl t (changed t (changes.Remove (keys.Containment node))) t.containments (be32 node.0) node.0 refl refl
      (each_told _ _ t.containments (λ first f. ids32 kinds.CONTAINMENT first.node.0 node.0 f id) (ids.all containments_table))
  rows_put (changes.Remove (keys.Plan kind)) id fit = plan_removed kind fit
    where
      plan_removed : (kind : ℕ) → IsPlanKind kind → rows (changed t (changes.Remove (keys.Plan kind))) ≡ change_of (Remove kind []) (rows t)
      plan_removed kind (inl is) = subst (λ (k : ℕ). rows (changed t (changes.Remove (keys.Plan k))) ≡ change_of (Remove k []) (rows t)) (sym is)
          (remove_only kinds.AUDIT_PLAN records.AuditPlan (λ _. refl) (λ _. 0) (take 8 (blocks t)) (drop 9 (blocks t)) refl refl t (changed t (changes.Remove (keys.Plan kinds.AUDIT_PLAN))) (option_to_list t.audit) refl refl
          (each_plan kinds.AUDIT_PLAN (λ plan. row_of (records.AuditPlan plan)) (λ _. refl) t.audit))
      plan_removed kind (inr (inl is)) = subst (λ (k : ℕ). rows (changed t (changes.Remove (keys.Plan k))) ≡ change_of (Remove k []) (rows t)) (sym is)
          (remove_only kinds.RECHECK_PLAN records.RecheckPlan (λ _. refl) (λ _. 0) (take 9 (blocks t)) (drop 10 (blocks t)) refl refl t (changed t (changes.Remove (keys.Plan kinds.RECHECK_PLAN))) (option_to_list t.recheck) refl refl
          (each_plan kinds.RECHECK_PLAN (λ plan. row_of (records.RecheckPlan plan)) (λ _. refl) t.recheck))
      plan_removed kind (inr (inr (inl is))) = subst (λ (k : ℕ). rows (changed t (changes.Remove (keys.Plan k))) ≡ change_of (Remove k []) (rows t)) (sym is)
          (remove_only kinds.REPAIR_PLAN records.RepairPlan (λ _. refl) (λ _. 0) (take 10 (blocks t)) (drop 11 (blocks t)) refl refl t (changed t (changes.Remove (keys.Plan kinds.REPAIR_PLAN))) (option_to_list t.repair) refl refl
          (each_plan kinds.REPAIR_PLAN (λ plan. row_of (records.RepairPlan plan)) (λ _. refl) t.repair))
      plan_removed kind (inr (inr (inr is))) = subst (λ (k : ℕ). rows (changed t (changes.Remove (keys.Plan k))) ≡ change_of (Remove k []) (rows t)) (sym is)
          (remove_only kinds.EXIT_PLAN records.ExitPlan (λ _. refl) (λ _. 0) (take 13 (blocks t)) (drop 14 (blocks t)) refl refl t (changed t (changes.Remove (keys.Plan kinds.EXIT_PLAN))) (option_to_list t.exit) refl refl
          (each_plan kinds.EXIT_PLAN (λ plan. row_of (records.ExitPlan plan)) (λ _. refl) t.exit))

-- the rows after changes of records are the rows with their rows changed
pub rows_all : (t : Tables) (cs : List RecChange) → AreIds t → Each HasId cs → Each IsWritable cs → rows (all_changed t cs) ≡ rows_changed (map row_change cs) (rows t)
rows_all t [] ids each fit = refl
rows_all t (change ∷ cs) ids each fit =
    rows_all (changed t change) cs (ids_put t ids change each.0) each.1 fit.1
    ∙ ap (rows_changed (map row_change cs)) (rows_put t ids change each.0 fit.0)
