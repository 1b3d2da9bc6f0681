-- Records whose rows stand in the order of their keys, as what a machine is made of.
use Rattle.std.proofs.Common.{◌≡◌, ℕ, suc, ◌<◌, ◌≤◌, true, false, List, [], ◌∷◌, ◌++◌, length, take, drop, refl, sym, ap, subst, ◌∙◌, arith, lit≤}
use Rattle.std.specs.Prelude.{map, option_to_list, T, All}
use Rattle.std.proofs.lemmas.Bool.Decides.{nat_tests}
use Rattle.std.proofs.lemmas.List.Elements.{All-head, All-tail}
use Rattle.sat_base.specs.declared.limits.TheConstants as limits
use Rattle.sat_base.specs.declared.records.At.{At}
use Rattle.repair_core.specs.declared.plan.RepairPlan.{RepairPlan}
use Rattle.std.specs.FinMap as maps
use Rattle.std.specs.FinMap.Entries.{below_all}
use Rattle.std.specs.Cmp.{ranks, nat_cmp_is}
use Rattle.std.specs.Cmp.Lexicographic.{slice_cmp}
use Rattle.std.specs.declared.cmp.Ordering.{Ordering}
use Rattle.std.specs.declared.cmp.Ordering.TheVariants.{Less, Equal, Greater}
use Rattle.std.specs.Ordering.{nat_cmp, ordering_then, is_lt, MatchOrdering}
use Rattle.sat_base.specs.declared.kinds.TheConstants as kinds
use Rattle.sat_base.specs.declared.rows.Row.{Row}
use Rattle.sat_base.specs.declared.settings.Settings.{Settings}
use Rattle.sat_base.specs.declared.settings.Marks.{Marks}
use Rattle.sat_base.specs.Rows.{AreInOrder, entry, key_cmp, key_of, rows_of}
use Rattle.sat_base.proofs.KeyOrder.{keys_total, keys_exact}
use Rattle.sat_base.specs.Ranks.{containment_rank, customer_rank, kept_rank, tariff_rank}
use Rattle.sat_base.proofs.RowLists.{split}
use Rattle.node_registry.specs.Left.{left_rank}
use Rattle.segment_core.specs.Record.{segment_rank}
use Rattle.settlement.specs.Rows.{key}
use Rattle.tally_payout.specs.Ranks.{tally_rank, statement_rank}
use Rattle.rows.specs.Rows.{AllAbove, IsRising}
use Rattle.record_kinds.specs.declared.rec.Rec.{Rec}
use Rattle.record_kinds.specs.declared.rec.Rec.TheVariants as records
use Rattle.record_rows.specs.Fits.{Fits, PlacesFit, RepairPlanFits}
use Rattle.record_rows.specs.Ranks.{rank_of}
use Rattle.record_kinds.specs.Kinds.{kind_of}
use Rattle.record_rows.specs.Spelling.{id_of, row_of}
use Rattle.machine_calls.specs.declared.parts.Parts0.{Parts0}
use Rattle.machine_step.specs.Bounds.{Each, ArePlacesWithin, IsRepairWithin}
use Rattle.machine_step.specs.Rules.{are_below}
use Rattle.machine_step.specs.Health.{first_of}
use Rattle.machine_step.specs.Tables.{Tables}
use Rattle.machine_store.specs.Opening.{AreParts, AreTablesOf, AreTablesWith, tables_made}
use Rattle.sat_book.specs.Ids.{AreIds, HasIds, Table}
use Rattle.sat_book.specs.Ids.Table.{nodes_table, customers_table, segments_table, settled_table, tallies_table, statements_table, containments_table, kept_table, left_table, tariffs_table}
use Rattle.sat_book.specs.ByKind.{AreRecordsOf, listed, rec_lists}
use Rattle.sat_book.specs.TableRows.{joined, row_list, rows, rows_in}
use Rattle.sat_book.proofs.FineParts.{AreFine, fine_among, map_behind}

-- ---- the records of one kind

-- ids stand as the ranks do
abbrev pub StandAsRanks : Type 0
StandAsRanks = (x y : Rec) → Fits x → Fits y → kind_of x ≡ kind_of y → slice_cmp nat_cmp (id_of x) (id_of y) ≡ nat_cmp (rank_of x) (rank_of y)

ordered : (m n : ℕ) → T (is_lt (nat_cmp m n)) → m < n
ordered m n h = go (nat_cmp m n) refl h
  where
    go : (o : Ordering) → nat_cmp m n ≡ o → T (is_lt o) → m < n
    go Less is h = subst (λ (o : Ordering). MatchOrdering o (m < n) (m ≡ n) (n < m)) is (ranks m n)
    go Equal is h = absurd h
    go Greater is h = absurd h

same_kind : (a b : ℕ) → a ≡ b → nat_cmp a b ≡ Equal
same_kind a b is = sym (nat_cmp_is a b Equal is)

mapped : {R : Type 0} (record_of : R → Rec) (P : R → Type 0) → ((one : R) → Fits (record_of one) → P one) → (all : List R) → Each Fits (map record_of all) → Each P all
mapped record_of P each [] fit = tt
mapped record_of P each (one ∷ rest) fit = (each one fit.0, mapped record_of P each rest fit.1)

-- the places of a plan that fit are within their bounds
all_below : (n : ℕ) (places : List At) → All (λ at. at.index < n) places → are_below n places ≡ true
all_below n [] low = refl
all_below n (at ∷ places) low =
    let here : at.index < n = All-head (λ (x : At). x.index < n) at places low in
    let rest = all_below n places (All-tail (λ (x : At). x.index < n) at places low) in
    grind (arith, nat_tests, here, rest)

places_within : (places : List At) → PlacesFit places → ArePlacesWithin places
places_within places fit = record { by_index = fit.by_index; few = fit.few; below = all_below limits.PLACES places fit.low }

repair_within : (plan : RepairPlan) → RepairPlanFits plan → IsRepairWithin plan
repair_within plan fits = record { sources = places_within plan.sources fits.sources; targets = places_within plan.targets fits.targets }

module _ (law : StandAsRanks) {R : Type 0} (record_of : R → Rec) (rank : R → ℕ) (kind : ℕ)
    (its_kind : (one : R) → kind_of (record_of one) ≡ kind) (its_rank : (one : R) → rank_of (record_of one) ≡ rank one) where
  above : (one : R) (rest : List R) → Fits (record_of one) → Each Fits (map record_of rest)
      → T (below_all key_cmp (key_of (row_of (record_of one))) (map entry (map row_of (map record_of rest)))) → AllAbove rank (rank one) rest
  above one [] fits fit low = tt
  above one (next ∷ rest) fits fit low =
      let parts = split _ _ low in
      let kinds_same : kind_of (record_of one) ≡ kind_of (record_of next) = its_kind one ∙ sym (its_kind next) in
      let cmp : key_cmp (key_of (row_of (record_of one))) (key_of (row_of (record_of next))) ≡ nat_cmp (rank one) (rank next) =
      ap (λ (o : Ordering). ordering_then o (slice_cmp nat_cmp (id_of (record_of one)) (id_of (record_of next)))) (same_kind _ _ kinds_same)
      ∙ law (record_of one) (record_of next) fits fit.0 kinds_same ∙ ap (λ (n : ℕ). nat_cmp n (rank_of (record_of next))) (its_rank one) ∙ ap (nat_cmp (rank one)) (its_rank next) in
      (ordered (rank one) (rank next) (subst (λ (o : Ordering). T (is_lt o)) cmp parts.0), above one rest fits fit.1 parts.1)

  rising : (all : List R) → AreFine (map record_of all) → IsRising rank all
  rising [] fine = tt
  rising (one ∷ rest) fine =
      let parts = split _ _ fine.order in
      (above one rest fine.fit.0 fine.fit.1 parts.0, rising rest (record { fit = fine.fit.1; order = parts.1 }))

-- of which there is one at most
one_at_most : {R : Type 0} (all : List R) → IsRising (λ (_ : R). 0) all → length all ≤ 1
one_at_most [] rises = lit≤ tt
one_at_most (one ∷ []) rises = lit≤ tt
one_at_most (one ∷ next ∷ rest) rises = absurd (omega (arith, rises.0.0))

back_to_list : {R : Type 0} (all : List R) → length all ≤ 1 → option_to_list (first_of all) ≡ all
back_to_list [] few = refl
back_to_list (one ∷ []) few = refl
back_to_list (one ∷ next ∷ rest) few = absurd (omega (arith, few))

in_two : {R : Type 0} (record_of : R → Rec) (all : List R) → rows_in record_of all ≡ map row_of (map record_of all)
in_two record_of [] = refl
in_two record_of (one ∷ rest) = ap (λ (l : List Row). row_of (record_of one) ∷ l) (in_two record_of rest)

joined_rows : (lists : List (List Rec)) → map row_of (joined lists) ≡ joined (map (map row_of) lists)
joined_rows [] = refl
joined_rows (first ∷ rest) = map_behind row_of first (joined rest) ∙ ap (λ (l : List Row). map row_of first ++ l) (joined_rows rest)

both : {A : Type 0} {x y : A} {xs ys : List A} → x ≡ y → xs ≡ ys → x ∷ xs ≡ y ∷ ys
both {x = x} {ys = ys} is are = ap (λ (l : List _). x ∷ l) are ∙ ap (λ (z : _). z ∷ ys) is

-- ---- all kinds

module _ (law : StandAsRanks) (all : List Row) (parts : Parts0) (are : AreRecordsOf all parts) (order : AreInOrder all) where
  whole : AreFine (listed parts)
  whole = record { fit = are.fit; order = subst AreInOrder (sym are.rows_are) order }

  abbrev fine_settings : AreFine (map records.Settings parts.settings.items)
  fine_settings = fine_among (take 0 (rec_lists parts)) (map records.Settings parts.settings.items) (drop 1 (rec_lists parts)) whole

  abbrev fine_marks : AreFine (map records.Marks parts.marks.items)
  fine_marks = fine_among (take 1 (rec_lists parts)) (map records.Marks parts.marks.items) (drop 2 (rec_lists parts)) whole

  abbrev fine_nodes : AreFine (map records.Node parts.nodes.items)
  fine_nodes = fine_among (take 2 (rec_lists parts)) (map records.Node parts.nodes.items) (drop 3 (rec_lists parts)) whole

  abbrev fine_customers : AreFine (map records.Customer parts.customers.items)
  fine_customers = fine_among (take 3 (rec_lists parts)) (map records.Customer parts.customers.items) (drop 4 (rec_lists parts)) whole

  abbrev fine_segments : AreFine (map records.Segment parts.segments.items)
  fine_segments = fine_among (take 4 (rec_lists parts)) (map records.Segment parts.segments.items) (drop 5 (rec_lists parts)) whole

  abbrev fine_settled : AreFine (map records.SettledRow parts.settled.items)
  fine_settled = fine_among (take 5 (rec_lists parts)) (map records.SettledRow parts.settled.items) (drop 6 (rec_lists parts)) whole

  abbrev fine_tallies : AreFine (map records.Tally parts.tallies.items)
  fine_tallies = fine_among (take 6 (rec_lists parts)) (map records.Tally parts.tallies.items) (drop 7 (rec_lists parts)) whole

  abbrev fine_statements : AreFine (map records.Statement parts.statements.items)
  fine_statements = fine_among (take 7 (rec_lists parts)) (map records.Statement parts.statements.items) (drop 8 (rec_lists parts)) whole

  abbrev fine_audit_plans : AreFine (map records.AuditPlan parts.audit_plans.items)
  fine_audit_plans = fine_among (take 8 (rec_lists parts)) (map records.AuditPlan parts.audit_plans.items) (drop 9 (rec_lists parts)) whole

  abbrev fine_recheck_plans : AreFine (map records.RecheckPlan parts.recheck_plans.items)
  fine_recheck_plans = fine_among (take 9 (rec_lists parts)) (map records.RecheckPlan parts.recheck_plans.items) (drop 10 (rec_lists parts)) whole

  abbrev fine_repair_plans : AreFine (map records.RepairPlan parts.repair_plans.items)
  fine_repair_plans = fine_among (take 10 (rec_lists parts)) (map records.RepairPlan parts.repair_plans.items) (drop 11 (rec_lists parts)) whole

  abbrev fine_containments : AreFine (map records.Containment parts.containments.items)
  fine_containments = fine_among (take 11 (rec_lists parts)) (map records.Containment parts.containments.items) (drop 12 (rec_lists parts)) whole

  abbrev fine_kept : AreFine (map records.Kept parts.kept.items)
  fine_kept = fine_among (take 12 (rec_lists parts)) (map records.Kept parts.kept.items) (drop 13 (rec_lists parts)) whole

  abbrev fine_exit_plans : AreFine (map records.ExitPlan parts.exit_plans.items)
  fine_exit_plans = fine_among (take 13 (rec_lists parts)) (map records.ExitPlan parts.exit_plans.items) (drop 14 (rec_lists parts)) whole

  abbrev fine_left : AreFine (map records.Left parts.left.items)
  fine_left = fine_among (take 14 (rec_lists parts)) (map records.Left parts.left.items) (drop 15 (rec_lists parts)) whole

  abbrev fine_tariffs : AreFine (map records.Tariff parts.tariffs.items)
  fine_tariffs = fine_among (take 15 (rec_lists parts)) (map records.Tariff parts.tariffs.items) (drop 16 (rec_lists parts)) whole

  pub parts_fine : AreParts parts
  parts_fine = record {
    one_setup = one_at_most parts.settings.items (rising law records.Settings (λ _. 0) kinds.SETTINGS (λ _. refl) (λ _. refl) parts.settings.items fine_settings);
    one_marks = one_at_most parts.marks.items (rising law records.Marks (λ _. 0) kinds.MARKS (λ _. refl) (λ _. refl) parts.marks.items fine_marks);
    customers = rising law records.Customer customer_rank kinds.CUSTOMER (λ _. refl) (λ _. refl) parts.customers.items fine_customers;
    segments = rising law records.Segment segment_rank kinds.SEGMENT (λ _. refl) (λ _. refl) parts.segments.items fine_segments;
    settled = rising law records.SettledRow key kinds.SETTLED_ROW (λ _. refl) (λ _. refl) parts.settled.items fine_settled;
    tallies = rising law records.Tally tally_rank kinds.TALLY (λ _. refl) (λ _. refl) parts.tallies.items fine_tallies;
    statements = rising law records.Statement statement_rank kinds.STATEMENT (λ _. refl) (λ _. refl) parts.statements.items fine_statements;
    one_audit = one_at_most parts.audit_plans.items (rising law records.AuditPlan (λ _. 0) kinds.AUDIT_PLAN (λ _. refl) (λ _. refl) parts.audit_plans.items fine_audit_plans);
    one_recheck = one_at_most parts.recheck_plans.items (rising law records.RecheckPlan (λ _. 0) kinds.RECHECK_PLAN (λ _. refl) (λ _. refl) parts.recheck_plans.items fine_recheck_plans);
    one_repair = one_at_most parts.repair_plans.items (rising law records.RepairPlan (λ _. 0) kinds.REPAIR_PLAN (λ _. refl) (λ _. refl) parts.repair_plans.items fine_repair_plans);
    containments = rising law records.Containment containment_rank kinds.CONTAINMENT (λ _. refl) (λ _. refl) parts.containments.items fine_containments;
    kept = rising law records.Kept kept_rank kinds.KEPT (λ _. refl) (λ _. refl) parts.kept.items fine_kept;
    one_exit = one_at_most parts.exit_plans.items (rising law records.ExitPlan (λ _. 0) kinds.EXIT_PLAN (λ _. refl) (λ _. refl) parts.exit_plans.items fine_exit_plans);
    left = rising law records.Left left_rank kinds.LEFT (λ _. refl) (λ _. refl) parts.left.items fine_left;
    tariffs = rising law records.Tariff tariff_rank kinds.TARIFF (λ _. refl) (λ _. refl) parts.tariffs.items fine_tariffs;
    setup_within = mapped records.Settings _ (λ one fits. record {
      scheme = record {
        rebuilds = one.scheme.rebuilds;
        repairs_in_time = one.scheme.repairs_in_time;
        wants_more = one.scheme.wants_more;
        tries_enough = one.scheme.tries_enough;
        few_pieces = one.scheme.few_pieces;
        some_bytes = one.scheme.some_bytes;
        few_bytes = one.scheme.few_bytes;
      };
      vet = (fits.vetting.some, fits.vetting.few);
      fresh = fits.vetting.fresh;
      caps = fits.caps;
      first_month = fits.first_month;
    }) parts.settings.items fine_settings.fit;
    marks_within = mapped records.Marks _ (λ one fits. fits.within) parts.marks.items fine_marks.fit;
    segments_within = mapped records.Segment _ (λ one fits. record { by_index = fits.pieces.by_index; few = fits.pieces.few }) parts.segments.items fine_segments.fit;
    audit_within = mapped records.AuditPlan _ (λ one fits. places_within one.asked fits.asked) parts.audit_plans.items fine_audit_plans.fit;
    repair_within = mapped records.RepairPlan _ (λ one fits. repair_within one fits) parts.repair_plans.items fine_repair_plans.fit;
    kept_within = mapped records.Kept _ (λ one fits. fits.within) parts.kept.items fine_kept.fit;
    exit_within = mapped records.ExitPlan _ (λ one fits. repair_within one.plan fits.repair) parts.exit_plans.items fine_exit_plans.fit;
    tariffs_within = mapped records.Tariff _ (λ one fits. fits) parts.tariffs.items fine_tariffs.fit;
  }

  ids_made : (settings : Settings) (marks : Marks) (x : Table) → HasIds (tables_made settings marks parts) x
  ids_made settings marks nodes_table = mapped records.Node _ (λ one fits. fits.id) parts.nodes.items fine_nodes.fit
  ids_made settings marks customers_table = mapped records.Customer _ (λ one fits. fits.id) parts.customers.items fine_customers.fit
  ids_made settings marks segments_table = mapped records.Segment _ (λ one fits. fits.id) parts.segments.items fine_segments.fit
  ids_made settings marks settled_table = mapped records.SettledRow _ (λ one fits. (fits.serial, fits.node)) parts.settled.items fine_settled.fit
  ids_made settings marks tallies_table = mapped records.Tally _ (λ one fits. (omega (arith, fits.hour), fits.node)) parts.tallies.items fine_tallies.fit
  ids_made settings marks statements_table = mapped records.Statement _ (λ one fits. (omega (arith, fits.month.1), fits.node)) parts.statements.items fine_statements.fit
  ids_made settings marks containments_table = mapped records.Containment _ (λ one fits. fits.node) parts.containments.items fine_containments.fit
  ids_made settings marks kept_table = mapped records.Kept _ (λ one fits. fits.caller) parts.kept.items fine_kept.fit
  ids_made settings marks left_table = mapped records.Left _ (λ one fits. fits.node) parts.left.items fine_left.fit
  ids_made settings marks tariffs_table = mapped records.Tariff _ (λ one fits. omega (arith, fits.from.1)) parts.tariffs.items fine_tariffs.fit

  -- the rows of the tables are those of the records
  list_made : (settings : Settings) (marks : Marks) → parts.settings.items ≡ settings ∷ [] → parts.marks.items ≡ marks ∷ [] → row_list (tables_made settings marks parts) ≡ map row_of (listed parts)
  list_made settings marks is_settings is_marks =
      ap joined (
      both (ap (λ (l : List Settings). map row_of (map records.Settings l)) (sym is_settings)) (
      both (ap (λ (l : List Marks). map row_of (map records.Marks l)) (sym is_marks)) (
      both (in_two records.Node parts.nodes.items) (
      both (in_two records.Customer parts.customers.items) (
      both (in_two records.Segment parts.segments.items) (
      both (in_two records.SettledRow parts.settled.items) (
      both (in_two records.Tally parts.tallies.items) (
      both (in_two records.Statement parts.statements.items) (
      both (ap (rows_in records.AuditPlan) (back_to_list parts.audit_plans.items parts_fine.one_audit) ∙ in_two records.AuditPlan parts.audit_plans.items) (
      both (ap (rows_in records.RecheckPlan) (back_to_list parts.recheck_plans.items parts_fine.one_recheck) ∙ in_two records.RecheckPlan parts.recheck_plans.items) (
      both (ap (rows_in records.RepairPlan) (back_to_list parts.repair_plans.items parts_fine.one_repair) ∙ in_two records.RepairPlan parts.repair_plans.items) (
      both (in_two records.Containment parts.containments.items) (
      both (in_two records.Kept parts.kept.items) (
      both (ap (rows_in records.ExitPlan) (back_to_list parts.exit_plans.items parts_fine.one_exit) ∙ in_two records.ExitPlan parts.exit_plans.items) (
      both (in_two records.Left parts.left.items) (
      both (in_two records.Tariff parts.tariffs.items) (
      (refl {a = []}))))))))))))))))))
      ∙ sym (joined_rows (rec_lists parts))

-- rows in order as a map, one by one
sorted_map : (all : List Row) → AreInOrder all → rows_of all ≡ maps.from_entries (map entry all)
sorted_map all order = maps.same_map keys_total keys_exact _ _ (λ q. maps.get-from_sorted key_cmp (map entry all) q order ∙ sym (maps.get-from_entries keys_total (map entry all) q))

-- the tables that a machine has of these records
pub record IsMadeOf (all : List Row) (t : Tables) : Type 0 where
  pub same : rows_of all ≡ rows t
  pub running : t.stopped ≡ false
  pub ids : AreIds t

pub made_of : (law : StandAsRanks) (all : List Row) (parts : Parts0) → AreRecordsOf all parts → AreInOrder all → (t : Tables) → AreTablesOf parts t → IsMadeOf all t
made_of law all parts are order t made = go parts.settings.items refl parts.marks.items refl made
  where
    go : (settings : List Settings) → settings ≡ parts.settings.items → (marks : List Marks) → marks ≡ parts.marks.items → AreTablesWith settings marks parts t → IsMadeOf all t
    go [] is_settings marks is_marks made = absurd made
    go (settings ∷ more) is_settings [] is_marks made = absurd made
    go (settings ∷ more) is_settings (marks ∷ others) is_marks made =
        let fine = parts_fine law all parts are order in
        let first : more ≡ [] = none more (subst (λ (l : List Settings). length l ≤ 1) (sym is_settings) fine.one_setup) in
        let second : others ≡ [] = none others (subst (λ (l : List Marks). length l ≤ 1) (sym is_marks) fine.one_marks) in
        let list : row_list (tables_made settings marks parts) ≡ all =
        list_made law all parts are order settings marks (sym is_settings ∙ ap (λ (l : List Settings). settings ∷ l) first) (sym is_marks ∙ ap (λ (l : List Marks). marks ∷ l) second) ∙ are.rows_are in
        record {
          same = sorted_map all order ∙ ap (λ (l : List Row). maps.from_entries (map entry l)) (sym list) ∙ ap rows (sym made);
          running = ap (λ (x : Tables). x.stopped) made;
          ids = subst AreIds (sym made) (record { all = ids_made law all parts are order settings marks });
        }
      where
        none : {A : Type 0} (l : List A) → suc (length l) ≤ 1 → l ≡ []
        none [] few = refl
        none (x ∷ l) few = absurd (omega (arith, few))
