-- The rules where none is broken, and rows that are taken one after another.
use Rattle.std.proofs.Common.{◌≡◌, ℕ, suc, ◌+◌, ◌<◌, ◌≤◌, Bool, true, false, List, [], ◌∷◌, ◌++◌, length, Option, Some, None, IfSome, if◌then◌else◌, length-append, refl, sym, ap, subst, ◌∙◌, arith}
use Rattle.std.specs.Prelude.{min}
use Rattle.std.specs.Option.{option_map}
use Rattle.std.proofs.lemmas.Bool.Decides.{nat_tests}
use Rattle.node_registry.specs.declared.node.Node.{Node}
use Rattle.node_registry.specs.Registry.{CountsFrom}
use Rattle.sat_base.specs.declared.settings.Settings.{Settings}
use Rattle.machine_calls.specs.declared.parts.Parts0.{Parts0}
use Rattle.sat_base.specs.Limits.{AreMarksWithin}
use Rattle.machine_step.specs.Bounds.{Each, IsSetupWithin, IsSettledWithin, IsAuditWithin, IsRepairWithin, IsExitWithin, IsValid}
use Rattle.machine_step.specs.Tables.{Setup, Tables, setup_of}
use Rattle.sat_base.specs.declared.settings.Marks.{Marks}
use Rattle.rows.specs.Rows.{row_at, added, AllAbove, IsRising}
use Rattle.machine_step.specs.Rules.{are_sound_marks, first_bad, breaks_node, least, least_with}
use Rattle.machine_step.specs.Health.{first_of}
use Rattle.machine_step.specs.Broken.{Broken, or_else, broken, broken_marks, broken_plan, first_broken}
use Rattle.machine_step.specs.PlanRules.{is_none_or, is_sound_audit, is_sound_recheck, is_sound_repair, is_sound_exit}
use Rattle.machine_step.specs.Sound.{IsSound}
use Rattle.machine_store.specs.declared.store.Store.{Store}
use Rattle.machine_store.specs.Store.{tables_of, GoesByTables, KeepsRules}
use Rattle.machine_store.specs.Opening.{AreParts, least_of, tables_made}

pub none_first : (first rest : Option Broken) → or_else first rest ≡ None → first ≡ None
none_first None rest is = refl
none_first (Some b) rest is = cc

pub none_later : (first rest : Option Broken) → or_else first rest ≡ None → rest ≡ None
none_later None rest is = is
none_later (Some b) rest is = cc

pub none_mapped : {R : Type 0} (f : R → Broken) (o : Option R) → option_map f o ≡ None → o ≡ None
none_mapped f None is = refl
none_mapped f (Some row) is = cc

pub marks_kept : (setup : Setup) (marks : Marks) → broken_marks setup marks ≡ None → are_sound_marks setup marks ≡ true
marks_kept setup marks is = grind (arith, nat_tests, is)

plan_kept : {P : Type 0} (rule kind : ℕ) (sound : P → Bool) (plan : Option P) → broken_plan rule kind sound plan ≡ None → is_none_or sound plan ≡ true
plan_kept rule kind sound plan is = go (is_none_or sound plan) is
  where
    go : (b : Bool) → (if b then None else Some (broken rule kind [])) ≡ None → b ≡ true
    go true is = refl
    go false is = cc

-- no broken rule, and every rule is kept
pub sound_unbroken : (t : Tables) → first_broken t ≡ None → IsSound t
sound_unbroken t is =
    let r2 = none_later _ _ is in
    let r3 = none_later _ _ r2 in
    let r4 = none_later _ _ r3 in
    let r5 = none_later _ _ r4 in
    let r6 = none_later _ _ r5 in
    let r7 = none_later _ _ r6 in
    let r8 = none_later _ _ r7 in
    let r8_recheck = none_later _ _ r8 in
    let r8_repair = none_later _ _ r8_recheck in
    let r9 = none_later _ _ r8_repair in
    let r10 = none_later _ _ r9 in
    let r11 = none_later _ _ r10 in
    let r12 = none_later _ _ r11 in
    let r13 = none_later _ _ r12 in
    record {
      marks = marks_kept t.setup t.marks (none_first _ _ is);
      nodes = none_mapped _ _ (none_first _ _ r2);
      customers = none_mapped _ _ (none_first _ _ r3);
      segments = none_mapped _ _ (none_first _ _ r4);
      settled = none_mapped _ _ (none_first _ _ r5);
      tallies = none_mapped _ _ (none_first _ _ r6);
      statements = none_mapped _ _ (none_first _ _ r7);
      audit = plan_kept _ _ (is_sound_audit t.setup t.marks t.segments) t.audit (none_first _ _ r8);
      recheck = plan_kept _ _ (is_sound_recheck t.marks t.nodes) t.recheck (none_first _ _ r8_recheck);
      repair = plan_kept _ _ (is_sound_repair t.setup t.marks t.nodes t.segments) t.repair (none_first _ _ r8_repair);
      containments = none_mapped _ _ (none_first _ _ r9);
      kept = none_mapped _ _ (none_first _ _ r10);
      exit = plan_kept _ _ (is_sound_exit t.setup t.marks t.nodes t.segments) t.exit (none_first _ _ r11);
      left = none_mapped _ _ (none_first _ _ r12);
      tariffs = none_mapped _ _ (none_first _ _ r13);
    }

-- the least of two lists is that of both together
least-step : (x : ℕ) (a b : Option ℕ) → least_of (Some (least_with x a)) b ≡ Some (least_with x (least_of a b))
least-step x None None = refl
least-step x None (Some y) = refl
least-step x (Some z) None = refl
least-step x (Some z) (Some y) = let same : min (min x z) y ≡ min x (min z y) = grind (arith, nat_tests) in ap (λ (n : ℕ). Some n) same

pub least-append : (xs ys : List ℕ) → least_of (least xs) (least ys) ≡ least (xs ++ ys)
least-append [] ys = refl
least-append (x ∷ xs) ys = least-step x (least xs) (least ys) ∙ ap (λ (o : Option ℕ). Some (least_with x o)) (least-append xs ys)

-- ---- rows that are taken one after another

module _ {R : Type 0} (rank : R → ℕ) where
  above_last : (rows : List R) (row : R) (rest : List R) (k : ℕ) → AllAbove rank k (rows ++ row ∷ rest) → k < rank row
  above_last [] row rest k above = above.0
  above_last (first ∷ rows) row rest k above = above_last rows row rest k above.1

  -- the next row comes behind those before
  pub added_last : (rows : List R) (row : R) (rest : List R) → IsRising rank (rows ++ row ∷ rest) → added rank row rows ≡ rows ++ row ∷ []
  added_last [] row rest rising = refl
  added_last (first ∷ rows) row rest rising =
      let later : rank first < rank row = above_last rows row rest (rank first) rising.0 in
      grind (arith, nat_tests, later, added_last rows row rest rising.1)

  -- and is none of them
  pub absent_last : (rows : List R) (row : R) (rest : List R) → IsRising rank (rows ++ row ∷ rest) → row_at rank rows (rank row) ≡ None
  absent_last [] row rest rising = refl
  absent_last (first ∷ rows) row rest rising =
      let later : rank first < rank row = above_last rows row rest (rank first) rising.0 in
      grind (arith, nat_tests, later, absent_last rows row rest rising.1)

-- the next node has the next id
pub counts_last : (nodes : List Node) (node : Node) (rest : List Node) (k : ℕ) → CountsFrom k (nodes ++ node ∷ rest) → node.id.0 ≡ k + length nodes
counts_last [] node rest k counts = let same = counts.0 in omega (arith, same)
counts_last (first ∷ nodes) node rest k counts = omega (arith, counts_last nodes node rest (suc k) counts.1)

-- nodes that keep their rule are numbered, and at most the cap
pub numbered_unbroken : (setup : Setup) (marks : Marks) (i : ℕ) (nodes : List Node) → first_bad (breaks_node setup marks) i nodes ≡ None → CountsFrom (suc i) nodes
numbered_unbroken setup marks i [] none = tt
numbered_unbroken setup marks i (node ∷ rest) none = (grind (arith, nat_tests, none), numbered_unbroken setup marks (suc i) rest (grind (arith, nat_tests, none)))

pub few_unbroken : (setup : Setup) (marks : Marks) (i : ℕ) (nodes : List Node) → first_bad (breaks_node setup marks) i nodes ≡ None → i ≤ setup.caps.nodes → i + length nodes ≤ setup.caps.nodes
few_unbroken setup marks i [] none le = omega arith
few_unbroken setup marks i (node ∷ rest) none le =
    let below : i < setup.caps.nodes = grind (arith, nat_tests, none) in
    omega (arith, few_unbroken setup marks (suc i) rest (grind (arith, nat_tests, none)) (omega (arith, below)))

-- ---- the machine that is made

each_last : {R : Type 0} (P : R → Type 0) (init : List R) (row : R) → Each P (init ++ row ∷ []) → P row
each_last P [] row each = each.0
each_last P (first ∷ init) row each = each_last P init row each.1

-- the records that are taken from the ends are within their bounds
pub within_last : {R : Type 0} (P : R → Type 0) (rows init : List R) (row : R) → rows ≡ init ++ row ∷ [] → Each P rows → P row
within_last P rows init row is each = each_last P init row (subst (Each P) is each)

first_within : {R : Type 0} (P : R → Type 0) (rows : List R) → Each P rows → IfSome (first_of rows) P
first_within P [] each = tt
first_within P (row ∷ rest) each = each.0

-- the only item of a list, taken from its end
pub sole_first : {R : Type 0} (rows init : List R) (row : R) → rows ≡ init ++ row ∷ [] → length rows ≤ 1 → first_of rows ≡ Some row
sole_first rows [] row is one = ap first_of is
sole_first rows (x ∷ init) row is one = absurd (omega (arith, one, ap length is, length-append init (row ∷ [])))

pub rules_kept : (parts : Parts0) (settings : Settings) (marks : Marks) (s : Store) → AreParts parts → IsSetupWithin (setup_of settings) → AreMarksWithin marks
    → first_broken (tables_made settings marks parts) ≡ None → tables_of s ≡ tables_made settings marks parts → GoesByTables s → KeepsRules s
rules_kept parts settings marks s are setup_within marks_within unbroken tables own =
    let valid : IsValid (tables_made settings marks parts) = record {
      rules = sound_unbroken (tables_made settings marks parts) unbroken;
      order = record { segments = are.segments; settled = are.settled; tallies = are.tallies; statements = are.statements; containments = are.containments; kept = are.kept; left = are.left; tariffs = are.tariffs };
      bounds = record {
        setup = setup_within;
        marks = marks_within;
        segments = are.segments_within;
        settled = subst (Each IsSettledWithin) (ap (λ (t : Tables). t.settled) tables) own.pay.small;
        audit = first_within IsAuditWithin parts.audit_plans.items are.audit_within;
        repair = first_within IsRepairWithin parts.repair_plans.items are.repair_within;
        kept = are.kept_within;
        exit = first_within IsExitWithin parts.exit_plans.items are.exit_within;
        tariffs = are.tariffs_within;
      };
    } in
    record { valid = subst IsValid (sym tables) valid; own = own }
