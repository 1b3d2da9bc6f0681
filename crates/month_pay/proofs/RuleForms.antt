-- The rule as its broken places, and as what holds of the statements.
use Rattle.std.proofs.Common.{◌≡◌, ℕ, zero, suc, ◌+◌, ◌-◌, ◌<◌, ◌≤◌, Bool, true, false, not, List, [], ◌∷◌, length, Option, Some, None, is_some, refl, subst, arith}
use Rattle.std.specs.Prelude.{if◌then◌else◌, ◌==◌, ◌||◌, ◌&&◌, nat_le, is_none}
use Rattle.std.specs.List.{list_all}
use Rattle.std.proofs.lemmas.Bool.Decides.{nat_tests}
use Rattle.rows.specs.Rows.{row_at}
use Rattle.node_registry.specs.declared.node.Node.{Node}
use Rattle.tally_payout.specs.declared.amounts.Statement.{Statement}
use Rattle.tally_payout.specs.Ranks.{month_place, statement_rank}
use Rattle.month_pay.specs.Ledger.{Ledger, has_joined}
use Rattle.month_pay.specs.Rule.{is_sound_statement, bad_statements, missing_in, missing_from, broken_places}
use Rattle.month_pay.specs.Keeping.{Covers, RuleHolds}
use Rattle.month_pay.proofs.ListFacts.{none_joined}

module _ (cap : ℕ) (l : Ledger) where
  bad-all : (rows : List Statement) (i : ℕ) → bad_statements cap l i rows ≡ [] → list_all (is_sound_statement l) rows ≡ true
  bad-all [] i none = refl
  bad-all (s ∷ rest) i none = go (nat_le cap i) (is_sound_statement l s) none (bad-all rest (suc i))
    where
      go : (full good : Bool) → (if full || not good then statement_rank s ∷ bad_statements cap l (suc i) rest else bad_statements cap l (suc i) rest) ≡ [] → (bad_statements cap l (suc i) rest ≡ [] → list_all (is_sound_statement l) rest ≡ true) → (good && list_all (is_sound_statement l) rest) ≡ true
      go true good h later = absurd cc
      go false true h later = later h
      go false false h later = absurd cc

  bad-length : (rows : List Statement) (i : ℕ) → bad_statements cap l i rows ≡ [] → i ≤ cap → i + length rows ≤ cap
  bad-length [] i none le = omega arith
  bad-length (s ∷ rest) i none le = go (nat_le cap i) (is_sound_statement l s) refl none (bad-length rest (suc i))
    where
      go : (full good : Bool) → nat_le cap i ≡ full → (if full || not good then statement_rank s ∷ bad_statements cap l (suc i) rest else bad_statements cap l (suc i) rest) ≡ [] → (bad_statements cap l (suc i) rest ≡ [] → suc i ≤ cap → suc i + length rest ≤ cap) → i + suc (length rest) ≤ cap
      go true good e h later = absurd cc
      go false true e h later = let lt : i < cap = grind (arith, nat_tests, e) in omega (arith, later h (omega arith))
      go false false e h later = absurd cc

  bad-back : (rows : List Statement) (i : ℕ) → list_all (is_sound_statement l) rows ≡ true → i + length rows ≤ cap → bad_statements cap l i rows ≡ []
  bad-back [] i all le = refl
  bad-back (s ∷ rest) i all le = go (is_sound_statement l s) (nat_le cap i) (grind (arith, nat_tests)) all (λ h. bad-back rest (suc i) h (omega arith))
    where
      go : (good full : Bool) → full ≡ false → (good && list_all (is_sound_statement l) rest) ≡ true → (list_all (is_sound_statement l) rest ≡ true → bad_statements cap l (suc i) rest ≡ []) → (if full || not good then statement_rank s ∷ bad_statements cap l (suc i) rest else bad_statements cap l (suc i) rest) ≡ []
      go true true e h later = absurd cc
      go true false e h later = later h
      go false full e h later = absurd cc

module _ (rows : List Statement) where
  covers : (month : ℕ) (nodes : List Node) → missing_in rows month nodes ≡ [] → Covers rows month nodes
  covers month [] none = tt
  covers month (node ∷ rest) none = go (has_joined month node) (row_at statement_rank rows (month_place month node.id.0)) none (covers month rest)
    where
      go : (joined : Bool) (found : Option Statement) → (if joined && is_none found then month_place month node.id.0 ∷ missing_in rows month rest else missing_in rows month rest) ≡ [] → (missing_in rows month rest ≡ [] → Covers rows month rest)
          → (joined ≡ true → is_some found ≡ true) × Covers rows month rest
      go true (Some s) h later = (λ _. refl, later h)
      go true None h later = absurd cc
      go false found h later = (λ no. cc, later h)

  covers-back : (month : ℕ) (nodes : List Node) → Covers rows month nodes → missing_in rows month nodes ≡ []
  covers-back month [] each = refl
  covers-back month (node ∷ rest) each = go (has_joined month node) (row_at statement_rank rows (month_place month node.id.0)) each.0 (covers-back month rest each.1)
    where
      go : (joined : Bool) (found : Option Statement) → (joined ≡ true → is_some found ≡ true) → missing_in rows month rest ≡ [] → (if joined && is_none found then month_place month node.id.0 ∷ missing_in rows month rest else missing_in rows month rest) ≡ []
      go true (Some s) h later = later
      go true None h later = let no : false ≡ true = h refl in absurd cc
      go false found h later = later

  due : (nodes : List Node) (n first month : ℕ) → missing_from rows nodes n first ≡ [] → first ≤ month → month < first + n → Covers rows month nodes
  due nodes zero first month none le lt = absurd (omega arith)
  due nodes (suc n) first month none le lt = go (first == month) refl (none_joined (missing_in rows first nodes) (missing_from rows nodes n (suc first)) none) (λ h ge. due nodes n (suc first) month h ge (omega arith))
    where
      go : (here : Bool) → (first == month) ≡ here → (missing_in rows first nodes ≡ []) × (missing_from rows nodes n (suc first) ≡ []) → (missing_from rows nodes n (suc first) ≡ [] → suc first ≤ month → Covers rows month nodes) → Covers rows month nodes
      go true e none later = let same : first ≡ month = grind (arith, nat_tests, e) in subst (λ m. Covers rows m nodes) same (covers first nodes none.0)
      go false e none later = let other : suc first ≤ month = grind (arith, nat_tests, e) in later none.1 other

  due-back : (nodes : List Node) (n first : ℕ) → ((month : ℕ) → first ≤ month → month < first + n → Covers rows month nodes) → missing_from rows nodes n first ≡ []
  due-back nodes zero first each = refl
  due-back nodes (suc n) first each =
      let here = covers-back first nodes (each first (omega arith) (omega arith)) in
      let later = due-back nodes n (suc first) (λ month le lt. each month (omega arith) (omega arith)) in
      rw (here, later) refl

pub rule_holds : (cap : ℕ) (l : Ledger) → broken_places cap l ≡ [] → RuleHolds cap l
unfolding broken_places
rule_holds cap l none =
    let parts = none_joined (bad_statements cap l 0 l.statements) (missing_from l.statements l.nodes (l.next - l.first) l.first) none in
    record {
      few = omega (arith, bad-length cap l l.statements 0 parts.0 (omega arith));
      all = bad-all cap l l.statements 0 parts.0;
      due = λ month le lt. due l.statements l.nodes (l.next - l.first) l.first month parts.1 le (omega arith);
    }

pub rule_back : (cap : ℕ) (l : Ledger) → RuleHolds cap l → broken_places cap l ≡ []
unfolding broken_places
rule_back cap l h =
    let rows = bad-back cap l l.statements 0 h.all (omega (arith, h.few)) in
    let none = due-back l.statements l.nodes (l.next - l.first) l.first (λ month le lt. h.due month le (omega arith)) in
    rw (rows, none) refl
