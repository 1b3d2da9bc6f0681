-- The statements of a month can be printed: they are at most as many as nodes, and their amounts are small.
use Rattle.std.proofs.Common.{◌≡◌, ℕ, suc, ◌+◌, ◌-◌, ◌*◌, ◌<◌, ◌≤◌, ◌^◌, Bool, true, false, List, [], ◌∷◌, ◌++◌, length, append-nil, Option, Some, None, refl, sym, ap, subst, ◌∙◌, arith}
use Rattle.std.specs.Prelude.{All, if◌then◌else◌, nat_lt, ◌==◌, ◌&&◌, filter}
use Rattle.std.proofs.lemmas.List.Elements.{All-nil, All-cons}
use Rattle.std.proofs.lemmas.Bool.Decides.{nat_tests}
use Rattle.rows.specs.Rows.{row_at, AllAbove, IsRising}
use Rattle.rows.proofs.Rising.{rising-filter}
use Rattle.node_registry.specs.declared.node.Node.{Node}
use Rattle.node_registry.specs.Registry.{node_at}
use Rattle.tally_payout.specs.declared.amounts.Statement.{Statement}
use Rattle.tally_payout.specs.Ranks.{month_place, statement_rank}
use Rattle.tally_payout.specs.Sheet.{IsPrintable}
use Rattle.tally_payout.specs.Statement.{last_pot}
use Rattle.tally_payout.specs.Tariff.{tariff_in, rates_of}
use Rattle.tally_payout.proofs.StatementLemmas.{PartsLe, parts_of-le, gross-lt, IsPrintable-small}
use Rattle.tally_payout.proofs.TariffLemmas.{rates_fit}
use Rattle.month_pay.specs.Ledger.{pot_before, sums_of}
use Rattle.month_pay.specs.Rule.{is_sound_statement}
use Rattle.month_pay.proofs.Amounts.{each-filter, sums_fit, rated, fronts_fit}
use Rattle.month_pay.proofs.Conserved.{is_stated, is_whole, balanced}
use Rattle.month_pay.proofs.ListFacts.{each-all}
use Rattle.machine_step.specs.Bounds.{Each, IsValid}
use Rattle.machine_step.specs.Tables.{Tables, ledger_of}
use Rattle.machine_step.proofs.BoundLemmas.{are_fit}
use Rattle.machine_step.proofs.Paid.{statements_of}
use Rattle.sat_machine.proofs.Doable.{found-within}

last-lt : (pot : ℕ) (zs : List Statement) → pot < 2 ^ 98 → Each (λ z. z.pot < 2 ^ 98) zs → last_pot pot zs < 2 ^ 98
last-lt pot [] small each = small
last-lt pot (z ∷ zs) small each = last-lt z.pot zs each.0 each.1

each-tested : (test : Statement → Bool) (P : Statement → Type 0) (rows : List Statement) → Each P rows → Each (λ s. (test s ≡ true) × P s) (filter test rows)
each-tested test P [] each = tt
each-tested test P (s ∷ rows) each = go (test s) refl (each-tested test P rows each.1)
  where
    go : (b : Bool) → test s ≡ b → Each (λ s. (test s ≡ true) × P s) (filter test rows) → Each (λ s. (test s ≡ true) × P s) (if b then s ∷ filter test rows else filter test rows)
    go true is later = ((is, each.0), later)
    go false is later = later

-- rows of rising ranks are at most as many as there are ranks
few-ranks : (rows : List Statement) (low high : ℕ) → IsRising statement_rank rows → AllAbove statement_rank low rows → Each (λ s. statement_rank s ≤ high) rows → length rows ≤ high - low
few-ranks [] low high rising above most = omega arith
few-ranks (s ∷ rows) low high rising above most =
    let rest = few-ranks rows (statement_rank s) high rising.1 rising.0 most.1 in
    omega (arith, rest, above.0, most.0)

all-above : (low : ℕ) (rows : List Statement) → Each (λ s. low < statement_rank s) rows → AllAbove statement_rank low rows
all-above low [] each = tt
all-above low (s ∷ rows) each = (each.0, all-above low rows each.1)

all-of : (rows : List Statement) → Each IsPrintable rows → All IsPrintable rows
all-of [] each = All-nil IsPrintable
all-of (s ∷ rows) each = All-cons IsPrintable s rows each.0 (all-of rows each.1)

weaken : (P Q : Statement → Type 0) → ((s : Statement) → P s → Q s) → (rows : List Statement) → Each P rows → Each Q rows
weaken P Q so [] each = tt
weaken P Q so (s ∷ rows) each = (so s each.0, weaken P Q so rows each.1)

module _ (t : Tables) (v : IsValid t) where
  sound-all : Each (λ s. is_sound_statement (ledger_of t) s ≡ true) t.statements
  sound-all = each-all (is_sound_statement (ledger_of t)) (λ s. is_sound_statement (ledger_of t) s ≡ true) (λ s sound. sound) t.statements (statements_of t v).rule.all

  pots-small : Each (λ s. s.pot < 2 ^ 98) t.statements
  pots-small = fronts_fit (ledger_of t) (are_fit t v) t.statements [] (append-nil t.statements) v.order.statements sound-all

  pot-small : (s : Statement) → pot_before t.statements s.node s.month.0 < 2 ^ 98
  unfolding pot_before
  pot-small s = last-lt 0 (filter (λ x. (x.node.0 == s.node.0) && nat_lt x.month.0 s.month.0) t.statements) (omega arith)
      (each-filter (λ x. x.pot < 2 ^ 98) (λ x. (x.node.0 == s.node.0) && nat_lt x.month.0 s.month.0) t.statements pots-small)

  printable : (s : Statement) → is_sound_statement (ledger_of t) s ≡ true → IsPrintable s
  printable s sound =
      let l = ledger_of t in
      let whole = is_whole l s sound in
      let rates = rates_of (tariff_in s.month.0 l.tariffs) in
      let sums = sums_of l.settled l.tallies s.node s.month.0 in
      let gross : s.parts.gross < 2 ^ 83 = rw whole.tariff (gross-lt rates sums (rates_fit s.month.0 l.tariffs (rated l.tariffs (are_fit t v).rates)) (sums_fit l s.node s.month.0 (are_fit t v))) in
      let parts : PartsLe s.parts = rw whole.tariff (parts_of-le rates sums) in
      IsPrintable-small (pot_before t.statements s.node s.month.0) s (balanced l s (is_stated l s sound)) parts gross (omega (arith, pot-small s))

  -- the node is one of 65536
  node-within : (s : Statement) → is_sound_statement (ledger_of t) s ≡ true → (1 ≤ s.node.0) × (s.node.0 ≤ 65536)
  node-within s sound = let h = is_stated (ledger_of t) s sound in found-within t v s.node.0 h.node h.known

  pub sheet_printable : (month : ℕ) → All IsPrintable (filter (λ s. s.month.0 == month) t.statements)
  sheet_printable month = all-of (filter (λ s. s.month.0 == month) t.statements)
      (each-filter IsPrintable (λ s. s.month.0 == month) t.statements (weaken (λ s. is_sound_statement (ledger_of t) s ≡ true) IsPrintable printable t.statements sound-all))

  pub sheet_few : (month : ℕ) → length (filter (λ s. s.month.0 == month) t.statements) ≤ 65536
  sheet_few month =
      let rows = filter (λ s. s.month.0 == month) t.statements in
      let each = each-tested (λ s. s.month.0 == month) (λ s. is_sound_statement (ledger_of t) s ≡ true) t.statements sound-all in
      let low = weaken (λ s. ((s.month.0 == month) ≡ true) × (is_sound_statement (ledger_of t) s ≡ true)) (λ s. month_place month 0 < statement_rank s)
      (λ s h. let n = node-within s h.1 in let is = h.0 in let same : s.month.0 ≡ month = grind (arith, nat_tests, is) in omega (arith, n.0, same)) rows each in
      let high = weaken (λ s. ((s.month.0 == month) ≡ true) × (is_sound_statement (ledger_of t) s ≡ true)) (λ s. statement_rank s ≤ month_place month 65536)
      (λ s h. let n = node-within s h.1 in let is = h.0 in let same : s.month.0 ≡ month = grind (arith, nat_tests, is) in omega (arith, n.1, same)) rows each in
      let few = few-ranks rows (month_place month 0) (month_place month 65536) (rising-filter statement_rank (λ s. s.month.0 == month) t.statements v.order.statements) (all-above (month_place month 0) rows low) high in
      omega (arith, few)
