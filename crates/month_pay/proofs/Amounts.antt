-- The sums of a month and the pots stay far below the bounds that a close asks.
use Rattle.std.proofs.Common.{◌≡◌, ℕ, suc, ◌+◌, ◌-◌, ◌*◌, ◌^◌, ◌<◌, ◌≤◌, Bool, true, false, List, [], ◌∷◌, ◌++◌, length, refl, sym, ap, subst, ◌∙◌, append_assoc, arith}
use Rattle.std.proofs.lemmas.List.{append-nil}
use Rattle.node_registry.specs.Registry.{node_at}
use Rattle.std.specs.Prelude.{All, if◌then◌else◌, ◌==◌, ◌&&◌, nat_lt, filter}
use Rattle.std.specs.List.{sum_by}
use Rattle.std.proofs.Math.Nat.{mul-le-mul_right}
use Rattle.std.proofs.lemmas.List.Elements.{All-nil, All-cons}
use Rattle.std.proofs.lemmas.List.Sums.{sum_by-cons}
use Rattle.std.proofs.lemmas.Bool.Decides.{nat_tests}
use Rattle.std.proofs.lemmas.Bool.{and_parts}
use Rattle.sat_base.specs.declared.ids.NodeId.{NodeId}
use Rattle.sat_base.specs.declared.rates.Tariff.{Tariff}
use Rattle.order_limits.specs.declared.limit.Action.{Action}
use Rattle.rows.specs.Rows.{IsRising, Each}
use Rattle.settlement.specs.declared.row.SettledRow.{SettledRow}
use Rattle.tally_payout.specs.declared.amounts.Tally.{Tally}
use Rattle.tally_payout.specs.declared.amounts.Statement.{Statement}
use Rattle.tally_payout.specs.Tariff.{IsSums, IsRates, tariff_in, rates_of}
use Rattle.tally_payout.specs.Statement.{last_pot}
use Rattle.tally_payout.proofs.StatementLemmas.{gross-lt}
use Rattle.tally_payout.proofs.TariffLemmas.{rates_fit}
use Rattle.month_pay.specs.Months.{month_at, month_of_hour}
use Rattle.tally_payout.specs.Ranks.{statement_rank}
use Rattle.month_pay.specs.Ledger.{Ledger, is_get, is_audit, is_repair, moved, settled_in, tallied_in, sums_of, pot_before}
use Rattle.month_pay.specs.Rule.{follows, is_closed, is_sound_statement}
use Rattle.month_pay.specs.Keeping.{RuleHolds, of_node, AreFit}
use Rattle.month_pay.proofs.ListFacts.{each-all}
use Rattle.month_pay.proofs.Conserved.{is_stated, is_whole, balanced, before}

pub each-filter : {X : Type 0} (P : X → Type 0) (test : X → Bool) (xs : List X) → Each P xs → Each P (filter test xs)
each-filter P test [] each = tt
each-filter P test (x ∷ xs) each = go (test x) (each-filter P test xs each.1)
  where
    go : (b : Bool) → Each P (filter test xs) → Each P (if b then x ∷ filter test xs else filter test xs)
    go true later = (each.0, later)
    go false later = later

pub length-filter : {X : Type 0} (test : X → Bool) (xs : List X) → length (filter test xs) ≤ length xs
length-filter test [] = omega arith
length-filter test (x ∷ xs) = go (test x) (length-filter test xs)
  where
    go : (b : Bool) → length (filter test xs) ≤ length xs → length (if b then x ∷ filter test xs else filter test xs) ≤ suc (length xs)
    go true later = omega (arith, later)
    go false later = omega (arith, later)

pub sum-most : {X : Type 0} (f : X → ℕ) (most : ℕ) (xs : List X) → Each (λ x. f x ≤ most) xs → sum_by f xs ≤ length xs * most
sum-most f most [] each = omega arith
sum-most f most (x ∷ xs) each = omega (arith, sum_by-cons f x xs, each.0, sum-most f most xs each.1)

few-most : (count rows most : ℕ) → count ≤ rows → count * most ≤ rows * most
few-most count rows most le = mul-le-mul_right most le

pub moved-most : (for : Action → Bool) (rows : List SettledRow) (node : NodeId) (month : ℕ) → Each (λ row. row.amount < 2 ^ 64) rows → length rows ≤ 4194304 → moved for (settled_in rows node month) < 2 ^ 90
unfolding settled_in
moved-most for rows node month each few =
    let own = filter (λ (row : SettledRow). (row.node.0 == node.0) && (month_at row.at == month)) rows in
    let all = filter (λ (row : SettledRow). for row.action) own in
    let small : Each (λ (row : SettledRow). row.amount ≤ 2 ^ 64) rows = weaker rows each in
    let most : sum_by (λ (row : SettledRow). row.amount) all ≤ length all * 2 ^ 64 = sum-most (λ (row : SettledRow). row.amount) (2 ^ 64) all (each-filter (λ (row : SettledRow). row.amount ≤ 2 ^ 64) (λ row. for row.action) own (each-filter (λ (row : SettledRow). row.amount ≤ 2 ^ 64) (λ row. (row.node.0 == node.0) && (month_at row.at == month)) rows small)) in
    let count : length all ≤ 4194304 = omega (arith, length-filter (λ (row : SettledRow). for row.action) own, length-filter (λ (row : SettledRow). (row.node.0 == node.0) && (month_at row.at == month)) rows, few) in
    omega (arith, most, few-most (length all) 4194304 (2 ^ 64) count)
  where
    weaker : (xs : List SettledRow) → Each (λ row. row.amount < 2 ^ 64) xs → Each (λ row. row.amount ≤ 2 ^ 64) xs
    weaker [] h = tt
    weaker (x ∷ xs) h = (omega (arith, h.0), weaker xs h.1)

tallied-most : (rows : List Tally) (node : NodeId) (month : ℕ) → Each (λ row. row.bytes ≤ 2 ^ 44) rows → length rows ≤ 4194304 → sum_by (λ row. row.bytes) (tallied_in rows node month) < 2 ^ 90
unfolding tallied_in
tallied-most rows node month each few =
    let own = filter (λ (row : Tally). (row.node.0 == node.0) && (month_of_hour row.hour.0 == month)) rows in
    let most : sum_by (λ (row : Tally). row.bytes) own ≤ length own * 2 ^ 44 = sum-most (λ (row : Tally). row.bytes) (2 ^ 44) own (each-filter (λ (row : Tally). row.bytes ≤ 2 ^ 44) (λ row. (row.node.0 == node.0) && (month_of_hour row.hour.0 == month)) rows each) in
    let count : length own ≤ 4194304 = omega (arith, length-filter (λ (row : Tally). (row.node.0 == node.0) && (month_of_hour row.hour.0 == month)) rows, few) in
    omega (arith, most, few-most (length own) 4194304 (2 ^ 44) count)

pub sums_most : (settled : List SettledRow) (tallies : List Tally) (node : NodeId) (month : ℕ) → Each (λ row. row.amount < 2 ^ 64) settled → length settled ≤ 4194304
    → Each (λ row. row.bytes ≤ 2 ^ 44) tallies → length tallies ≤ 4194304 → IsSums (sums_of settled tallies node month)
sums_most settled tallies node month amounts orders bytes hours = record {
  fetched = moved-most is_get settled node month amounts orders;
  audited = moved-most is_audit settled node month amounts orders;
  repaired = moved-most is_repair settled node month amounts orders;
  kept = tallied-most tallies node month bytes hours;
}

pub sums_fit : (l : Ledger) (node : NodeId) (month : ℕ) → AreFit l → IsSums (sums_of l.settled l.tallies node month)
sums_fit l node month fit = sums_most l.settled l.tallies node month fit.amounts fit.orders fit.bytes fit.hours

pub rated : (tariffs : List Tariff) → Each (λ tariff. IsRates tariff.rates) tariffs → All (λ tariff. IsRates tariff.rates) tariffs
rated [] each = All-nil (λ (tariff : Tariff). IsRates tariff.rates)
rated (x ∷ xs) each = All-cons (λ (tariff : Tariff). IsRates tariff.rates) x xs each.0 (rated xs each.1)

module _ (l : Ledger) (fit : AreFit l) where
  held-most : (s : Statement) → is_sound_statement l s ≡ true → s.held < 2 ^ 83
  held-most s sound =
      let whole = is_whole l s sound in
      let gross : s.parts.gross < 2 ^ 83 = rw whole.tariff (gross-lt (rates_of (tariff_in s.month.0 l.tariffs)) (sums_of l.settled l.tallies s.node s.month.0) (rates_fit s.month.0 l.tariffs (rated l.tariffs fit.rates)) (sums_fit l s.node s.month.0 fit)) in
      omega (arith, whole.gross, gross)

  -- a pot grows by less than 2^83 a month
  abbrev SmallPot : Statement → Type 0
  SmallPot s = (l.first ≤ s.month.0) × (s.pot ≤ (s.month.0 + 1 - l.first) * 2 ^ 83)

  last-small : (month pot : ℕ) (zs : List Statement) → l.first ≤ month → pot ≤ (month - l.first) * 2 ^ 83 → Each SmallPot zs → Each (λ z. z.month.0 < month) zs → last_pot pot zs ≤ (month - l.first) * 2 ^ 83
  last-small month pot [] begun small each early = small
  last-small month pot (z ∷ zs) begun small each early =
      let before_month : z.month.0 < month = early.0 in
      let fewer : z.month.0 + 1 - l.first ≤ month - l.first = omega arith in
      let next : z.pot ≤ (month - l.first) * 2 ^ 83 = omega (arith, each.0.1, few-most (z.month.0 + 1 - l.first) (month - l.first) (2 ^ 83) fewer) in
      last-small month z.pot zs begun next each.1 early.1

  early-own : (node : NodeId) (month : ℕ) (xs : List Statement) → Each (λ z. z.month.0 < month) (filter (λ x. (x.node.0 == node.0) && nat_lt x.month.0 month) xs)
  early-own node month [] = tt
  early-own node month (x ∷ xs) = go (x.node.0 == node.0) (nat_lt x.month.0 month) refl (early-own node month xs)
    where
      go : (a b : Bool) → nat_lt x.month.0 month ≡ b → Each (λ z. z.month.0 < month) (filter (λ z. (z.node.0 == node.0) && nat_lt z.month.0 month) xs)
          → Each (λ z. z.month.0 < month) (if a && b then x ∷ filter (λ z. (z.node.0 == node.0) && nat_lt z.month.0 month) xs else filter (λ z. (z.node.0 == node.0) && nat_lt z.month.0 month) xs)
      go true true e later = (grind (arith, nat_tests, e), later)
      go true false e later = later
      go false b e later = later

  small-before : (node : NodeId) (month : ℕ) (rows : List Statement) → l.first ≤ month → Each SmallPot (filter (λ x. (x.node.0 == node.0) && nat_lt x.month.0 month) rows) → pot_before rows node month ≤ (month - l.first) * 2 ^ 83
  unfolding pot_before
  small-before node month rows begun each = last-small month 0 (filter (λ x. (x.node.0 == node.0) && nat_lt x.month.0 month) rows) begun (omega arith) each (early-own node month rows)

  each-snoc : (P : Statement → Type 0) (xs : List Statement) (s : Statement) → Each P xs → P s → Each P (xs ++ s ∷ [])
  each-snoc P [] s each one = (one, tt)
  each-snoc P (x ∷ xs) s each one = (each.0, each-snoc P xs s each.1 one)

  -- those of statements that follow from the rows, whatever stands behind them
  small : (xs ys zs : List Statement) → xs ++ (ys ++ zs) ≡ l.statements → IsRising statement_rank (xs ++ (ys ++ zs)) → Each SmallPot xs → Each (λ s. is_sound_statement l s ≡ true) ys → Each SmallPot (xs ++ ys)
  small xs [] zs whole rising each sound = append-nothing xs each
    where
      append-nothing : (zs : List Statement) → Each SmallPot zs → Each SmallPot (zs ++ [])
      append-nothing [] h = tt
      append-nothing (z ∷ zs) h = (h.0, append-nothing zs h.1)
  small xs (s ∷ ys) zs whole rising each sound =
      let moved_on : (xs ++ s ∷ []) ++ (ys ++ zs) ≡ xs ++ s ∷ (ys ++ zs) = append_assoc xs (s ∷ []) (ys ++ zs) in
      let moved_off : (xs ++ s ∷ []) ++ ys ≡ xs ++ s ∷ ys = append_assoc xs (s ∷ []) ys in
      let closed = (and_parts (is_closed l s.month.0) (follows l s (node_at l.nodes s.node)) sound.0).0 in
      let begun : l.first ≤ s.month.0 = grind (arith, nat_tests, closed) in
      let b = balanced l s (is_stated l s sound.0) in
      let held = held-most s sound.0 in
      let own : filter (λ x. (x.node.0 == s.node.0) && nat_lt x.month.0 s.month.0) l.statements ≡ of_node s.node xs = ap (filter (λ x. (x.node.0 == s.node.0) && nat_lt x.month.0 s.month.0)) (sym whole) ∙ before s.node s refl xs (ys ++ zs) rising in
      let pot = small-before s.node s.month.0 l.statements begun (subst (λ (xs : List Statement). Each SmallPot xs) (sym own) (each-filter SmallPot (λ x. x.node.0 == s.node.0) xs each)) in
      let more : s.pot ≤ (s.month.0 - l.first) * 2 ^ 83 + 2 ^ 83 = omega (arith, b.all, pot, held) in
      let here : SmallPot s = (begun, omega (arith, more)) in
      subst (λ (xs : List Statement). Each SmallPot xs) moved_off (small (xs ++ s ∷ []) ys zs (moved_on ∙ whole) (subst (λ (xs : List Statement). IsRising statement_rank xs) (sym moved_on) rising) (each-snoc SmallPot xs s each here) sound.1)

  small-all : (rows : List Statement) → rows ≡ l.statements → IsRising statement_rank rows → Each (λ s. is_sound_statement l s ≡ true) rows → Each SmallPot rows
  small-all rows is rising sound =
      let whole : rows ++ [] ≡ rows = append-nil rows in
      small [] rows [] (whole ∙ is) (subst (λ (xs : List Statement). IsRising statement_rank xs) (sym whole) rising) tt sound

  -- the pots of the first statements, as long as these follow from the rows
  pub fronts_fit : (xs zs : List Statement) → xs ++ zs ≡ l.statements → IsRising statement_rank l.statements → Each (λ s. is_sound_statement l s ≡ true) xs → Each (λ s. s.pot < 2 ^ 98) xs
  fronts_fit xs zs whole rising sound = bounded xs (small [] xs zs whole (subst (λ (ys : List Statement). IsRising statement_rank ys) (sym whole) rising) tt sound) sound
    where
      bounded : (ys : List Statement) → Each SmallPot ys → Each (λ s. is_sound_statement l s ≡ true) ys → Each (λ s. s.pot < 2 ^ 98) ys
      bounded [] each sound = tt
      bounded (s ∷ ys) each sound =
          let closed = (and_parts (is_closed l s.month.0) (follows l s (node_at l.nodes s.node)) sound.0).0 in
          let over : s.month.0 < l.next = grind (arith, nat_tests, closed) in
          (omega (arith, each.0.1, few-most (s.month.0 + 1 - l.first) 26135 (2 ^ 83) (omega (arith, fit.last, fit.begins, over))), bounded ys each.1 sound.1)

  pub pots_fit : (cap : ℕ) (node : NodeId) → RuleHolds cap l → IsRising statement_rank l.statements → l.first ≤ l.next → pot_before l.statements node l.next < 2 ^ 98
  pots_fit cap node h rising begun =
      let each = small-all l.statements refl rising (each-all (is_sound_statement l) (λ s. is_sound_statement l s ≡ true) (λ s sound. sound) l.statements h.all) in
      let pot = small-before node l.next l.statements begun (each-filter SmallPot (λ x. (x.node.0 == node.0) && nat_lt x.month.0 l.next) l.statements each) in
      omega (arith, pot, few-most (l.next - l.first) 26135 (2 ^ 83) (omega (arith, fit.last, fit.begins)))
