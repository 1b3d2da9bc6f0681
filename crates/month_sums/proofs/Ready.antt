-- What is kept beside the rows is what a close asks.
use Rattle.std.proofs.Common.{◌≡◌, ℕ, zero, suc, ◌^◌, ◌<◌, ◌≤◌, List, [], ◌∷◌, length, Option, Some, None, refl, sym, subst, arith}
use Rattle.std.specs.Prelude.{slice_get}
use Rattle.sat_base.specs.declared.ids.NodeId.{NodeId}
use Rattle.rows.specs.Rows.{row_at, AllAbove, IsRising, Each}
use Rattle.node_registry.specs.declared.node.Node.{Node}
use Rattle.node_registry.specs.Registry.{node_rank}
use Rattle.tally_payout.specs.declared.amounts.Sums.{Sums}
use Rattle.tally_payout.specs.declared.amounts.Statement.{Statement}
use Rattle.tally_payout.specs.Tariff.{IsSums, tariff_in, rates_of}
use Rattle.tally_payout.specs.Ranks.{month_place, statement_rank}
use Rattle.month_pay.specs.Ledger.{Ledger, pot_before, sums_of}
use Rattle.month_pay.specs.Rule.{is_sound_statement}
use Rattle.month_pay.specs.Keeping.{AreNodes, AreFit, RuleHolds}
use Rattle.rows.proofs.Found.{rank-found, all-found}
use Rattle.month_pay.proofs.Closing.{old-below}
use Rattle.month_pay.proofs.Amounts.{sums_fit, rated, pots_fit}
use Rattle.tally_payout.proofs.TariffLemmas.{rates_fit}
use Rattle.month_sums.specs.declared.sums.OpenSums.{OpenSums}
use Rattle.month_sums.specs.Open.{sums_at, GoByRows}
use Rattle.month_sums.specs.Closing.{CanClose, GoByLedger, GoByPots, AreApart}

-- what holds of each row holds of one that is got
pub each-got : {X : Type 0} (P : X → Type 0) (xs : List X) (i : ℕ) (x : X) → Each P xs → slice_get xs i ≡ Some x → P x
each-got P [] i x each got = absurd cc
each-got P (y ∷ ys) zero x each got = let same : y ≡ x = cc in subst P same each.0
each-got P (y ∷ ys) (suc i) x each got = each-got P ys i x each.1 got

pub above-each : (nodes : List Node) (n : ℕ) → AllAbove node_rank n nodes → Each (λ node. n < node.id.0) nodes
above-each [] n above = tt
above-each (node ∷ nodes) n above = (above.0, above-each nodes n above.1)

got-some : (xs : List ℕ) (i : ℕ) → i < length xs → (P : Type 0) → ((x : ℕ) → slice_get xs i ≡ Some x → P) → P
got-some [] i lt P so = absurd (omega arith)
got-some (x ∷ xs) zero lt P so = so x refl
got-some (x ∷ xs) (suc i) lt P so = got-some xs i (omega arith) P so

got-lt : {X : Type 0} (xs : List X) (i : ℕ) (x : X) → slice_get xs i ≡ Some x → i < length xs
got-lt [] i x got = cc
got-lt (y ∷ ys) zero x got = omega arith
got-lt (y ∷ ys) (suc i) x got = omega (arith, got-lt ys i x got)

got-node : (nodes : List Node) (i : ℕ) → i < length nodes → (P : Type 0) → ((node : Node) → slice_get nodes i ≡ Some node → P) → P
got-node [] i lt P so = absurd (omega arith)
got-node (node ∷ nodes) zero lt P so = so node refl
got-node (node ∷ nodes) (suc i) lt P so = got-node nodes i (omega arith) P so

module _ (l : Ledger) (nodes : AreNodes l.nodes) (begun : l.first ≤ l.next) where
  -- no statement of the next month is there yet
  none_yet : (cap : ℕ) (node : NodeId) → 0 < node.0 → RuleHolds cap l → row_at statement_rank l.statements (month_place l.next node.0) ≡ None
  none_yet cap node some h = go (row_at statement_rank l.statements (month_place l.next node.0)) refl
    where
      go : (found : Option Statement) → row_at statement_rank l.statements (month_place l.next node.0) ≡ found → row_at statement_rank l.statements (month_place l.next node.0) ≡ None
      go None at = at
      go (Some s) at =
          let rank : statement_rank s ≡ month_place l.next node.0 = rank-found statement_rank l.statements (month_place l.next node.0) s at in
          let sound = all-found statement_rank (is_sound_statement l) l.statements (month_place l.next node.0) s h.all at in
          absurd (omega (arith, rank, old-below l nodes begun s sound))

  sums-are : (cap : ℕ) (sums : List OpenSums) → RuleHolds cap l → GoByRows sums l.settled l.tallies l.statements → (xs : List Node) → Each (λ node. node.id.0 < 2 ^ 32) xs → Each (λ node. 0 < node.id.0) xs
      → Each (λ node. sums_at sums l.next node.id ≡ sums_of l.settled l.tallies node.id l.next) xs
  sums-are cap sums h go_by [] low some = tt
  sums-are cap sums h go_by (node ∷ rest) low some = (go_by node.id l.next low.0 (none_yet cap node.id some.0 h), sums-are cap sums h go_by rest low.1 some.1)

  all-sums : (cap : ℕ) (sums : List OpenSums) → RuleHolds cap l → GoByRows sums l.settled l.tallies l.statements → Each (λ node. sums_at sums l.next node.id ≡ sums_of l.settled l.tallies node.id l.next) l.nodes
  all-sums cap sums h go_by = sums-are cap sums h go_by l.nodes nodes.low (above-each l.nodes 0 nodes.some)

  pub goes : (cap : ℕ) (pots : List ℕ) (sums : List OpenSums) → RuleHolds cap l → GoByRows sums l.settled l.tallies l.statements → GoByPots l pots → GoByLedger l pots sums l.left (rates_of (tariff_in l.next l.tariffs))
  goes cap pots sums h go_by kept = record { left_is = refl; rates_are = refl; sums_are = all-sums cap sums h go_by; pots_are = kept.each }

  pub can : (cap : ℕ) (pots : List ℕ) (sums : List OpenSums) → AreFit l → RuleHolds cap l → IsRising statement_rank l.statements → GoByRows sums l.settled l.tallies l.statements → GoByPots l pots → AreApart l
      → CanClose l.next l.nodes pots sums l.left (rates_of (tariff_in l.next l.tariffs))
  can cap pots sums fit h rising go_by kept apart = record {
    early = fit.last;
    long = kept.long;
    small = λ i pot got. got-node l.nodes i (omega (arith, got-lt pots i pot got, kept.long)) (pot < 2 ^ 100) (λ node at.
        let same : pot ≡ pot_before l.statements node.id l.next = one pot _ i got (kept.each i node at) in
        omega (arith, same, pots_fit l fit cap node.id h rising begun));
    fit = λ i node at. subst (λ (s : Sums). IsSums s) (sym (each-got (λ node. sums_at sums l.next node.id ≡ sums_of l.settled l.tallies node.id l.next) l.nodes i node (all-sums cap sums h go_by) at)) (sums_fit l node.id l.next fit);
    rated = rates_fit l.next l.tariffs (rated l.tariffs fit.rates);
    apart = apart;
  }
    where
      one : (x y i : ℕ) → slice_get pots i ≡ Some x → slice_get pots i ≡ Some y → x ≡ y
      one x y i p q = cc
