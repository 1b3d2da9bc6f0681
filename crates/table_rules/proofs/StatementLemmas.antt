-- What the pass over the statements is to know of the rows.
use Rattle.std.proofs.Common.{◌≡◌, ℕ, zero, suc, ◌^◌, ◌<◌, List, [], ◌∷◌, map, Some, refl, ap, ◌∙◌}
use Rattle.std.specs.Prelude.{slice_get}
use Rattle.rows.specs.Rows.{Each}
use Rattle.sat_base.specs.declared.settings.Settings.{Settings}
use Rattle.sat_base.specs.declared.settings.Marks.{Marks}
use Rattle.sat_base.specs.declared.rates.Tariff.{Tariff}
use Rattle.node_registry.specs.declared.node.Node.{Node}
use Rattle.node_registry.specs.declared.node.Left.{Left}
use Rattle.tally_payout.specs.declared.amounts.Sums.{Sums}
use Rattle.tally_payout.specs.declared.amounts.Statement.{Statement}
use Rattle.month_pay.specs.Ledger.{Ledger}
use Rattle.month_sums.specs.declared.sums.OpenSums.{OpenSums}
use Rattle.month_sums.specs.Open.{sums_at}
use Rattle.month_sums.specs.Opening.{GoByAll}
use Rattle.table_rules.specs.Statements.{IsLedgerOf}
use Rattle.month_sums.proofs.Ready.{each-got}

got-map : {X Y : Type 0} (f : X → Y) (xs : List X) (i : ℕ) (x : X) → slice_get xs i ≡ Some x → slice_get (map f xs) i ≡ Some (f x)
got-map f [] i x got = absurd cc
got-map {X} {Y} f (y ∷ ys) zero x got = let same : y ≡ x = cc in ap (λ (z : X). Some (f z)) same
got-map f (y ∷ ys) (suc i) x got = got-map f ys i x got

pub by_all : (l : Ledger) (settings : Settings) (marks : Marks) (nodes : List Node) (rows : List Statement) (kept : List OpenSums) (left : List Left) (tariffs : List Tariff) (sums : List Sums)
    → IsLedgerOf l settings marks nodes rows kept left tariffs → sums ≡ map (λ s. sums_at kept s.month.0 s.node) rows → Each (λ s. s.node.0 < 2 ^ 32) rows
    → GoByAll l settings.first_month.0 marks.month.0 nodes rows sums left tariffs
by_all l settings marks nodes rows kept left tariffs sums is are low = record {
  first_is = is.first;
  next_is = is.next;
  nodes_are = is.nodes_are;
  rows_are = is.rows_are;
  sums_are = λ i s got. ap (λ (xs : List Sums). slice_get xs i) are ∙ (got-map (λ (x : Statement). sums_at kept x.month.0 x.node) rows i s got
      ∙ ap (λ (x : Sums). Some x) (is.sums s.node s.month.0 (each-got (λ (x : Statement). x.node.0 < 2 ^ 32) rows i s low got) refl));
  left_is = is.left_is;
  tariffs_are = is.tariffs_are;
  fit = is.fit;
  numbered = is.numbered;
  rising = is.rising;
  low = low;
}
