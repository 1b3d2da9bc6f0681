-- Valid tables keep the bounds that a close asks.
use Rattle.std.proofs.Common.{◌≡◌, ℕ, ◌^◌, ◌≤◌, Bool, true, false, List, [], ◌∷◌, Some, refl, sym, ap, ◌∙◌, arith}
use Rattle.std.specs.Prelude.{◌==◌, ◌||◌, ◌&&◌, nat_lt, nat_le}
use Rattle.std.specs.List.{list_all, list_any}
use Rattle.std.proofs.lemmas.Bool.Decides.{nat_tests}
use Rattle.std.proofs.lemmas.Bool.{and_parts}
use Rattle.sat_base.specs.declared.rates.Tariff.{Tariff}
use Rattle.sat_base.specs.Limits.{IsTariffWithin}
use Rattle.rows.specs.Rows.{row_at}
use Rattle.node_registry.specs.declared.node.Node.{Node}
use Rattle.node_registry.specs.declared.node.Left.{Left}
use Rattle.node_registry.specs.declared.node.Status.{Status}
use Rattle.node_registry.specs.declared.node.Status.TheVariants as status
use Rattle.node_registry.specs.Registry.{node_rank, node_at}
use Rattle.node_registry.specs.Standing.{is_disqualified}
use Rattle.tally_payout.specs.Tariff.{IsRates}
use Rattle.tally_payout.specs.declared.amounts.Tally.{Tally}
use Rattle.month_pay.specs.Months.{month_at}
use Rattle.month_pay.specs.Ledger.{has_left}
use Rattle.month_pay.specs.Keeping.{AreFit}
use Rattle.month_pay.proofs.ListFacts.{each-all, each-weaker, each-at}
use Rattle.machine_step.specs.Tables.{Tables, ledger_of}
use Rattle.machine_step.specs.Rules.{is_known, is_sound_tally}
use Rattle.machine_step.specs.PlanRules.{is_exited, has_exited, is_sound_left}
use Rattle.machine_step.specs.Bounds.{Each, IsValid}
use Rattle.machine_step.proofs.Validity.{steady_of}
use Rattle.machine_step.proofs.HourRows.{nodes_are}

module _ (t : Tables) (v : IsValid t) where
  tally-most : (row : Tally) → is_sound_tally t.marks t.nodes row ≡ true → row.bytes ≤ 2 ^ 44
  tally-most row sound =
      let parts = and_parts (is_known t.nodes row.node) _ sound in
      let more = and_parts (nat_lt row.hour.0 t.marks.hour.0) _ parts.1 in
      let bytes = and_parts (nat_le 1 row.bytes) (nat_le row.bytes (2 ^ 44)) more.1 in
      let most = bytes.1 in
      grind (arith, nat_tests, most)

  rated : (tariff : Tariff) → IsTariffWithin tariff → IsRates tariff.rates
  rated tariff within = record { fetching = omega (arith, within.rates.get); auditing = omega (arith, within.rates.audit); repairing = omega (arith, within.rates.repair); keeping = omega (arith, within.rates.storage) }

  pub are_fit : AreFit (ledger_of t)
  are_fit = record {
    amounts = v.bounds.settled;
    orders = omega (arith, (steady_of t v).settled.few, v.bounds.setup.caps.settled.1);
    bytes = each-all (is_sound_tally t.marks t.nodes) (λ row. row.bytes ≤ 2 ^ 44) tally-most t.tallies (steady_of t v).tallies.all;
    hours = omega (arith, (steady_of t v).tallies.few, v.bounds.setup.caps.tallies.1);
    rates = each-weaker IsTariffWithin (λ tariff. IsRates tariff.rates) rated t.tariffs v.bounds.tariffs;
    last = v.bounds.marks.month.1;
    begins = v.bounds.setup.first_month.0;
  }

  -- one that has left in good order isn't disqualified
  not-both : (s : Status) → is_exited s ≡ true → is_disqualified s ≡ true → ⊥
  not-both status.Active e d = cc
  not-both status.Disqualified e d = cc
  not-both status.Exiting e d = cc
  not-both status.Exited e d = cc

  stays-here : (month : ℕ) (node : Node) (rows : List Left) → node_at t.nodes node.id ≡ Some node → is_disqualified node.status ≡ true → list_all (is_sound_left t.marks t.nodes) rows ≡ true → has_left rows node.id month ≡ false
  unfolding has_left
  stays-here month node [] at gone all = refl
  stays-here month node (row ∷ rest) at gone all =
      let parts = and_parts (is_sound_left t.marks t.nodes row) _ all in
      let exited = (and_parts (has_exited (node_at t.nodes row.node)) (nat_le row.at t.marks.time) parts.0).0 in
      go (row.node.0 == node.id.0) refl exited (stays-here month node rest at gone parts.1)
    where
      go : (b : Bool) → (row.node.0 == node.id.0) ≡ b → has_exited (node_at t.nodes row.node) ≡ true → list_any (λ r. (r.node.0 == node.id.0) && nat_le (month_at r.at) month) rest ≡ false
          → ((b && nat_le (month_at row.at) month) || list_any (λ r. (r.node.0 == node.id.0) && nat_le (month_at r.at) month) rest) ≡ false
      go true e exited later =
          let same : row.node.0 ≡ node.id.0 = grind (arith, nat_tests, e) in
          let there : node_at t.nodes row.node ≡ Some node = ap (λ (k : ℕ). row_at node_rank t.nodes k) same ∙ at in
          absurd (not-both node.status (sym (ap has_exited there) ∙ exited) gone)
      go false e exited later = later

  pub are_apart_all : (month : ℕ) → Each (λ node. is_disqualified node.status && has_left t.left node.id month ≡ false) t.nodes
  are_apart_all month = each-weaker (λ node. node_at t.nodes node.id ≡ Some node) (λ node. is_disqualified node.status && has_left t.left node.id month ≡ false) (λ node at. go node at (is_disqualified node.status) refl) t.nodes (each-at node_rank t.nodes (nodes_are t v).rising)
    where
      go : (node : Node) → node_at t.nodes node.id ≡ Some node → (b : Bool) → is_disqualified node.status ≡ b → (b && has_left t.left node.id month) ≡ false
      go node at true e = stays-here month node t.left at e (steady_of t v).left.all
      go node at false e = refl
