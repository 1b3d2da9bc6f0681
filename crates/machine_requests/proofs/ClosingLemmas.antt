-- What is kept beside valid tables closes their next month.
use Rattle.std.proofs.Common.{ℕ, List}
use Rattle.tally_payout.specs.Tariff.{tariff_in, rates_of}
use Rattle.month_sums.specs.declared.sums.OpenSums.{OpenSums}
use Rattle.month_sums.specs.Closing.{CanClose, GoByLedger, GoByPots}
use Rattle.month_sums.specs.Open.{GoByRows}
use Rattle.month_sums.proofs.Ready.{can, goes, each-got}
use Rattle.machine_step.specs.Bounds.{IsValid}
use Rattle.machine_step.specs.Tables.{Tables, ledger_of}
use Rattle.machine_step.proofs.BoundLemmas.{are_fit, are_apart_all}
use Rattle.machine_step.proofs.HourRows.{nodes_are}
use Rattle.machine_step.proofs.MarkLemmas.{month-first}
use Rattle.machine_step.proofs.Paid.{statements_of}

module _ (t : Tables) (v : IsValid t) (pots : List ℕ) (sums : List OpenSums) (kept : GoByPots (ledger_of t) pots) (go_by : GoByRows sums t.settled t.tallies t.statements) where
  pub can_close : CanClose t.marks.month.0 t.nodes pots sums t.left (rates_of (tariff_in t.marks.month.0 t.tariffs))
  can_close =
      let hold = statements_of t v in
      can (ledger_of t) (nodes_are t v) (month-first t.setup t.marks v.rules.marks) t.setup.caps.statements pots sums (are_fit t v) hold.rule hold.rising go_by kept
      (λ i node got. each-got _ t.nodes i node (are_apart_all t v t.marks.month.0) got)

  pub goes_by : GoByLedger (ledger_of t) pots sums t.left (rates_of (tariff_in t.marks.month.0 t.tariffs))
  goes_by = goes (ledger_of t) (nodes_are t v) (month-first t.setup t.marks v.rules.marks) t.setup.caps.statements pots sums (statements_of t v).rule go_by kept
