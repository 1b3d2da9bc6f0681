-- A legal history keeps what operators are paid by.
use Rattle.std.proofs.Common.{◌≡◌, List, ◌++◌, ◌∙◌, ap, sym, subst}
use Rattle.std.specs.Prelude.{map}
use Rattle.std.proofs.lemmas.List.{map-append}
use Rattle.month_pay.proofs.Conserved.{all_whole, node_conserved}
use Rattle.machine_step.specs.Bounds.{IsValid}
use Rattle.machine_step.specs.Closed.{StaysClosed}
use Rattle.machine_step.specs.Tables.{Tables, ledger_of}
use Rattle.machine_step.proofs.Paid.{statements_of}
use Rattle.machine_history.specs.History.{Said, IsLegal, replay}
use Rattle.machine_history.proofs.HistoryLemmas.{valid_law, closed_law, legal-append}
use Rattle.sat_book.specs.Legal.{E, said_of, replayed}
use Rattle.sat_book.specs.Paid.{IsPaidByTariff, PaysByTariff, ClosedMonthsStay}

paid_now : (start : Tables) (history : List E) → IsValid start → IsLegal start (map said_of history) → IsPaidByTariff (replayed start history)
paid_now start history v legal =
    let t = replayed start history in
    let hold = statements_of t (valid_law start (map said_of history) v legal) in
    record {
      whole = all_whole t.setup.caps.statements (ledger_of t) hold.rule;
      node = λ node. node_conserved t.setup.caps.statements (ledger_of t) node hold.rule hold.rising;
    }

pub pays_by_tariff : (start : Tables) (history : List E) → IsValid start → IsLegal start (map said_of history) → PaysByTariff start history
pays_by_tariff start history v legal before more is =
    let said : map said_of history ≡ map said_of before ++ map said_of more = ap (λ (h : List E). map said_of h) (sym is) ∙ map-append said_of before more in
    paid_now start before v (legal-append (map said_of before) (map said_of more) start (subst (IsLegal start) said legal)).0

pub closed_months : (start : Tables) (history : List E) → IsValid start → IsLegal start (map said_of history) → ClosedMonthsStay start history
closed_months start history v legal before more is =
    let said : map said_of history ≡ map said_of before ++ map said_of more = ap (λ (h : List E). map said_of h) (sym is) ∙ map-append said_of before more in
    subst (λ (h : List Said). StaysClosed (replay start (map said_of before)) (replay start h)) (sym said)
    (closed_law start (map said_of before) (map said_of more) v (subst (IsLegal start) said legal))
